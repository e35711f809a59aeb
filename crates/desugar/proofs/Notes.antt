-- The notes in memory: how a record's note is found from those of its operands, and a turn of the backward pass.
use mathlib.Core.Path.{◌≡◌, refl, sym, ap, ◌∙◌, subst}
use mathlib.Core.Bool.{Bool, true, false, cond, ◌&&◌, false≢true}
use mathlib.Core.List.{List, [], ◌∷◌, ◌++◌}
use Prim.Native.Nat.{ℕ, suc, ◌+◌, ◌*◌, ◌-◌, ◌/◌, ◌%◌, ◌^◌, ◌≤◌, ◌<◌}
use native.Mathlib.Omega.{arith}
use lib.Dec.{eqb}
use lib.ListN.{length, get_or, set}
use lib.Seq.{get_or-set_same}
use borrow.Author.Tests.{lt-ltb, le-ltb}
use Rattle.literals.specs.Bits.{bit}
use Rattle.literals.proofs.Logic.{and_left}
use Rattle.literals.proofs.Bits.{bit_small}
use Rattle.expr.specs.Terms.{Atom, Op2, Core, leaf, one, two, Zero, One, Top, Dup, End, Assign, Test, Union, Intersect, Xor, Difference, Sequence, LtlUntil, atom_kind, op2_kind, size}
use Rattle.desugar.specs.declared.test_negation.notes.Note.{Note}
use Rattle.desugar.specs.declared.test_negation.places.Places.{Places}
use Rattle.desugar.specs.Negation.{is_test, is_one, again}
use Rattle.desugar.specs.Memory.{Holds, Kept, Lies, size_all}
use Rattle.desugar.specs.NegationRun.{core_kind, operands, all_test, opened, forest_at, one_again, note, notes_of, notes_all, left_at, right_at, leaf_note, pair_note, note_at, note_number, TwoNotes, CanNote}
use Rattle.desugar.proofs.Regions.{moved, right, head, cons, over, same_at, kept_then, kept_sets, size_pos}
use Rattle.desugar.proofs.Forest.{At, at, notes_open, notes_long, notes_all_long, size_at, tests_at, leaf_kind, op_kind}

-- ## A note's two parts

pub half : (c : Core) → note c / 2 ≡ size c
half c = omega (arith, bit_small (one_again c))

pub odd : (c : Core) → note c % 2 ≡ bit (one_again c)
odd c = omega (arith, bit_small (one_again c))

bit_is : (b : Bool) → eqb (bit b) 1 ≡ b
bit_is true = refl
bit_is false = refl

pub odd_is : (c : Core) → eqb (note c % 2) 1 ≡ one_again c
odd_is c = ap (λ (k : ℕ). eqb k 1) (odd c) ∙ bit_is (one_again c)

-- ## Notes in memory

pub first_note : {xs : List ℕ} {i : ℕ} (c : Core) (cs : List Core) → Holds xs i (notes_all (c ∷ cs)) → get_or xs i 0 ≡ note c
first_note c cs h = head (moved h refl (notes_open c cs))

pub next_notes : {xs : List ℕ} {i : ℕ} (c : Core) (cs : List Core) → Holds xs i (notes_all (c ∷ cs)) → Holds xs (i + size c) (notes_all cs)
next_notes c cs h = moved (right (notes_of c) (notes_all cs) h) (omega (arith, notes_long c)) refl

-- the notes of a record's two operands
pub record Pair (xs : List ℕ) (i : ℕ) (a b : Core) : Type 0 where
  pub left_in : i + 1 < length xs
  pub right_in : i + 1 + left_at xs i / 2 < length xs
  pub left : left_at xs i ≡ note a
  pub right : right_at xs i ≡ note b

pub pair : {xs : List ℕ} {i : ℕ} (a b : Core) (cs : List Core) → Holds xs (i + 1) (notes_all (a ∷ b ∷ cs)) → Pair xs i a b
pair {xs} {i} a b cs h =
    let l : left_at xs i ≡ note a = first_note a (b ∷ cs) h in
    let skip : left_at xs i / 2 ≡ size a = ap (λ (k : ℕ). k / 2) l ∙ half a in
    let long : length (notes_all (a ∷ b ∷ cs)) ≡ size_all (a ∷ b ∷ cs) = notes_all_long (a ∷ b ∷ cs) in
    record {
      left_in = omega (arith, h.fits, size_pos a);
      right_in = omega (arith, h.fits, size_pos b);
      left = l;
      right = same_at xs (omega arith) ∙ first_note b cs (next_notes a (b ∷ cs) h);
    }

-- ## The note of a record, as it is computed

both_one : (x y : Bool) (a b : Core) → is_one a ≡ x → is_one b ≡ y → is_one (cond x b (cond y a (two Sequence a b))) ≡ (x && y)
both_one true y a b p q = q
both_one false true a b p q = p
both_one false false a b p q = refl

-- desugared again it is One if it is a Sequence and both its operands are
one_again_pair : (o : Op2) (a b : Core) → one_again (two o a b) ≡ (eqb (op2_kind o) 11 && (one_again a && one_again b))
one_again_pair Union a b = refl
one_again_pair Intersect a b = refl
one_again_pair Xor a b = refl
one_again_pair Difference a b = refl
one_again_pair Sequence a b = both_one (one_again a) (one_again b) (again a) (again b) refl refl
one_again_pair LtlUntil a b = refl

leaf_is : (p : Atom) → leaf_note (atom_kind p) ≡ note (leaf p)
leaf_is Zero = refl
leaf_is One = refl
leaf_is Top = refl
leaf_is Dup = refl
leaf_is End = refl
leaf_is (Assign f v) = refl
leaf_is (Test f v) = refl

pair_is : (o : Op2) (a b : Core) → pair_note (op2_kind o) (note a) (note b) ≡ note (two o a b)
pair_is o a b = simp (half a, half b, odd_is a, odd_is b, one_again_pair o a b) (omega arith)

pub note_is : (xs : List ℕ) (here i : ℕ) (c : Core) (cs : List Core) → is_test c ≡ true → get_or xs here 0 ≡ core_kind c → Holds xs (i + 1) (notes_all (operands c ++ cs)) → note_at xs here i ≡ note c
note_is xs here i (leaf p) cs t k h = simp (k, lt-ltb (atom_kind p) 7 (leaf_kind p)) (leaf_is p)
note_is xs here i (one o a) cs t k h = absurd (false≢true t)
note_is xs here i (two o a b) cs t k h =
    let p : Pair xs i a b = pair a b cs h in
    rw (k, le-ltb (op2_kind o) 7 (op_kind o), p.right, p.left) (pair_is o a b)

-- the notes of the operands of an operator
pub two_notes : (xs : List ℕ) (i : ℕ) (c : Core) (cs : List Core) → is_test c ≡ true → size c < 2 ^ 30 → 7 ≤ core_kind c → Holds xs (i + 1) (notes_all (operands c ++ cs)) → TwoNotes xs i
two_notes xs i (leaf p) cs t s k h = absurd (omega (arith, leaf_kind p))
two_notes xs i (one o a) cs t s k h = absurd (false≢true t)
two_notes xs i (two o a b) cs t s k h =
    let p : Pair xs i a b = pair a b cs h in
    record { left_in = p.left_in; right_in = p.right_in; small = omega (arith, p.left, p.right, bit_small (one_again a), bit_small (one_again b)) }

-- an operator has an operand
op_size : (c : Core) → 7 ≤ core_kind c → 2 ≤ size c
op_size (leaf p) k = absurd (omega (arith, leaf_kind p))
op_size (one o a) k = omega (arith, size_pos a)
op_size (two o a b) k = omega (arith, size_pos a)

-- ## A turn of the backward pass, at record j

module _ {xs₀ xs : List ℕ} (p : Places) (j : ℕ) (room : p.notes + p.core.count ≤ length xs₀) (kept : Kept p.notes xs₀ xs) (l : j < p.core.count) where
  module _ (t : Core) (lies : Lies xs₀ p.core.at p.core.count t) (test : is_test t ≡ true) (done : Holds xs (p.notes + suc j) (notes_all (forest_at (suc j) (t ∷ [])))) where
    spot : At xs₀ (p.core.at + 3 * j) j t
    spot = at t lies j l

    is_test_fact : is_test spot.core ≡ true
    is_test_fact = and_left (is_test spot.core) (all_test spot.others) (ap all_test (sym spot.is) ∙ tests_at j (t ∷ []) (ap (λ (b : Bool). b && true) test))

    is_kind : get_or xs (p.core.at + 3 * j) 0 ≡ core_kind spot.core
    is_kind = kept.each (p.core.at + 3 * j) (omega (arith, p.notes_at)) ∙ spot.spot.kind

    after : Holds xs (p.notes + j + 1) (notes_all (operands spot.core ++ spot.others))
    after = moved done (omega arith) (ap (λ (fs : List Core). notes_all (opened fs)) spot.is)

    inner : 7 ≤ core_kind spot.core → suc j < p.core.count
    inner k = omega (arith, op_size spot.core k, ap size_all spot.is, size_at j (t ∷ []), lies.count)

    pub turn_can : {a : Note} → (suc j < p.core.count → note_number a ≡ left_at xs (p.notes + j)) → CanNote xs (p.core.at + 3 * j) (p.notes + j) a
    turn_can last = record {
      here_in = omega (arith, kept.long, p.notes_at);
      note_in = omega (arith, kept.long);
      operands_in = λ k. two_notes xs (p.notes + j) spot.core spot.others is_test_fact (omega (arith, ap size_all spot.is, size_at j (t ∷ []), lies.count, p.small)) (omega (arith, is_kind)) after;
      first = λ k. last (inner (omega (arith, is_kind)));
    }

    pub turn_notes : Holds (set xs (p.notes + j) (note_at xs (p.core.at + 3 * j) (p.notes + j))) (p.notes + j) (notes_all (forest_at j (t ∷ [])))
    turn_notes =
        moved
        (cons
        (get_or-set_same xs (p.notes + j) (note_at xs (p.core.at + 3 * j) (p.notes + j)) 0 (omega (arith, kept.long))
        ∙ note_is xs (p.core.at + 3 * j) (p.notes + j) spot.core spot.others is_test_fact is_kind after)
        (over (p.notes + j) (note_at xs (p.core.at + 3 * j) (p.notes + j) ∷ []) (omega arith) after))
        refl
        (sym (notes_open spot.core spot.others) ∙ ap notes_all (sym spot.is))

  pub turn_kept : Kept p.notes xs₀ (set xs (p.notes + j) (note_at xs (p.core.at + 3 * j) (p.notes + j)))
  turn_kept = kept_then kept (kept_sets p.notes xs (p.notes + j) (note_at xs (p.core.at + 3 * j) (p.notes + j) ∷ []) (omega arith))

-- what is noted from k on, where k is no 0
pub back : {xs : List ℕ} (notes k : ℕ) (t : Core) → 0 < k → Holds xs (notes + k) (notes_all (forest_at k (t ∷ []))) → Holds xs (notes + suc (k - 1)) (notes_all (forest_at (suc (k - 1)) (t ∷ [])))
back {xs} notes k t l h = subst (λ (m : ℕ). Holds xs (notes + m) (notes_all (forest_at m (t ∷ [])))) (omega arith) h
