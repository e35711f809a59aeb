-- Plain cores: they are tests, and their negation is record by record.
use mathlib.Core.Path.{◌≡◌, refl, sym, ap, ◌∙◌}
use mathlib.Core.Logic.{◌⊎◌, inl, inr}
use mathlib.Core.Bool.{Bool, true, false, not, ◌&&◌, ◌||◌, and_assoc, and-true, false≢true}
use mathlib.Core.List.{List, [], ◌∷◌, ◌++◌, append_assoc, append-nil}
use Prim.Native.Nat.{ℕ, ◌+◌, ◌*◌, ◌≤◌, ◌<◌}
use native.Mathlib.Omega.{arith}
use borrow.Author.Tests.{le-leb}
use lib.Dec.{eqb}
use lib.ListN.{length, get_or, length-append}
use lib.Seq.{sets}
use Rattle.literals.proofs.Logic.{and_both, and_left, and_right}
use Rattle.expr.specs.Terms.{Op1, Op2, Core, leaf, one, two, Zero, One, Top, Dup, End, Assign, Test, Union, Intersect, Xor, Difference, Sequence, LtlUntil, Complement, Star, LtlNext, atom_kind, op1_kind, op2_kind, test_kind, size}
use Rattle.std.specs.Prelude.{Ok, Err}
use Rattle.desugar.specs.declared.test_negation.NegationError.TheVariants.{TooLarge}
use Rattle.desugar.specs.Negation.{is_test, negate}
use Rattle.desugar.specs.Memory.{words, Holds, Kept, Lies, CopyRoom, words_all, size_all}
use Rattle.desugar.specs.NegationOutcome.{Negates}
use Rattle.desugar.specs.NegationRun.{all_kinds, core_kind, core_field, core_value, operands, own_words}
use Rattle.desugar.specs.PlainNegation.{plain_kind, is_plain}
use Rattle.desugar.proofs.Regions.{moved, none, joined, under, over, stored, kept_sets, length_words, size_pos}
use Rattle.desugar.proofs.Forest.{Spot, spot, kinds_of, words_all_long, size_open}
use Rattle.desugar.proofs.Turns.{value_small}
use Rattle.desugar.proofs.PassEnds.{too_large}
use Rattle.desugar.proofs.Outcomes.{large}

-- ## Forests of plain cores

abbrev all_plain : List Core → Bool
all_plain [] = true
all_plain (c ∷ cs) = is_plain c && all_plain cs

plain_op1 : (o : Op1) → plain_kind (op1_kind o) ≡ false
plain_op1 Complement = refl
plain_op1 Star = refl
plain_op1 LtlNext = refl

plain_open : (c : Core) (cs : List Core) → all_plain (c ∷ cs) ≡ (plain_kind (core_kind c) && all_plain (operands c ++ cs))
plain_open (leaf p) cs = refl
plain_open (one o a) cs = rw plain_op1
plain_open (two o a b) cs = rw (and_assoc (plain_kind (op2_kind o)) (is_plain a && is_plain b) (all_plain cs), and_assoc (is_plain a) (is_plain b) (all_plain cs))

pub plain_kinds : {xs : List ℕ} {i n : ℕ} (c : Core) → Lies xs i n c → all_kinds plain_kind xs i n ≡ is_plain c
plain_kinds c h = kinds_of plain_kind all_plain refl plain_open c h ∙ and-true (is_plain c)

-- ## The negation of a plain core

kind_test : (k : ℕ) → plain_kind k ≡ true → test_kind k ≡ true
kind_test k e = and_right (not (eqb k 9 || eqb k 10)) (test_kind k) e

-- the operator and the operands of a plain core are plain
parts : (o : Op2) (a b : Core) → is_plain (two o a b) ≡ true → (plain_kind (op2_kind o) ≡ true) × (is_plain a ≡ true) × (is_plain b ≡ true)
parts o a b e =
    let both : (is_plain a && is_plain b) ≡ true = and_right (plain_kind (op2_kind o)) (is_plain a && is_plain b) e in
    (and_left (plain_kind (op2_kind o)) (is_plain a && is_plain b) e, and_left (is_plain a) (is_plain b) both, and_right (is_plain a) (is_plain b) both)

plain_test : (c : Core) → is_plain c ≡ true → is_test c ≡ true
plain_test (leaf a) e = kind_test (atom_kind a) e
plain_test (one o c) e = e
plain_test (two o a b) e = let p = parts o a b e in and_both (kind_test (op2_kind o) p.0) (and_both (plain_test a p.1) (plain_test b p.2))

plain_size : (c : Core) → is_plain c ≡ true → size (negate c) ≡ size c
plain_size (leaf a) e = refl
plain_size (one o c) e = refl
plain_size (two o a b) e = let p = parts o a b e in go o p.0 (plain_size a p.1) (plain_size b p.2)
  where
    go : (o : Op2) → plain_kind (op2_kind o) ≡ true → size (negate a) ≡ size a → size (negate b) ≡ size b → size (negate (two o a b)) ≡ size (two o a b)
    go Union p l r = omega arith
    go Intersect p l r = omega arith
    go Xor p l r = absurd (false≢true p)
    go Difference p l r = absurd (false≢true p)
    go Sequence p l r = omega arith
    go LtlUntil p l r = refl

-- the words of the negations of cores, one behind the other
abbrev negated_all : List Core → List ℕ
negated_all [] = []
negated_all (c ∷ cs) = words (negate c) ++ negated_all cs

-- what is written for a core's first record
abbrev turned : Core → List ℕ
turned c = own_words 1 0 (core_kind c) (core_field c) (core_value c)

negated_open : (c : Core) (cs : List Core) → plain_kind (core_kind c) ≡ true → negated_all (c ∷ cs) ≡ turned c ++ negated_all (operands c ++ cs)
negated_open (leaf Zero) cs e = refl
negated_open (leaf One) cs e = refl
negated_open (leaf Top) cs e = absurd (false≢true e)
negated_open (leaf Dup) cs e = absurd (false≢true e)
negated_open (leaf End) cs e = absurd (false≢true e)
negated_open (leaf (Assign f v)) cs e = absurd (false≢true e)
negated_open (leaf (Test f true)) cs e = refl
negated_open (leaf (Test f false)) cs e = refl
negated_open (one o a) cs e = absurd (false≢true (sym (plain_op1 o) ∙ e))
negated_open (two Union a b) cs e = rw append_assoc
negated_open (two Intersect a b) cs e = rw append_assoc
negated_open (two Xor a b) cs e = absurd (false≢true e)
negated_open (two Difference a b) cs e = absurd (false≢true e)
negated_open (two Sequence a b) cs e = rw append_assoc
negated_open (two LtlUntil a b) cs e = absurd (false≢true e)

-- ## One record a turn

-- the pass over the core t before record j: the cores that are left, and the words that are written
pub record Turning (xs : List ℕ) (t : Core) (at n to j : ℕ) : Type 0 where
  pub plan : List Core
  pub plain : all_plain plan ≡ true
  pub records : Holds xs (at + 3 * j) (words_all plan)
  pub left : j + size_all plan ≡ n
  pub done : List ℕ
  pub written : Holds xs to done
  pub long : length done ≡ 3 * j
  pub goal : done ++ negated_all plan ≡ words (negate t)

pub begin : {xs : List ℕ} {t : Core} {at n to : ℕ} → to ≤ length xs → Lies xs at n t → is_plain t ≡ true → Turning xs t at n to 0
begin {xs} {t} {at} {n} {to} room h e = record {
  plan = t ∷ [];
  plain = ap (λ (b : Bool). b && true) e;
  records = moved h.holds (omega arith) (sym (append-nil (words t)));
  left = omega (arith, h.count);
  done = [];
  written = none xs to room;
  long = refl;
  goal = append-nil (words (negate t));
}

-- what the code writes for the record at index here, and the memory after it is written for record j
abbrev own_at : List ℕ → ℕ → List ℕ
own_at xs here = own_words 1 0 (get_or xs here 0) (get_or xs (here + 1) 0) (get_or xs (here + 2) 0)

abbrev wrote : List ℕ → (at to j : ℕ) → List ℕ
wrote xs at to j = sets xs (to + 3 * j) (own_at xs (at + 3 * j))

pub wrote_kept : (xs : List ℕ) (at to j : ℕ) → Kept to xs (wrote xs at to j)
wrote_kept xs at to j = kept_sets to xs (to + 3 * j) (own_at xs (at + 3 * j)) (omega arith)

module _ {xs : List ℕ} {at n to j : ℕ} (room : CopyRoom (length xs) at to (3 * n)) (l : j < n) where
  -- the records that are left are not written over
  beside : (to ≤ at) ⊎ (at + 3 * n ≤ to) → (c : Core) (cs : List Core) → j + size_all (c ∷ cs) ≡ n
      → Holds xs (at + 3 * j + 3) (words_all (operands c ++ cs)) → Holds (sets xs (to + 3 * j) (turned c)) (at + 3 * j + 3) (words_all (operands c ++ cs))
  beside (inl down) c cs e h = over (to + 3 * j) (turned c) (omega arith) h
  beside (inr past) c cs e h = under (to + 3 * j) (turned c) (omega (arith, size_open c cs, words_all_long (operands c ++ cs))) h

  pub turn : {t : Core} → Turning xs t at n to j → (get_or xs (at + 3 * j + 2) 0 ≤ 1) × Turning (wrote xs at to j) t at n to (j + 1)
  turn {t} r = go r.plan r.plain r.records r.left r.goal
    where
      go : (plan : List Core) → all_plain plan ≡ true → Holds xs (at + 3 * j) (words_all plan) → j + size_all plan ≡ n → r.done ++ negated_all plan ≡ words (negate t)
          → (get_or xs (at + 3 * j + 2) 0 ≤ 1) × Turning (wrote xs at to j) t at n to (j + 1)
      go [] p h e g = absurd (omega arith)
      go (c ∷ cs) p h e g =
          let s : Spot xs (at + 3 * j) c cs = spot c cs h in
          let own : wrote xs at to j ≡ sets xs (to + 3 * j) (turned c) = λ i. sets xs (to + 3 * j) (own_words 1 0 (s.kind i) (s.field i) (s.value i)) in
          let plains : (plain_kind (core_kind c) && all_plain (operands c ++ cs)) ≡ true = sym (plain_open c cs) ∙ p in
          let next : Turning (sets xs (to + 3 * j) (turned c)) t at n to (j + 1) = record {
            plan = operands c ++ cs;
            plain = and_right (plain_kind (core_kind c)) _ plains;
            records = moved (beside room.apart c cs e s.rest) (omega arith) refl;
            left = omega (arith, size_open c cs);
            done = r.done ++ turned c;
            written = joined r.done (turned c) (under (to + 3 * j) (turned c) (omega (arith, r.long)) r.written) (moved (stored xs (to + 3 * j) (turned c) (omega (arith, room.target))) (omega (arith, r.long)) refl);
            long = omega (arith, r.long, length-append r.done (turned c));
            goal = append_assoc r.done (turned c) (negated_all (operands c ++ cs)) ∙ ap (λ (w : List ℕ). r.done ++ w) (sym (negated_open c cs (and_left (plain_kind (core_kind c)) _ plains))) ∙ g;
          } in
          (omega (arith, s.value, value_small c), rw own next)

pub ended : {xs : List ℕ} {t : Core} {at n to j : ℕ} → n ≤ j → Turning xs t at n to j → Lies xs to n (negate t)
ended {xs} {t} {at} {n} {to} {j} l r = record { holds = moved r.written refl all_done; count = omega (arith, r.left, r.long, ap length all_done, length_words (negate t)) }
  where
    none_left : (plan : List Core) → size_all plan ≡ 0 → negated_all plan ≡ []
    none_left [] e = refl
    none_left (c ∷ cs) e = absurd (omega (arith, size_pos c))

    all_done : r.done ≡ words (negate t)
    all_done = sym (append-nil r.done) ∙ ap (λ (w : List ℕ). r.done ++ w) (sym (none_left r.plan (omega (arith, r.left)))) ∙ r.goal

-- ## The two endings

pub plain_large : {xs : List ℕ} {c : Core} {at to n limit : ℕ} → Lies xs at n c → is_plain c ≡ true → limit < n → Negates xs c to limit (Err TooLarge)
plain_large {xs} {c} {at} {to} {n} {limit} h e l = large {out = to} (plain_test c e) (too_large (omega (arith, h.count, plain_size c e))) refl

pub plain_fits : {xs : List ℕ} {c : Core} {to n limit : ℕ} → is_plain c ≡ true → n ≤ limit → Lies xs to n (negate c) → Negates xs c to limit (Ok n)
plain_fits {xs} {c} {to} {n} {limit} e l h = record {
  is = rw (plain_test c e, le-leb (size (negate c)) limit (omega (arith, h.count)), ← h.count);
  holds = λ t m. h.holds;
}
