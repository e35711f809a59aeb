-- Which of the cores that desugaring makes are tests.
use mathlib.Core.Path.{◌≡◌, refl, sym, ◌∙◌}
use mathlib.Core.Bool.{Bool, true, false, cond, not, ◌&&◌, ◌||◌, beq, false≢true}
use mathlib.Core.Option.{some}
use mathlib.Core.List.{List, [], ◌∷◌, ◌++◌}
use Prim.Native.Nat.{ℕ, suc, ◌+◌, ◌-◌, ◌^◌, ◌≤◌}
use native.Mathlib.Omega.{arith}
use lib.Dec.{eqb}
use lib.ListN.{length, drop}
use Rattle.literals.specs.Bits.{Bits, pad, value_of}
use Rattle.literals.specs.Patterns.{Cidr, Exact, IpRange, Wildcard}
use Rattle.literals.proofs.Bits.{length_pad}
use Rattle.literals.proofs.Logic.{and_both, and_left, and_right, eqb_is, false_of}
use Rattle.expr.specs.Operations.{is_test_use}
use Rattle.expr.specs.Terms.{Alias, Assign, Assigns, Atom, Core, Difference, Direct, Dup, End, Intersect, LtlUntil, Matches, One, Op2, Sequence, Test, Tests, Top, Union, Use, Where, Xor, Zero, atom_kind, leaf, one, op2_kind, test_kind, two}
use Rattle.desugar.specs.Leaves.{assign_chain, between, between_case, bound, chain, each_bit, high_first, masked_tests, differences, test_chain, use_core}
use Rattle.desugar.specs.Negation.{again, is_one, is_test, join, negate}
use Rattle.desugar.proofs.Decides.{LiteralSuits, RangeSuits}

one_is_test : (c : Core) → is_one c ≡ true → is_test c ≡ true
one_is_test (leaf Zero) e = refl
one_is_test (leaf One) e = refl
one_is_test (leaf Top) e = e
one_is_test (leaf Dup) e = e
one_is_test (leaf End) e = e
one_is_test (leaf (Assign f v)) e = e
one_is_test (leaf (Test f v)) e = refl
one_is_test (one o c) e = e
one_is_test (two o a b) e = absurd (false≢true e)

and_true : (a : Bool) → (a && true) ≡ a
and_true true = refl
and_true false = refl

pub test_of_sequence : (a b : Core) (x y : Bool) → is_one a ≡ x → is_one b ≡ y
    → is_test (cond x b (cond y a (two Sequence a b))) ≡ (is_test a && is_test b)
test_of_sequence a b true y p q = rw (one_is_test a p)
test_of_sequence a b false true p q = rw (one_is_test b q) (sym (and_true (is_test a)))
test_of_sequence a b false false p q = refl

pub test_of_join : (o : Op2) (a b : Core) → is_test (join o a b) ≡ (test_kind (op2_kind o) && (is_test a && is_test b))
test_of_join Union a b = refl
test_of_join Intersect a b = refl
test_of_join Xor a b = refl
test_of_join Difference a b = refl
test_of_join Sequence a b = test_of_sequence a b (is_one a) (is_one b) refl refl
test_of_join LtlUntil a b = refl

pub test_of_again : (c : Core) → is_test (again c) ≡ is_test c
test_of_again (leaf a) = refl
test_of_again (one o c) = refl
test_of_again (two o a b) = rw (test_of_join o (again a) (again b), test_of_again a, test_of_again b)

pub test_of_negate : (c : Core) → is_test c ≡ true → is_test (negate c) ≡ true
test_of_negate (leaf Zero) e = refl
test_of_negate (leaf One) e = refl
test_of_negate (leaf Top) e = e
test_of_negate (leaf Dup) e = e
test_of_negate (leaf End) e = e
test_of_negate (leaf (Assign f v)) e = e
test_of_negate (leaf (Test f v)) e = refl
test_of_negate (one o c) e = e
test_of_negate (two Union a b) e = and_both (test_of_negate a (and_left _ _ e)) (test_of_negate b (and_right (is_test a) _ e))
test_of_negate (two Intersect a b) e = and_both (test_of_negate a (and_left _ _ e)) (test_of_negate b (and_right (is_test a) _ e))
test_of_negate (two Xor a b) e = e
test_of_negate (two Difference a b) e = and_both (test_of_negate a (and_left _ _ e)) (test_of_again b ∙ and_right (is_test a) _ e)
test_of_negate (two Sequence a b) e = and_both (test_of_negate a (and_left _ _ e)) (test_of_negate b (and_right (is_test a) _ e))
test_of_negate (two LtlUntil a b) e = absurd (false≢true e)

-- every core of a list is a test
abbrev pub AllTests : List Core → Type 0
AllTests [] = Unit {0}
AllTests (c ∷ cs) = (is_test c ≡ true) × AllTests cs

pub test_of_chain : (o : Op2) (a : Atom) (cs : List Core) → test_kind (op2_kind o) ≡ true → test_kind (atom_kind a) ≡ true → AllTests cs → is_test (chain o a cs) ≡ true
test_of_chain o a [] p q h = q
test_of_chain o a (c ∷ []) p q h = h.0
test_of_chain o a (c ∷ (d ∷ cs)) p q h = and_both p (and_both h.0 (test_of_chain o a (d ∷ cs) p q h.1))

all_append : (cs ds : List Core) → AllTests cs → AllTests ds → AllTests (cs ++ ds)
all_append [] ds h k = k
all_append (c ∷ cs) ds h k = (h.0, all_append cs ds h.1 k)

all_each : (s : ℕ) (a : Bits) → AllTests (each_bit Test s a)
all_each s [] = tt
all_each s (b ∷ a) = (refl, all_each (suc s) a)

all_masked : (s : ℕ) (a m : Bits) → AllTests (masked_tests s a m)
all_masked s [] m = tt
all_masked s (b ∷ a) [] = tt
all_masked s (b ∷ a) (true ∷ m) = all_masked (suc s) a m
all_masked s (b ∷ a) (false ∷ m) = (refl, all_masked (suc s) a m)

all_high_first : (s : ℕ) (a : Bits) → AllTests (high_first s a)
all_high_first s [] = tt
all_high_first s (b ∷ a) = all_append (high_first (suc s) a) _ (all_high_first (suc s) a) (refl, tt)

all_cond : (x : Bool) (cs : List Core) → AllTests cs → AllTests (cond x cs [])
all_cond true cs h = h
all_cond false cs h = tt

all_differences : (d : Bool) (s : ℕ) (a : Bits) → AllTests (differences d s a)
all_differences d s [] = tt
all_differences d s (b ∷ a) =
    let own : List Core = high_first (suc s) a ++ leaf (Test s (not d)) ∷ [] in
    all_append (differences d (suc s) a) _ (all_differences d (suc s) a)
    (all_cond (beq b d) (chain Intersect One own ∷ [])
    (test_of_chain Intersect One own refl refl (all_append (high_first (suc s) a) _ (all_high_first (suc s) a) (refl, tt)), tt))

pub test_of_test_chain : (s : ℕ) (a : Bits) → is_test (test_chain s a) ≡ true
test_of_test_chain s a = test_of_chain Intersect One (each_bit Test s a) refl refl (all_each s a)

pub test_of_masked : (s : ℕ) (a m : Bits) → is_test (chain Intersect One (masked_tests s a m)) ≡ true
test_of_masked s a m = test_of_chain Intersect One (masked_tests s a m) refl refl (all_masked s a m)

pub test_of_bound : (d : Bool) (s : ℕ) (a : Bits) → is_test (bound d s a) ≡ true
test_of_bound d s a =
    test_of_chain Union Zero (differences d s a ++ _) refl refl
    (all_append (differences d s a) _ (all_differences d s a) (test_of_chain Intersect One (high_first s a) refl refl (all_high_first s a), tt))

test_of_between_case : (x low high : Bool) (s : ℕ) (a b : Bits) → is_test (between_case x low high s a b) ≡ true
test_of_between_case true low high s a b = test_of_test_chain s a
test_of_between_case false true true s a b = refl
test_of_between_case false true false s a b = test_of_bound true s b
test_of_between_case false false true s a b = test_of_bound false s a
test_of_between_case false false false s a b = and_both (test_of_bound false s a) (test_of_bound true s b)

pub test_of_between : (s : ℕ) (a b : Bits) → is_test (between s a b) ≡ true
test_of_between s a b = test_of_between_case (eqb (value_of a) (value_of b)) (eqb (value_of a) 0) (eqb (value_of b + 1) (2 ^ length b)) s a b

-- an assignment of no bits is One, and any other is no test
test_of_assign : (s : ℕ) (a : Bits) → is_test (assign_chain s a) ≡ eqb (length a) 0
test_of_assign s [] = refl
test_of_assign s (b ∷ []) = refl
test_of_assign s (b ∷ (c ∷ a)) = sym (false_of (eqb (suc (suc (length a))) 0) (λ e. absurd (omega (arith, (eqb_is (suc (suc (length a))) 0).0 e))))

pub literal_short : (w : Where) (a : Bits) (n : ℕ) → LiteralSuits w a n → length a ≤ n
literal_short (Direct s e) a n h = omega arith
literal_short (Alias x) a n h = h

same_test : (a b : Bool) → (a ≡ true → b ≡ true) → (b ≡ true → a ≡ true) → a ≡ b
same_test true b f g = sym (f refl)
same_test false true f g = g refl
same_test false false f g = refl

-- the core of a use of a range is a test exactly where the written use is one
pub test_of_use : (w : Where) (u : Use) (r : ℕ × ℕ) → RangeSuits w u (some r) → is_test (use_core u r.0 (r.1 - r.0)) ≡ (is_test_use u || eqb r.0 r.1)
test_of_use w (Assigns a) r h =
    let n : ℕ = r.1 - r.0 in
    let e : length (pad n a) ≡ n = length_pad n a (literal_short w a n h.1) in
    test_of_assign r.0 (pad n a)
    ∙ same_test (eqb (length (pad n a)) 0) (eqb r.0 r.1)
    (λ z. (eqb_is r.0 r.1).1 (omega (arith, (eqb_is (length (pad n a)) 0).0 z, h.0, e)))
    (λ z. (eqb_is (length (pad n a)) 0).1 (omega (arith, (eqb_is r.0 r.1).0 z, h.0, e)))
test_of_use w (Tests a) r h = test_of_test_chain r.0 (pad (r.1 - r.0) a)
test_of_use w (Matches (Exact a)) r h = test_of_test_chain r.0 (pad (r.1 - r.0) a)
test_of_use w (Matches (Cidr a k)) r h = test_of_test_chain _ (drop (r.1 - r.0 - k) a)
test_of_use w (Matches (Wildcard a m)) r h = test_of_masked r.0 a m
test_of_use w (Matches (IpRange a b)) r h = test_of_between r.0 (pad (r.1 - r.0) a) (pad (r.1 - r.0) b)
