-- The cores of range and alias assignments, tests and matches (document 01, "Walking rules", and src/desugar.rs for trees).
use mathlib.Core.{Bool.Bool, Bool.true, Bool.false, Bool.cond, Bool.not, Bool.beq, List.List, List.[], List.◌∷◌, List.◌++◌}
use Rattle.std.specs.Prelude.{ℕ, suc, ◌+◌, ◌-◌, ◌^◌}
use lib.{Dec.eqb, ListN.length, ListN.drop}
use Rattle.literals.specs.{Bits.Bits, Bits.value_of, Bits.pad, Patterns.Exact, Patterns.Cidr, Patterns.Wildcard, Patterns.IpRange}
use Rattle.expr.specs.{Terms.Atom, Terms.Zero, Terms.One, Terms.Assign, Terms.Test, Terms.Op2, Terms.Union, Terms.Intersect, Terms.Sequence, Terms.Core, Terms.leaf, Terms.two, Terms.Use, Terms.Assigns, Terms.Tests, Terms.Matches}

-- "Chains lean right": c₁ o (c₂ o (.. o cₙ)), and the atom where there is none
abbrev pub chain : Op2 → Atom → List Core → Core
chain o a [] = leaf a
chain o a (c ∷ []) = c
chain o a (c ∷ (d ∷ cs)) = two o c (chain o a (d ∷ cs))

-- "bit 0 at the lowest field", "lowest field first": an atom for each bit, bit 0 at field s
abbrev pub each_bit : (ℕ → Bool → Atom) → ℕ → Bits → List Core
each_bit f s [] = []
each_bit f s (b ∷ bs) = leaf (f s b) ∷ each_bit f (suc s) bs

abbrev pub test_chain : ℕ → Bits → Core
test_chain s a = chain Intersect One (each_bit Test s a)

abbrev pub assign_chain : ℕ → Bits → Core
assign_chain s a = chain Sequence One (each_bit Assign s a)

-- "Wildcard tests where the mask is false."
abbrev pub masked_tests : ℕ → Bits → Bits → List Core
masked_tests s [] ms = []
masked_tests s (b ∷ bs) [] = []
masked_tests s (b ∷ bs) (true ∷ ms) = masked_tests (suc s) bs ms
masked_tests s (b ∷ bs) (false ∷ ms) = leaf (Test s b) ∷ masked_tests (suc s) bs ms

-- `desugar_upper_bound_test` and `desugar_lower_bound_test` go from the highest bit to the lowest: a test for each bit
abbrev pub high_first : ℕ → Bits → List Core
high_first s [] = []
high_first s (b ∷ bs) = high_first (suc s) bs ++ leaf (Test s b) ∷ []

-- a term for each bit of the bound that is d: the fields above it agree with the bound, and its field is the first to differ
abbrev pub differences : Bool → ℕ → Bits → List Core
differences d s [] = []
differences d s (b ∷ bs) =
    differences d (suc s) bs
    ++ cond (beq b d) (chain Intersect One (high_first (suc s) bs ++ leaf (Test s (not d)) ∷ []) ∷ []) []

-- the upper term (d true) or the lower term (d false): the fields differ first where the bound has d, or are the bound
abbrev pub bound : Bool → ℕ → Bits → Core
bound d s a = chain Union Zero (differences d s a ++ chain Intersect One (high_first s a) ∷ [])

-- "Range: equal bounds give the Exact chain; ..": are the bounds equal, is the lower one 0, is the upper one the highest value
abbrev pub between_case : Bool → Bool → Bool → ℕ → Bits → Bits → Core
between_case true low high s a b = test_chain s a
between_case false true true s a b = leaf One
between_case false true false s a b = bound true s b
between_case false false true s a b = bound false s a
between_case false false false s a b = two Intersect (bound false s a) (bound true s b)

abbrev pub between : ℕ → Bits → Bits → Core
between s a b = between_case (eqb (value_of a) (value_of b)) (eqb (value_of a) 0) (eqb (value_of b + 1) (2 ^ length b)) s a b

-- the core of a use of the n fields from s. "CIDR tests the highest bits; prefix 0 gives One."
abbrev pub use_core : Use → ℕ → ℕ → Core
use_core (Assigns a) s n = assign_chain s (pad n a)
use_core (Tests a) s n = test_chain s (pad n a)
use_core (Matches (Exact a)) s n = test_chain s (pad n a)
use_core (Matches (Cidr a k)) s n = test_chain (s + (n - k)) (drop (n - k) a)
use_core (Matches (Wildcard a m)) s n = chain Intersect One (masked_tests s a m)
use_core (Matches (IpRange a b)) s n = between s (pad n a) (pad n b)
