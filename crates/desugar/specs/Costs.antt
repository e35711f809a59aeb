-- How many nodes a pattern's core has, without making one (document 02, change 5, "What a pattern will cost"). A leaf draws "its whole core": that
-- this is what it draws is `cost_theorem` (netkat/proofs/Theorems.antt).
use mathlib.Core.{Bool.Bool, Bool.true, Bool.false, Bool.cond, Bool.beq, List.[], List.◌∷◌}
use Rattle.std.specs.Prelude.{ℕ, ◌+◌, ◌-◌, ◌*◌, ◌^◌}
use lib.{Dec.eqb, ListN.length}
use Rattle.literals.specs.{Bits.Bits, Bits.value_of, Bits.pad, Patterns.Pattern, Patterns.Exact, Patterns.Cidr, Patterns.Wildcard, Patterns.IpRange}
use Rattle.expr.specs.{Answers.Answer, Answers.ok, Answers.and_then, Terms.Direct, Terms.Matches}
use Rattle.desugar.specs.{Rules.range_rule}

-- a chain of n tests has 2n − 1 nodes; without a test it is One
abbrev pub chain_size : ℕ → ℕ
chain_size n = 1 + 2 * (n - 1)

-- "2k + 2 for each standing bit, k being its distance from the top bit" where d is true, and for each clear bit where it is false. The
-- lowest bit stands first, so k is the number of bits behind
abbrev pub differences_size : Bool → Bits → ℕ
differences_size d [] = 0
differences_size d (b ∷ a) = differences_size d a + cond (beq b d) (2 * length a + 2) 0

-- "For an upper bound over w bits it is 2w − 1 plus 2k + 2 for each standing bit": d is true. "A lower bound counts clear bits instead.":
-- d is false
abbrev pub bound_size : Bool → Bits → ℕ
bound_size d a = chain_size (length a) + differences_size d a

-- "Both together add one more." As in `between_case`: are the bounds equal, is the lower one 0, is the upper one the highest value
abbrev pub between_case_size : Bool → Bool → Bool → Bits → Bits → ℕ
between_case_size true low high a b = chain_size (length a)
between_case_size false true true a b = 1
between_case_size false true false a b = bound_size true b
between_case_size false false true a b = bound_size false a
between_case_size false false false a b = 1 + bound_size false a + bound_size true b

abbrev pub between_size : Bits → Bits → ℕ
between_size a b = between_case_size (eqb (value_of a) (value_of b)) (eqb (value_of a) 0) (eqb (value_of b + 1) (2 ^ length b)) a b

-- how many bits of a mask are false
abbrev pub clear : Bits → ℕ
clear [] = 0
clear (b ∷ m) = cond b 0 1 + clear m

-- "the node count of a pattern" on n fields: a test for each field, for each bit of the prefix, for each mask bit that is false; or a
-- range of values, its bounds padded
abbrev pub pattern_cost : Pattern → ℕ → ℕ
pattern_cost (Exact a) n = chain_size n
pattern_cost (Cidr a k) n = chain_size k
pattern_cost (Wildcard a m) n = chain_size (clear m)
pattern_cost (IpRange a b) n = between_size (pad n a) (pad n b)

-- "refused as the match would be, but never by 24, 26 or lack of room": the match on the fields from s up to e, at a place
abbrev pub cost : Pattern → (s e at : ℕ) → Answer ℕ
cost p s e at = and_then (range_rule (Direct s e) (Matches p) (s, e) at) λ _. ok (pattern_cost p (e - s))
