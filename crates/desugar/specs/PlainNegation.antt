-- Tests without Xor and Difference. Only the contracts of src/test_negation/plain.rt speak of this.
use mathlib.Core.{Bool.Bool, Bool.false, Bool.not, Bool.◌&&◌, Bool.◌||◌}
use Rattle.std.specs.Prelude.{ℕ}
use lib.{Dec.eqb}
use Rattle.expr.specs.{Terms.Xor, Terms.Difference, Terms.Core, Terms.leaf, Terms.one, Terms.two, Terms.atom_kind, Terms.op2_kind, Terms.test_kind}

-- the kinds of a test whose negation is one record and its operands negated: all but Xor and Difference
abbrev pub plain_kind : ℕ → Bool
plain_kind k = not (eqb k (op2_kind Xor) || eqb k (op2_kind Difference)) && test_kind k

-- a core of plain kinds: none of these has one operand
abbrev pub is_plain : Core → Bool
is_plain (leaf a) = plain_kind (atom_kind a)
is_plain (one o c) = false
is_plain (two o a b) = plain_kind (op2_kind o) && (is_plain a && is_plain b)
