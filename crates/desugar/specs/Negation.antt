-- Sequence's dropping, tests among cores, and their negation (document 01, "Walking rules").
use mathlib.Core.{Bool.Bool, Bool.false, Bool.cond, Bool.not, Bool.◌&&◌, Bool.◌||◌}
use Rattle.std.specs.Prelude.{ℕ}
use lib.{Dec.eqb}
use Rattle.expr.specs.{Terms.Atom, Terms.Zero, Terms.One, Terms.Top, Terms.Dup, Terms.End, Terms.Assign, Terms.Test, Terms.Op2, Terms.Union, Terms.Intersect, Terms.Xor, Terms.Difference, Terms.Sequence, Terms.LtlUntil, Terms.Core, Terms.leaf, Terms.one, Terms.two, Terms.atom_kind, Terms.op2_kind, Terms.test_kind}

-- "a test if it has only kinds 0, 1 and 6 to 11": none of these has one operand
abbrev pub is_test : Core → Bool
is_test (leaf a) = test_kind (atom_kind a)
is_test (one o c) = false
is_test (two o a b) = test_kind (op2_kind o) && (is_test a && is_test b)

abbrev pub is_one : Core → Bool
is_one (leaf a) = eqb (atom_kind a) 1
is_one (one o c) = false
is_one (two o a b) = false

-- two desugared operands under their operator. "Sequence drops a One, the left looked at first."
abbrev pub join : Op2 → Core → Core → Core
join Union a b = two Union a b
join Intersect a b = two Intersect a b
join Xor a b = two Xor a b
join Difference a b = two Difference a b
join Sequence a b = cond (is_one a) b (cond (is_one b) a (two Sequence a b))
join LtlUntil a b = two LtlUntil a b

-- "Sequence, 1, or 0 when dropping; .. other operators, 1"
abbrev pub join_draw : Op2 → Core → Core → ℕ
join_draw o a b = cond (eqb (op2_kind o) (op2_kind Sequence) && (is_one a || is_one b)) 0 1

-- "desugared again"
abbrev pub again : Core → Core
again (leaf a) = leaf a
again (one o c) = one o (again c)
again (two o a b) = join o (again a) (again b)

-- what is no test stays as it is, and is never negated
abbrev pub negate_atom : Atom → Atom
negate_atom Zero = One
negate_atom One = Zero
negate_atom Top = Top
negate_atom Dup = Dup
negate_atom End = End
negate_atom (Assign f v) = Assign f v
negate_atom (Test f v) = Test f (not v)

-- "Xor becomes Difference(One, Xor); Difference(a, b) becomes Union(not a, b desugared again).": of a and b, given not a and not b
abbrev pub negate_pair : Op2 → Core → Core → Core → Core → Core
negate_pair Union a b a' b' = two Intersect a' b'
negate_pair Intersect a b a' b' = two Union a' b'
negate_pair Xor a b a' b' = two Difference (leaf One) (two Xor a b)
negate_pair Difference a b a' b' = two Union a' (again b)
negate_pair Sequence a b a' b' = two Union a' b'
negate_pair LtlUntil a b a' b' = two LtlUntil a b

-- "Negation works on the desugared operand"
abbrev pub negate : Core → Core
negate (leaf a) = leaf (negate_atom a)
negate (one o c) = one o c
negate (two o a b) = negate_pair o a b (negate a) (negate b)
