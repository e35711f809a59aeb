-- The kinds are the numbers 0 to 26, the patterns 0 to 3.
use mathlib.Core.Path.{◌≡◌, refl}
use mathlib.Core.Bool.{Bool, true, false, ◌&&◌}
use Prim.Native.Nat.{ℕ, ◌≤◌, ◌<◌}
use native.Mathlib.Omega.{arith}
use borrow.Author.Tests.{lt-leb}
use lib.Dec.{leb}
use Rattle.expr.specs.Terms.{test_kind}
use Rattle.expr.specs.Kinds.{kind_number, pattern_number}
use Rattle.expr.specs.declared.kind.Kind.{Kind}
use Rattle.expr.specs.declared.kind.Kind.TheVariants.{Zero, One, Top, Dup, End, Assign, Test, Union, Intersect, Xor, Difference, Sequence, LtlUntil, Complement, Star, LtlNext, TestNegation, IfThenElse, Let, LetBitRange, Var, VarAssign, VarTest, BitRangeAssign, BitRangeTest, BitRangeMatch, VarMatch}
use Rattle.expr.specs.declared.kind.Pattern.{Pattern}
use Rattle.expr.specs.declared.kind.Pattern.TheVariants.{Exact, Cidr, Wildcard, IpRange}

pub kind_small : (k : Kind) → kind_number k ≤ 26
kind_small Zero = omega arith
kind_small One = omega arith
kind_small Top = omega arith
kind_small Dup = omega arith
kind_small End = omega arith
kind_small Assign = omega arith
kind_small Test = omega arith
kind_small Union = omega arith
kind_small Intersect = omega arith
kind_small Xor = omega arith
kind_small Difference = omega arith
kind_small Sequence = omega arith
kind_small LtlUntil = omega arith
kind_small Complement = omega arith
kind_small Star = omega arith
kind_small LtlNext = omega arith
kind_small TestNegation = omega arith
kind_small IfThenElse = omega arith
kind_small Let = omega arith
kind_small LetBitRange = omega arith
kind_small Var = omega arith
kind_small VarAssign = omega arith
kind_small VarTest = omega arith
kind_small BitRangeAssign = omega arith
kind_small BitRangeTest = omega arith
kind_small BitRangeMatch = omega arith
kind_small VarMatch = omega arith

-- a number of no kind is not a test's
pub no_test : (k : ℕ) → 26 < k → false ≡ test_kind k
no_test k h = rw (lt-leb k 1 (omega arith), lt-leb k 11 (omega arith)) (no_second (leb 6 k))
  where
    no_second : (b : Bool) → false ≡ (b && false)
    no_second true = refl
    no_second false = refl

pub pattern_small : (p : Pattern) → pattern_number p ≤ 3
pattern_small Exact = omega arith
pattern_small Cidr = omega arith
pattern_small Wildcard = omega arith
pattern_small IpRange = omega arith
