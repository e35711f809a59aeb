-- The numbers of the kinds and of the patterns (document 01, "Kinds").
use Rattle.std.specs.Prelude.{◌≡◌, ℕ, ◌<◌, Result, MatchResult}
use Rattle.refusals.specs.declared.Refusal.{Refusal}
use Rattle.refusals.specs.declared.Refusal.TheVariants.{UnknownKind, OutOfRange}
use Rattle.expr.specs.declared.kind.Kind.{Kind}
use Rattle.expr.specs.declared.kind.Kind.TheVariants.{Zero, One, Top, Dup, End, Assign, Test, Union, Intersect, Xor, Difference, Sequence, LtlUntil, Complement, Star, LtlNext, TestNegation, IfThenElse, Let, LetBitRange, Var, VarAssign, VarTest, BitRangeAssign, BitRangeTest, BitRangeMatch, VarMatch}
use Rattle.expr.specs.declared.kind.Pattern.{Pattern}
use Rattle.expr.specs.declared.kind.Pattern.TheVariants.{Exact, Cidr, Wildcard, IpRange}

-- "0 Zero, 1 One, 2 Top, ..": the kinds 0 to 26
abbrev pub kind_number : Kind → ℕ
kind_number Zero = 0
kind_number One = 1
kind_number Top = 2
kind_number Dup = 3
kind_number End = 4
kind_number Assign = 5
kind_number Test = 6
kind_number Union = 7
kind_number Intersect = 8
kind_number Xor = 9
kind_number Difference = 10
kind_number Sequence = 11
kind_number LtlUntil = 12
kind_number Complement = 13
kind_number Star = 14
kind_number LtlNext = 15
kind_number TestNegation = 16
kind_number IfThenElse = 17
kind_number Let = 18
kind_number LetBitRange = 19
kind_number Var = 20
kind_number VarAssign = 21
kind_number VarTest = 22
kind_number BitRangeAssign = 23
kind_number BitRangeTest = 24
kind_number BitRangeMatch = 25
kind_number VarMatch = 26

-- "0 Exact, 1 Cidr, 2 Wildcard, 3 IpRange"
abbrev pub pattern_number : Pattern → ℕ
pattern_number Exact = 0
pattern_number Cidr = 1
pattern_number Wildcard = 2
pattern_number IpRange = 3

-- the kind of a number, or 2 for a number above 26
abbrev pub IsKind : ℕ → Result Kind Refusal → Type 0
IsKind n r = MatchResult r (λ k. kind_number k ≡ n) (λ e. (e ≡ UnknownKind) × (26 < n))

-- the pattern of a number, or 5 for a number above 3
abbrev pub IsPattern : ℕ → Result Pattern Refusal → Type 0
IsPattern n r = MatchResult r (λ p. pattern_number p ≡ n) (λ e. (e ≡ OutOfRange) × (3 < n))
