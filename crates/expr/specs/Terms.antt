-- Terms as they are written, and the core that they are taken to (document 01, "Term bytes").
use mathlib.Core.{Bool.Bool, Bool.◌&&◌, Bool.◌||◌}
use Rattle.std.specs.Prelude.{ℕ, ◌+◌, max}
use lib.{Dec.leb}
use Rattle.literals.specs.{Bits.Bits, Patterns.Pattern}

-- "0 Zero, 1 One, 2 Top, 3 Dup, 4 End; 5 Assign, 6 Test": a field and its bit
pub data Atom : Type 0 where
  Zero One Top Dup End : Atom
  Assign Test : ℕ → Bool → Atom

-- "two children: 7 Union, 8 Intersect, 9 Xor, 10 Difference, 11 Sequence, 12 LtlUntil"
pub data Op2 : Type 0 where
  Union Intersect Xor Difference Sequence LtlUntil : Op2

-- "one child: 13 Complement, 14 Star, 15 LtlNext"
pub data Op1 : Type 0 where
  Complement Star LtlNext : Op1

-- "Kinds 0 to 15 are the core."
pub data Core : Type 0 where
  leaf : Atom → Core
  one : Op1 → Core → Core
  two : Op2 → Core → Core → Core

abbrev pub Name : Type 0
Name = ℕ

-- where a range stands: from a first field up to one past its last, or named by an alias
pub data Where : Type 0 where
  Direct : ℕ → ℕ → Where
  Alias : Name → Where

-- what is done with a range
pub data Use : Type 0 where
  Assigns Tests : Bits → Use
  Matches : Pattern → Use

-- The kinds that are treated alike share a constructor.
pub data Expr : Type 0 where
  -- kinds 0 to 6, 13 to 15 and 7 to 12
  Plain : Atom → Expr
  Unary : Op1 → Expr → Expr
  Binary : Op2 → Expr → Expr → Expr
  -- kinds 16 to 20; a Let has its definition, then its body
  TestNegation : Expr → Expr
  IfThenElse : Expr → Expr → Expr → Expr
  Let : Name → Expr → Expr → Expr
  LetBitRange : Name → ℕ → ℕ → Expr → Expr
  Var : Name → Expr
  -- kinds 21 VarAssign, 22 VarTest and 26 VarMatch of an alias, 23 BitRangeAssign, 24 BitRangeTest and 25 BitRangeMatch
  Ranged : Where → Use → Expr

abbrev pub atom_kind : Atom → ℕ
atom_kind Zero = 0
atom_kind One = 1
atom_kind Top = 2
atom_kind Dup = 3
atom_kind End = 4
atom_kind (Assign f v) = 5
atom_kind (Test f v) = 6

abbrev pub op2_kind : Op2 → ℕ
op2_kind Union = 7
op2_kind Intersect = 8
op2_kind Xor = 9
op2_kind Difference = 10
op2_kind Sequence = 11
op2_kind LtlUntil = 12

abbrev pub op1_kind : Op1 → ℕ
op1_kind Complement = 13
op1_kind Star = 14
op1_kind LtlNext = 15

-- "Test sort": "a test if it has only kinds 0, 1 and 6 to 11"
abbrev pub test_kind : ℕ → Bool
test_kind k = leb k 1 || (leb 6 k && leb k 11)

-- "The place is a record's index in the term": a node has one record, and a child begins where the one before it ends
abbrev pub records : Expr → ℕ
records (Plain a) = 1
records (Unary o e) = 1 + records e
records (Binary o a b) = 1 + records a + records b
records (TestNegation e) = 1 + records e
records (IfThenElse c t e) = 1 + records c + records t + records e
records (Let x d b) = 1 + records d + records b
records (LetBitRange x s e b) = 1 + records b
records (Var x) = 1
records (Ranged w u) = 1

-- "7 depth over 256 (the root is at 1)"
abbrev pub depth : Expr → ℕ
depth (Plain a) = 1
depth (Unary o e) = 1 + depth e
depth (Binary o a b) = 1 + max (depth a) (depth b)
depth (TestNegation e) = 1 + depth e
depth (IfThenElse c t e) = 1 + max (depth c) (max (depth t) (depth e))
depth (Let x d b) = 1 + max (depth d) (depth b)
depth (LetBitRange x s e b) = 1 + depth b
depth (Var x) = 1
depth (Ranged w u) = 1

-- how many nodes a core has
abbrev pub size : Core → ℕ
size (leaf a) = 1
size (one o c) = 1 + size c
size (two o a b) = 1 + size a + size b
