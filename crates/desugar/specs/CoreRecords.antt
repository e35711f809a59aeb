-- A core as numbers (document 01, "Forms that give way": "records in lent numbers"; document 02, change 1: "the records (kind, field, value, a
-- 32-bit number each)").
use mathlib.Core.{List.List, List.[], List.◌∷◌, List.◌++◌}
use Rattle.std.specs.Prelude.{ℕ}
use Rattle.literals.specs.{Bits.bit}
use Rattle.expr.specs.{Terms.Atom, Terms.Zero, Terms.One, Terms.Top, Terms.Dup, Terms.End, Terms.Assign, Terms.Test, Terms.Core, Terms.leaf, Terms.one, Terms.two, Terms.atom_kind, Terms.op1_kind, Terms.op2_kind}

-- an atom without a field or a value has 0 there
abbrev pub atom_field : Atom → ℕ
atom_field Zero = 0
atom_field One = 0
atom_field Top = 0
atom_field Dup = 0
atom_field End = 0
atom_field (Assign f v) = f
atom_field (Test f v) = f

abbrev pub atom_value : Atom → ℕ
atom_value Zero = 0
atom_value One = 0
atom_value Top = 0
atom_value Dup = 0
atom_value End = 0
atom_value (Assign f v) = bit v
atom_value (Test f v) = bit v

-- a core's records in prefix order, three numbers each: kind, field, value
abbrev pub words : Core → List ℕ
words (leaf a) = atom_kind a ∷ atom_field a ∷ atom_value a ∷ []
words (one o c) = op1_kind o ∷ 0 ∷ 0 ∷ words c
words (two o a b) = op2_kind o ∷ 0 ∷ 0 ∷ (words a ++ words b)
