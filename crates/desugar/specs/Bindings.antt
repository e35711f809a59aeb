-- Bindings (document 01, "Walking rules"), and Subrange.
use mathlib.Core.{Bool.cond, Bool.◌&&◌, Option.Option, Option.none, Option.some, List.List, List.[], List.◌∷◌}
use Rattle.std.specs.Prelude.{ℕ, ◌+◌, ◌^◌}
use Rattle.std.specs.Prelude as std
use lib.{Dec.leb, Dec.ltb, Dec.eqb}
use Rattle.expr.specs.{Answers.Answer, Answers.ok, Answers.refuse, Answers.and_then, Answers.need, Terms.Name, Terms.Where, Terms.Direct, Terms.Alias}
use Rattle.desugar.specs.declared.Fields.{Fields}

-- a Let gives a variable a value: a core, whether it is a test, a relation, whether its kinds are one-step, or its definition and place. A
-- LetBitRange gives an alias a range
pub data Binding {ℓ} (A : Type ℓ) : Type ℓ where
  variable : Name → A → Binding A
  range : Name → ℕ → ℕ → Binding A

-- "the innermost binding counts": the innermost stands first
abbrev pub Env {ℓ} : Type ℓ → Type ℓ
Env A = List (Binding A)

-- "Variables and aliases are two separate name spaces": a look-up passes over bindings of the other kind
module _ {ℓ} {A : Type ℓ} where
  abbrev pub lookup_variable : Env A → Name → Option A
  lookup_variable [] x = none
  lookup_variable (variable y v ∷ env) x = cond (eqb x y) (some v) (lookup_variable env x)
  lookup_variable (range y s e ∷ env) x = lookup_variable env x

  abbrev pub lookup_alias : Env A → Name → Option (ℕ × ℕ)
  lookup_alias [] x = none
  lookup_alias (variable y v ∷ env) x = lookup_alias env x
  lookup_alias (range y s e ∷ env) x = cond (eqb x y) (some (s, e)) (lookup_alias env x)

  -- the range that is written out, or that the alias has
  abbrev pub find_range : Env A → Where → Option (ℕ × ℕ)
  find_range env (Direct s e) = some (s, e)
  find_range env (Alias x) = lookup_alias env x

-- "Subrange of an alias range: 28 exactly where .. gives None": a `checked_add` that overflows, or a range that is not inside the alias
abbrev pub compute_subrange : (aliasStart aliasEnd subStart subEnd : ℕ) → Answer (ℕ × ℕ)
compute_subrange a b s e =
    and_then (need (ltb (a + s) (2 ^ 32) && (ltb (a + e) (2 ^ 32) && (leb s e && leb (a + e) b))) 28 0) λ _.
    ok (a + s, a + e)

-- the fields that are found, or refusal 28
abbrev pub subrange_answer : std.Option Fields → Answer (ℕ × ℕ)
subrange_answer (std.Some f) = ok (f.start, f.end)
subrange_answer std.None = refuse 28 0
