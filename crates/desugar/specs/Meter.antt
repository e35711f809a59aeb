-- Draws on an allowance (document 01, "Walking rules": "A draw is the count of core nodes that a step makes").
use mathlib.Core.{Bool.cond, List.List, List.[], List.◌∷◌, List.◌++◌}
use Rattle.std.specs.Prelude.{ℕ, ◌+◌, ◌-◌}
use lib.{Dec.leb}
use Rattle.expr.specs.{Answers.Answer, Answers.ok, Answers.refuse, Answers.and_then}

-- without limit "those draws in walking order" so far, each with its place; or what is left of an allowance
pub data Meter : Type 0 where
  spent : List (ℕ × ℕ) → Meter
  left : ℕ → Meter

-- a step that may draw
abbrev pub Draws : Type 0 → Type 0
Draws A = Meter → Answer (A × Meter)

infixl 20 ◌>>=◌
abbrev pub ◌>>=◌ : {A B : Type 0} → Draws A → (A → Draws B) → Draws B
◌>>=◌ m f = λ k. and_then (m k) (λ r. f r.0 r.1)

-- a step that draws nothing
abbrev pub lift : {A : Type 0} → Answer A → Draws A
lift (ok a) k = ok (a, k)
lift (refuse r at) k = refuse r at

-- "24 a draw beyond the allowance": draw n at a place, and give a
abbrev pub drawing : {A : Type 0} → ℕ → ℕ → A → Draws A
drawing n at a (spent ds) = ok (a, spent (ds ++ (n, at) ∷ []))
drawing n at a (left k) = cond (leb n k) (ok (a, left (k - n))) (refuse 24 at)

-- "The drawn total is the sum of those draws in walking order."
abbrev pub drawn : List (ℕ × ℕ) → ℕ
drawn [] = 0
drawn (d ∷ ds) = d.0 + drawn ds

-- "24 a draw beyond the allowance.": the place of the first draw that goes beyond an allowance n
abbrev pub overdrawn : ℕ → List (ℕ × ℕ) → ℕ
overdrawn n [] = 0
overdrawn n (d ∷ ds) = cond (leb d.0 n) (overdrawn (n - d.0) ds) d.1
