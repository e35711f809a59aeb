-- What the theorems claim of desugaring: the allowance as a threshold, and what a core does to a range (document 01, "Walking rules" and
-- "Packet meaning"; the theorems stand in netkat/proofs/Theorems.antt).
use mathlib.Core.{Path.◌≡◌, Logic.◌⊎◌, Logic.◌↔◌, List.List, List.[], List.◌++◌}
use Rattle.std.specs.Prelude.{ℕ, ◌+◌, ◌-◌, ◌^◌, ◌≤◌, ◌<◌}
use Rattle.expr.specs.{Answers.Answer, Answers.map_answer, Answers.ok, Answers.refuse, Terms.Core, Terms.Expr}
use Rattle.desugar.specs.{Bindings.Env, Meter.left, Meter.spent, Meter.drawn, Meter.overdrawn, Desugar.desugar, Desugar.drawn_of, Packets.Others, Packets.Packet, Packets.core_means, Packets.field_value, Packets.with_range}

-- ## The allowance

-- With an allowance of at least the sum of ds the answer is the one without limit, and the sum is taken from the allowance; with less it
-- is 24, at the place of the first draw that goes beyond it. Where the walk has a result, ds are its draws in walking order (total);
-- where a rule fails, ds are some list that fixes which allowances meet the rule and where the others are refused
pub record Limit (env : Env Core) (e : Expr) (at : ℕ) (ds : List (ℕ × ℕ)) : Type 0 where
  pub total : (k t : List (ℕ × ℕ)) (c : Core) → desugar env e at (spent k) ≡ ok (c, spent t) → t ≡ k ++ ds
  pub taken : (n m : ℕ) (c : Core) → desugar env e at (left n) ≡ ok (c, left m) → n ≡ m + drawn ds
  pub enough : (n : ℕ) (k : List (ℕ × ℕ)) → drawn ds ≤ n
      → map_answer (λ r. r.0) (desugar env e at (left n)) ≡ map_answer (λ r. r.0) (desugar env e at (spent k))
  pub short : (n : ℕ) → n < drawn ds → desugar env e at (left n) ≡ refuse 24 (overdrawn n ds)

-- the sum of a term's draws without limit, or its refusal
abbrev pub drawn_total : Env Core → Expr → ℕ → Answer ℕ
drawn_total env e at = map_answer (λ r. drawn_of 0 r.1) (desugar env e at (spent []))

-- ## Ranges

-- a test of the range from s up to e: it relates a packet to itself alone, where P holds of the range's value; and of the values that
-- the range can have, it holds of exactly those
pub record TestsFor (others : Others) (c : Core) (s e : ℕ) (P : ℕ → Type 0) : Type 0 where
  pub packets : (p q : Packet) → core_means others c p q ↔ ((p ≡ q) × P (field_value p s (e - s)))
  pub values : (p : Packet) (v : ℕ) → v < 2 ^ (e - s)
      → core_means others c (with_range p s (e - s) v) (with_range p s (e - s) v) ↔ P v

-- outside the n fields from s
abbrev pub Outside : ℕ → ℕ → ℕ → Type 0
Outside s n g = (g < s) ⊎ (s + n ≤ g)

-- an assignment of the range from s up to e: the range is given the value, and every other field stays
pub record Sets (others : Others) (c : Core) (s e v : ℕ) : Type 0 where
  pub packets : (p q : Packet) → core_means others c p q ↔ (q ≡ with_range p s (e - s) v)
  pub values : (p q : Packet) → core_means others c p q ↔ ((field_value q s (e - s) ≡ v) × ((g : ℕ) → Outside s (e - s) g → q g ≡ p g))
