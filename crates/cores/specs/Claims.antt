-- What the theorems claim of reading cores (they stand in netkat/proofs/Theorems.antt).
use mathlib.Core.{Path.◌≡◌, Logic.◌⊎◌}
use Rattle.std.specs.Prelude.{ℕ, ◌≤◌}
use Rattle.expr.specs.{Answers.Answer, Answers.ok, Answers.refuse, Terms.Core, Terms.Expr, Form.written}

-- "Form refusals hold as for terms, without 6 and 7": what form says of the same bytes as those of a term, and as those of a core
pub data AsForTerms : Answer Expr → Answer Core → Type 0 where
  -- the core, written as a term
  same_tree : (c : Core) → AsForTerms (ok (written c)) (ok c)
  -- one refusal at one place
  same_refusal : (r at : ℕ) → AsForTerms (refuse r at) (refuse r at)
  -- "41, a kind from 16 to 26", "42, more than 65,535 records"
  term_kind_fact : (x : Answer Expr) (at : ℕ) → AsForTerms x (refuse 41 at)
  too_many : (x : Answer Expr) (at : ℕ) → AsForTerms x (refuse 42 at)
  -- "6 more than 4,096 records, 7 depth over 256", which a core has not
  without_6 : (at : ℕ) (y : Answer Core) → AsForTerms (refuse 6 at) y
  without_7 : (at : ℕ) (y : Answer Core) → AsForTerms (refuse 7 at) y

-- 1 to 5, 8, 41 or 42
abbrev pub CoreFormNumber : ℕ → Type 0
CoreFormNumber r = ((1 ≤ r) × (r ≤ 5)) ⊎ ((r ≡ 8) ⊎ ((r ≡ 41) ⊎ (r ≡ 42)))

-- or 25 or 10
abbrev pub CoreNumber : ℕ → Type 0
CoreNumber r = CoreFormNumber r ⊎ ((r ≡ 25) ⊎ (r ≡ 10))
