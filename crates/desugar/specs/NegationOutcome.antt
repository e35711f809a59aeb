-- What the negation of a core in work memory asks for and answers.
use mathlib.Core.{Path.◌≡◌, Bool.Bool, Bool.true, Bool.false, List.List}
use Rattle.std.specs.Prelude.{ℕ, ◌≤◌, Result, Ok, Err}
use lib.{Dec.leb}
use Rattle.expr.specs.{Terms.Core, Terms.size}
use Rattle.desugar.specs.declared.test_negation.NegationError.{NegationError}
use Rattle.desugar.specs.declared.test_negation.NegationError.TheVariants.{NotTest, TooLarge}
use Rattle.desugar.specs.{Negation.is_test, Negation.negate, Memory.words, Memory.Holds}

-- is the core a test, is its negation within the limit, and how many records has it
abbrev pub outcome : Bool → Bool → ℕ → Result ℕ NegationError
outcome false w n = Err NotTest
outcome true false n = Err TooLarge
outcome true true n = Ok n

-- r answers for the core c, and the negation of a test lies at at if it is within the limit
pub record Negates (xs : List ℕ) (c : Core) (at limit : ℕ) (r : Result ℕ NegationError) : Type 0 where
  pub is : r ≡ outcome (is_test c) (leb (size (negate c)) limit) (size (negate c))
  pub holds : is_test c ≡ true → size (negate c) ≤ limit → Holds xs at (words (negate c))
