-- The exit of a `?` whose error is passed on as it is.
use mathlib.Core.Path.{◌≡◌, ◌∙◌}
use Rattle.std.specs.Prelude.{Result, Err}
use Rattle.std.specs.Result.{IsErrAnd}
use Rattle.std.proofs.lemmas.Result.{err_from_is_err_and}

pub err_is : {A E : Type 0} (r : Result A E) {e : E} → IsErrAnd r (λ y. y ≡ e) → r ≡ Err e
err_is {A} {E} r {e} is = go (err_from_is_err_and r is)
  where
    go : (y : E) × (r ≡ Err y) × (y ≡ e) → r ≡ Err e
    go p = p.1 ∙ λ i. Err (p.2 i)
