-- `desugar::test_negation::tested::is_test` meets its contract.
use mathlib.Core.Path.{◌∙◌}
use Rattle.expr.specs.Terms.{test_kind}
use Rattle.desugar.proofs.Forest.{test_kinds}
use Rattle.desugar.proofs.Regions.{slice_lies}
use Rattle.desugar.proofs.test_negation.tested.is_test.Goals as goal

pub returns : goal.returns
returns c = λ t h. c.all_kinds.ensures test_kind (λ k b e. e) ∙ test_kinds t (slice_lies h)
