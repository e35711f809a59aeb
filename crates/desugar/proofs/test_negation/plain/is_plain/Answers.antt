-- `desugar::test_negation::plain::is_plain` meets its contract.
use mathlib.Core.Path.{◌∙◌}
use Rattle.desugar.specs.PlainNegation.{plain_kind}
use Rattle.desugar.proofs.PlainNegation.{plain_kinds}
use Rattle.desugar.proofs.Regions.{slice_lies}
use Rattle.desugar.proofs.test_negation.plain.is_plain.Goals as goal

pub returns : goal.returns
returns c = λ t h. c.all_kinds.ensures plain_kind (λ k b e. e) ∙ plain_kinds t (slice_lies h)
