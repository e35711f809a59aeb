-- `desugar::by_number::range_rule` meets its contract.
use mathlib.Core.Path.{◌∙◌}
use Rattle.desugar.proofs.by_number.range_rule.Goals as goal

pub returns : goal.returns
returns c = λ at. c.range_rule.ensures at ∙ c.by_number.ensures.rule (c.args.fields.start, c.args.fields.end) at
