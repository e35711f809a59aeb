-- `rules::range_rule` meets its contract: rule 14 comes first.
use Rattle.desugar.specs.WalkWords.{where_of, use_of}
use Rattle.desugar.specs.RangedWords.{record_in}
use Rattle.desugar.proofs.RuleLaws.{range_broken}
use Rattle.desugar.proofs.rules.range_rule.Goals as goal

pub returns-then-fields : goal.returns-then-fields
returns-then-fields c =
    let h = record_in c.args.u in
    λ at. range_broken (where_of h) (use_of h) c.args.fields.start c.args.fields.end at c.if-fields.true
