-- `desugar::by_number::judged_range` meets its contract.
use mathlib.Core.Path.{◌∙◌}
use Rattle.expr.specs.Kinds.{kind_number, pattern_number}
use Rattle.expr.specs.Results.{record_of}
use Rattle.desugar.specs.RangedWords.{judged_range}
use Rattle.desugar.proofs.Numbered.{same_use, same_where}
use Rattle.desugar.proofs.by_number.judged_range.Goals as goal

pub returns : goal.returns
returns c =
    let a = c.args in
    let h = record_of a.s.now a.head in
    let k = kind_number c.kind_for.result in
    let p = pattern_number c.pattern_for.result in
    let used = same_use h a.kind a.pattern k p c.kind_for.ensures c.pattern_for.ensures in
    let range = same_where h a.kind a.pattern k p c.kind_for.ensures c.pattern_for.ensures in
    λ ρ at b. c.judged_range.ensures ρ at b ∙ (λ j. judged_range ρ (range j) (used j) at)
