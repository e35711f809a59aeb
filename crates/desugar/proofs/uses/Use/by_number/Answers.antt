-- `desugar::uses::Use::by_number` meets its contract.
use Rattle.literals.specs.Results.{literal_bits}
use Rattle.expr.specs.Kinds.{kind_number, pattern_number}
use Rattle.desugar.specs.Rules.{range_rule}
use Rattle.desugar.specs.RangedWords.{numbered}
use Rattle.desugar.proofs.Numbered.{same_use, same_where}
use Rattle.desugar.proofs.uses.Use.by_number.Goals as goal

pub returns : goal.returns
returns c =
    let a = c.args in
    let h = numbered a.kind a.pattern a.number (literal_bits a.a) (literal_bits a.b) in
    let k = kind_number c.kind_for.result in
    let p = pattern_number c.pattern_for.result in
    let used = same_use h a.kind a.pattern k p c.kind_for.ensures c.pattern_for.ensures in
    let range = same_where h a.kind a.pattern k p c.kind_for.ensures c.pattern_for.ensures in
    record { same = used; rule = λ r at j. range_rule (range j) (used j) r at }
