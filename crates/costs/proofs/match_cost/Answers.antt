-- `costs::match_cost` meets its contract: the rules, and then the size of the core.
use mathlib.Core.Path.{refl, sym}
use Rattle.literals.specs.Results.{literal_bits}
use Rattle.expr.specs.Kinds.{pattern_number}
use Rattle.expr.specs.Terms.{Direct, Matches}
use Rattle.desugar.proofs.RuleLaws.{range_kept}
use Rattle.costs.specs.Results.{pattern_with}
use Rattle.costs.proofs.Lent.{cost_counted}
use Rattle.costs.proofs.match_cost.Goals as goal

pub invariant_of-judged : goal.invariant_of-judged
invariant_of-judged c =
    let a = c.args in
    let p = pattern_with (pattern_number a.pattern) a.number (literal_bits a.a) (literal_bits a.b) in
    let kept = range_kept (Direct 0 0) (Matches p) a.fields.start a.fields.end (sym (c.in_ok-range_rule.ensures 0)) in
    record { ordered = kept.0; kept = kept.1 }

pub returns : goal.returns
returns c =
    let a = c.args in
    let p = pattern_with (pattern_number a.pattern) a.number (literal_bits a.a) (literal_bits a.b) in
    cost_counted p a.fields.start a.fields.end (sym (c.in_ok-range_rule.ensures 0)) refl (c.size.ensures a.fields.start)
