-- `ranged::judged_range` meets its contract.
use mathlib.Core.Path.{◌∙◌, sym}
use Rattle.refusals.proofs.Exits.{err_is}
use Rattle.expr.specs.Results.{record_of}
use Rattle.desugar.specs.WalkWords.{where_of, use_of}
use Rattle.desugar.proofs.LeafSteps.{range_unknown, rule_broken, rules_kept}
use Rattle.desugar.proofs.ranged.judged_range.Goals as goal

pub returns-in_default : goal.returns-in_default
returns-in_default c =
    let a = c.args in
    let h = record_of a.s.now a.head in
    λ ρ at b. sym (range_unknown ρ (where_of h) (use_of h) at (sym (c.in_default.ensures a.s.now ρ b)))

pub returns-in_err-range_rule : goal.returns-in_err-range_rule
returns-in_err-range_rule c =
    let a = c.args in
    let h = record_of a.s.now a.head in
    let f = c.in-Some.fields in
    λ ρ at b. rw (err_is _ c.from_residual.ensures.1)
    (sym (rule_broken ρ (where_of h) (use_of h) at (sym (c.in-Some.ensures a.s.now ρ b))
    (c.in_err-range_rule.ensures at ∙ c.use_in.ensures.rule (f.start, f.end) at)))

pub returns : goal.returns
returns c =
    let a = c.args in
    let h = record_of a.s.now a.head in
    let f = c.in-Some.fields in
    λ ρ at b. sym (rules_kept ρ (where_of h) (use_of h) at (sym (c.in-Some.ensures a.s.now ρ b))
    (c.in_ok-range_rule.ensures at ∙ c.use_in.ensures.rule (f.start, f.end) at))
