-- `rules::values_rule` meets its contract.
use native.Mathlib.Omega.{arith}
use Rattle.literals.specs.Results.{literal_bits}
use Rattle.desugar.proofs.RuleLaws.{values_judged}
use Rattle.desugar.proofs.rules.values_rule.Goals as goal

pub returns-then-eq : goal.returns-then-eq
returns-then-eq c =
    let u = c.args.u in
    λ at. values_judged (literal_bits u.a) (literal_bits u.b) c.args.n at (omega arith) (omega (arith, u.first)) (omega (arith, u.second)) _ c.compare.ensures.order c.if-eq.ensures

pub returns : goal.returns
returns c =
    let u = c.args.u in
    λ at. values_judged (literal_bits u.a) (literal_bits u.b) c.args.n at (omega arith) (omega (arith, u.first)) (omega (arith, u.second)) _ c.compare.ensures.order c.if-eq.ensures
