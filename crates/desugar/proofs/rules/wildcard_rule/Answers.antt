-- `rules::wildcard_rule` meets its contract.
use native.Mathlib.Omega.{arith}
use Rattle.literals.specs.Results.{literal_bits}
use Rattle.desugar.proofs.RuleLaws.{wildcard_holds}
use Rattle.desugar.proofs.rules.wildcard_rule.Goals as goal

pub returns : goal.returns
returns c =
    let u = c.args.u in
    λ at. wildcard_holds (literal_bits u.a) (literal_bits u.b) c.args.n at (omega (arith, u.first)) (omega (arith, u.second))
