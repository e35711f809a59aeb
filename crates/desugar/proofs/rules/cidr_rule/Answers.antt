-- `rules::cidr_rule` meets its contract.
use native.Mathlib.Omega.{arith}
use Rattle.literals.specs.Results.{literal_bits}
use Rattle.desugar.proofs.RuleLaws.{address_broken, cidr_holds}
use Rattle.desugar.proofs.rules.cidr_rule.Goals as goal

pub returns-then-u-n : goal.returns-then-u-n
returns-then-u-n c =
    let u = c.args.u in
    λ at. address_broken (literal_bits u.a) u.number c.args.n at (omega arith) (λ e. c.if-u-n.true (omega (arith, u.first, e)))

pub returns : goal.returns
returns c =
    let u = c.args.u in
    λ at. cidr_holds (literal_bits u.a) u.number c.args.n at (omega arith) (omega (arith, u.first))
