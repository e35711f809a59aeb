-- `Scope::lookup_variable` meets its contract. Written out, so that a wrong program is refused by the fact that differs.
use native.Mathlib.Omega.{arith}
use Rattle.desugar.specs.Bindings.{lookup_variable}
use Rattle.desugar.proofs.Frames.{variable_found}
use Rattle.desugar.proofs.bindings.Scope.lookup_variable.Goals as goal

pub returns : goal.returns
returns c =
    let s = c.args.self in
    let f = c.in_ok-last.ensures in
    let r = c.read-frame.result in
    let n = c.read-frame.ensures.numbers in
    λ env b.
    variable_found s.work.now c.args.name c.in_ok-last.last (lookup_variable env c.args.name) (f.ends env b) s.last (omega (arith, f.inside)) r.first r.second n.1 n.2
