-- `netkat::check::variable` meets its contract.
use mathlib.Core.Logic.{∥∥₁_elim}
use native.Mathlib.Bridge.{le_prop}
use native.Mathlib.Omega.{arith}
use Rattle.desugar.specs.Bindings.{lookup_variable}
use Rattle.desugar.proofs.LeafSteps.{core_found, none_found}
use Rattle.desugar.proofs.Regions.{size_pos}
use Rattle.desugar.proofs.WalkLaws.{lies_inside}
use Rattle.netkat.specs.CheckWords.{flags}
use Rattle.netkat.proofs.CheckLeaves.{sort_found, unbound}
use Rattle.netkat.proofs.check.variable.Goals as goal

pub returns-in_default : goal.returns-in_default
returns-in_default c = let a = c.args in
    λ ρ b. rw c.at.ensures (unbound ρ a.name a.place
    (none_found a.scope.work.now a.scope.last (lookup_variable (flags ρ) a.name) (c.in_default.ensures (flags ρ) b))
    (c.unbound.ensures (flags ρ) b))

pub bounds-scope-sort : goal.bounds-scope-sort
bounds-scope-sort c = let a = c.args in
    ∥∥₁_elim a.scope.bound le_prop λ any.
    let f = core_found a.scope.work.now a.scope.last (lookup_variable any.env a.name) c.in-Some.sort (c.in-Some.ensures any.env any.bound) in
    omega (arith, lies_inside f.at.lies, f.at.lies.count, size_pos f.core)

pub returns : goal.returns
returns c = let a = c.args in
    λ ρ b. sort_found ρ a.name a.place (core_found a.scope.work.now a.scope.last (lookup_variable (flags ρ) a.name) c.in-Some.sort (c.in-Some.ensures (flags ρ) b))
