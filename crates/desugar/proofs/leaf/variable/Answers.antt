-- `desugar::leaf::variable` meets its contract.
use native.Mathlib.Omega.{arith}
use Rattle.desugar.specs.Bindings.{lookup_variable}
use Rattle.desugar.specs.Meter.{left}
use Rattle.desugar.specs.Memory.{words}
use Rattle.desugar.proofs.Frames.{bound_same, found_same}
use Rattle.desugar.proofs.Regions.{length_words}
use Rattle.desugar.proofs.LeafSteps.{core_found, variable_drawn, walked, same_core}
use Rattle.desugar.proofs.leaf.variable.Goals as goal

pub returns : goal.returns
returns c =
    let a = c.args in
    λ ρ b.
    let f = core_found a.work.now a.spot.env.last (lookup_variable ρ a.head.name) c.in-Some.core
    (found_same (lookup_variable ρ a.head.name) _ c.within-scope.ensures.0 c.within-scope.ensures.1 (c.in-Some.ensures ρ (bound_same ρ c.within-scope.ensures.0 c.within-scope.ensures.1 b))) in
    same_core (variable_drawn ρ a.head.name a.spot.place (left a.spot.allowance) f.core f.is)
    (walked f.core a.spot.place a.spot.allowance c.in-Some.core.count f.at.lies.count c.if-spot-count.false a.spot.at _ a.spot.top a.work.now _
    (c.copy.ensures.copied (words f.core) (omega (arith, length_words f.core, f.at.lies.count)) f.at.lies.holds) c.copy.ensures.kept)
