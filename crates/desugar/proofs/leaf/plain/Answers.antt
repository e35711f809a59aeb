-- `desugar::leaf::plain` meets its contract.
use mathlib.Core.Path.{refl}
use native.Mathlib.Omega.{arith}
use Rattle.expr.specs.Terms.{leaf}
use Rattle.expr.specs.Results.{record_of}
use Rattle.desugar.specs.RangedWords.{atom_of}
use Rattle.desugar.proofs.LeafSteps.{walked_stored}
use Rattle.desugar.proofs.leaf.plain.Goals as goal

pub returns : goal.returns
returns c =
    let a = c.args in
    λ s ρ. walked_stored (leaf (atom_of (record_of s a.head))) a.spot.place a.spot.allowance 1 refl (omega (arith, c.if-spot-eq0.false)) a.spot.at _ a.spot.top a.work.now _ c.requires.1.room
    (c.write_atom.ensures s)
