-- `leaf::leaf` meets its contract: what the kind says of the node, and the callee for it.
use mathlib.Core.Path.{ap, sym}
use Prim.Native.Nat.{◌+◌}
use Rattle.expr.specs.Terms.{Expr}
use Rattle.expr.specs.Results.{record_of}
use Rattle.expr.proofs.KindNumbers.{kind_small}
use Rattle.desugar.specs.Desugar.{desugar}
use Rattle.desugar.specs.Meter.{left}
use Rattle.desugar.proofs.LeafKinds.{plain_is, ranged_is, atom_small, above_atoms}
use Rattle.desugar.proofs.LeafSteps.{same_walk}
use Rattle.desugar.proofs.leaf.leaf.Goals as goal

pub plain-requires : goal.plain-requires
plain-requires c = (atom_small c.args.head.kind c.in-Zero.is, record { low = c.requires.low; room = c.requires.room })

pub returns-in-Zero : goal.returns-in-Zero
returns-in-Zero c =
    let a = c.args in
    λ e ρ n b. same_walk a.spot.at (a.spot.place + 1) a.spot.top a.spot.allowance 0 a.work.now c.plain.new.work c.plain.result
    (ap (λ (t : Expr). desugar ρ t a.spot.place (left a.spot.allowance)) (sym (plain_is (record_of a.s.now a.head) e (atom_small a.head.kind c.in-Zero.is) n)))
    (c.plain.ensures a.s.now ρ)

pub returns-in_default : goal.returns-in_default
returns-in_default c =
    let a = c.args in
    let d = c.in_default in
    let k = above_atoms a.head.kind d.not-Zero d.not-One d.not-Top d.not-Dup d.not-End d.not-Assign d.not-Test d.not-Var in
    λ e ρ n b. same_walk a.spot.at (a.spot.place + 1) a.spot.top a.spot.allowance 0 a.work.now c.ranged.new.work c.ranged.result
    (ap (λ (t : Expr). desugar ρ t a.spot.place (left a.spot.allowance)) (sym (ranged_is (record_of a.s.now a.head) e k.0 (kind_small a.head.kind) k.1 n)))
    (c.ranged.ensures ρ b)
