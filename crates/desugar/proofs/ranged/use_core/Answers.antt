-- `desugar::ranged::use_core` meets its contract.
use native.Mathlib.Omega.{arith}
use Rattle.desugar.specs.WalkWords.{where_of, use_of}
use Rattle.desugar.specs.RangedWords.{core_on, record_in}
use Rattle.desugar.proofs.RuleLaws.{range_kept}
use Rattle.desugar.proofs.LeafSteps.{too_large, walked_stored}
use Rattle.desugar.proofs.ranged.use_core.Goals as goal

pub invariant_of-judged : goal.invariant_of-judged
invariant_of-judged c =
    let a = c.args in
    let h = record_in a.u in
    let kept = range_kept (where_of h) (use_of h) a.fields.start a.fields.end c.requires.0.rule in
    record { ordered = kept.0; kept = kept.1 }

pub returns-then-spot-size : goal.returns-then-spot-size
returns-then-spot-size c = rw c.at.ensures (let a = c.args in
    let h = record_in a.u in
    too_large (core_on (use_of h) a.fields) a.spot.place a.spot.allowance (omega (arith, c.size-size.ensures a.fields.start, c.if-spot-size.true)))

pub write-requires : goal.write-requires
write-requires c =
    let a = c.args in
    omega (arith, c.size-size.ensures a.fields.start, c.if-spot-size.false, c.requires.1.room)

pub returns : goal.returns
returns c =
    let a = c.args in
    walked_stored (core_on (use_of (record_in a.u)) a.fields) a.spot.place a.spot.allowance c.size-size.result (c.size-size.ensures a.fields.start) c.if-spot-size.false
    a.spot.at _ a.spot.top a.work.now _ c.requires.1.room c.write.ensures
