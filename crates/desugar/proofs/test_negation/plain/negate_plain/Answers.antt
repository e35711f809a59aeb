-- `desugar::test_negation::plain::negate_plain` meets its contract.
use native.Mathlib.Omega.{arith}
use Rattle.desugar.proofs.Regions.{kept_all, kept_then}
use Rattle.desugar.proofs.PlainNegation.{begin, wrote_kept, turn, ended}
use Rattle.desugar.proofs.test_negation.plain.negate_plain.Goals as goal

pub loop-j-init : goal.loop-j-init
loop-j-init c = record { kept = kept_all _ _; turning = λ t h q. begin (omega (arith, c.requires.copy_room.target)) h q }

pub emit-requires : goal.emit-requires
emit-requires c =
    let p = c.requires in
    let i = c.loop-j.invariant in (
      omega (arith, p.copy_room.source, i.kept.long, c.loop-j-test.true),
      (turn (rw i.kept.long p.copy_room) c.loop-j-test.true (i.turning p.lies.0 p.lies.1 p.lies.2)).0,
      omega (arith, p.copy_room.target, i.kept.long, c.loop-j-test.true),
    )

pub loop-j-preserved : goal.loop-j-preserved
loop-j-preserved c =
    let i = c.loop-j.invariant in
    let e = c.emit.ensures in record {
      kept = rw e (kept_then i.kept (wrote_kept _ c.args.core.at c.args.to c.loop-j.j));
      turning = λ t h q. rw e (turn (rw i.kept.long c.requires.copy_room) c.loop-j-test.true (i.turning t h q)).1;
    }

pub returns-clause-negated : goal.returns-clause-negated
returns-clause-negated c = λ t h q. ended c.loop-j-test.false (c.loop-j.invariant.turning t h q)
