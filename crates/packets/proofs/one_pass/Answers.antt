-- `packets::one_pass` meets its contract.
use mathlib.Core.Path.{refl, sym, ap, subst, ◌∙◌}
use mathlib.Core.Bool.{◌&&◌}
use Prim.Native.Nat.{◌<◌}
use native.Mathlib.Omega.{arith}
use lib.ListN.{length, drop}
use Rattle.cores.specs.Reading.{max_core}
use Rattle.cores.specs.Results.{CoreRecordFound}
use Rattle.std.specs.Prelude.{Ok, Err}
use Rattle.refusals.proofs.Exits.{err_is}
use Rattle.packets.specs.Results.{Passed, Stepped}
use Rattle.cores.proofs.JudgeSteps.{judge_many, judge_refused, judge_due, judge_over}
use Rattle.packets.proofs.PassLaws.{pass_start, pass_record, passing_same, pass_skipped, pass_refused, pass_done, pass_unsettled, skims_bounded}
use Rattle.packets.proofs.one_pass.Goals as goal

pub loop-spot-init : goal.loop-spot-init
loop-spot-init c = record { bytes = c.new-spot.ensures.cursor.same; passing = pass_start c.args.s.now c.args.capture.now (length c.args.list.now) _ c.as_chunks_mut-frames.ensures.front_len c.new-spot.ensures; same = refl }

pub returns-then-cursor-ge-MAX_CORE : goal.returns-then-cursor-ge-MAX_CORE
returns-then-cursor-ge-MAX_CORE c = record {
  passed = rw c.at.ensures (pass_refused _ (judge_many c.loop-spot.invariant.passing.judging c.loop-spot-test.true c.if-cursor-ge-MAX_CORE.true));
  same = c.loop-spot.invariant.same;
}

pub returns-in-Err : goal.returns-in-Err
returns-in-Err c =
    let found = subst (λ s. CoreRecordFound (drop c.loop-spot.spot.cursor.at s) (Err c.in-Err.refusal)) c.loop-spot.invariant.bytes c.in-Err.ensures in record {
      passed = rw c.at-in-Err.ensures (pass_refused _ (judge_refused c.loop-spot.invariant.passing.judging c.loop-spot-test.true (omega (arith, c.if-cursor-ge-MAX_CORE.false)) c.in-Err.refusal found));
      same = c.loop-spot.invariant.same;
    }

pub skip_cores-spot-requires : goal.skip_cores-spot-requires
skip_cores-spot-requires c =
    let p = c.loop-spot.invariant.passing in
    let low : c.loop-spot.spot.cursor.place < max_core = omega (arith, c.if-cursor-ge-MAX_CORE.false) in
    let found = subst (λ s. CoreRecordFound (drop c.loop-spot.spot.cursor.at s) (Ok c.in-Ok.r)) c.loop-spot.invariant.bytes c.in-Ok.ensures in (
      omega (arith, low, judge_due p.judging c.loop-spot-test.true low c.type_inv.s found c.arity.ensures),
      omega (arith, low, p.few, p.deep, c.step-run.ensures.stepped.few),
    )

pub loop-spot-smaller : goal.loop-spot-smaller
loop-spot-smaller c =
    omega (arith, c.if-cursor-ge-MAX_CORE.false, c.behind-behind.ensures.place, (skims_bounded c.behind-behind.result.low c.skip_cores-spot.ensures.skims).more)

pub loop-spot-preserved : goal.loop-spot-preserved
loop-spot-preserved c =
    let i = c.loop-spot.invariant in
    let low : c.loop-spot.spot.cursor.place < max_core = omega (arith, c.if-cursor-ge-MAX_CORE.false) in
    let found = subst (λ s. CoreRecordFound (drop c.loop-spot.spot.cursor.at s) (Ok c.in-Ok.r)) i.bytes c.in-Ok.ensures in
    let step = subst (λ ps. Stepped ps c.loop-spot.frames c.loop-spot.spot.run c.in-Ok.r c.step-run.new.frames c.step-run.result) i.same c.step-run.ensures.stepped in
    let read = pass_record i.passing c.type_inv.s c.loop-spot-test.true low c.in-Ok.r found c.arity.ensures c.behind-behind.ensures.fields (ap (λ b. c.loop-spot.test && b) c.is_test-test.ensures) c.step-run.auto.frames step in
    let bytes = c.behind-behind.ensures.same ∙ i.bytes in
    record {
      bytes = c.skip_cores-spot.ensures.same ∙ bytes;
      passing = pass_skipped _ c.skip_cores-spot.result bytes (passing_same (sym c.behind-behind.ensures.at) refl (sym c.behind-behind.ensures.place) refl refl read) c.type_inv.s c.skip_cores-spot.ensures;
      same = c.step-run.ensures.same ∙ i.same;
    }

pub returns-then-cursor-s : goal.returns-then-cursor-s
returns-then-cursor-s c = record {
  passed = rw c.at-then-cursor-s.ensures (pass_refused _ (judge_over c.loop-spot.invariant.passing.judging c.loop-spot-test.false c.if-cursor-s.true));
  same = c.loop-spot.invariant.same;
}

pub returns-in_err-counts : goal.returns-in_err-counts
returns-in_err-counts c = record {
  passed = rw (err_is _ c.from_residual.ensures.1) (pass_unsettled c.loop-spot.invariant.passing c.loop-spot-test.false c.if-cursor-s.false c.in_err-counts.field-0.0 c.in_err-counts.ensures);
  same = c.loop-spot.invariant.same;
}

pub returns : goal.returns
returns c = record {
  passed = pass_done c.loop-spot.invariant.passing c.loop-spot-test.false c.if-cursor-s.false c.in_ok-counts.counts c.in_ok-counts.ensures;
  same = c.loop-spot.invariant.same;
}
