-- `packets::masks::Capture::first_short` meets its contract.
use mathlib.Core.Path.{subst}
use native.Mathlib.Omega.{arith}
use Rattle.std.specs.Prelude.{Some, None}
use Rattle.packets.specs.Results.{ShortFound}
use Rattle.packets.proofs.PacketLaws.{judged_short, judged_next, judged_end, sum_within}
use Rattle.packets.proofs.masks.Capture.first_short.Goals as goal

pub overflow_add-behind : goal.overflow_add-behind
overflow_add-behind c = omega (arith, sum_within c.loop-i.invariant.sum c.loop-i-test.true, c.self.invariant.end_is, c.self.invariant.end_fits)

pub returns-then-min-bytes : goal.returns-then-min-bytes
returns-then-min-bytes c = subst (λ ps. ShortFound c.args.fields ps (Some c.loop-i.i)) c.self.view_is (judged_short c.args.fields c.self.inside.lengths.now c.self.inside.packets.now c.loop-i.invariant c.loop-i-test.true c.min-in-loop-i.ensures c.min.ensures c.if-min-bytes.true)

pub loop-i-preserved : goal.loop-i-preserved
loop-i-preserved c = judged_next c.args.fields c.self.inside.lengths.now c.self.inside.packets.now c.loop-i.invariant c.loop-i-test.true c.min-in-loop-i.ensures c.min.ensures c.if-min-bytes.false

pub returns : goal.returns
returns c = subst (λ ps. ShortFound c.args.fields ps None) c.self.view_is (judged_end c.args.fields c.self.inside.lengths.now c.self.inside.packets.now c.loop-i.invariant c.loop-i-test.false)
