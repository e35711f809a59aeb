-- `packets::frames::step` meets its contract.
use mathlib.Core.Path.{ap}
use native.Mathlib.Omega.{arith}
use lib.ListN.{set}
use Rattle.packets.proofs.FrameLaws.{step_open}
use Rattle.packets.proofs.frames.step.Goals as goal

pub returns-clause-stepped : goal.returns-clause-stepped
returns-clause-stepped c = step_open c.args.capture.now c.args.frames.now c.args.sofar c.args.r c.requires.0 c.if-skip-gt0.false (omega (arith, c.if-number-lt7.false, c.number.ensures)) c.if-frames-depth.false c.opened_kind.ensures (ap (set c.args.frames.now c.args.sofar.depth) c.framed.ensures)
