-- `packets::one_pass` meets its contract.
use mathlib.Core.Path.{◌≡◌}
use Prim.Native.Nat.{◌-◌}
use lib.ListN.{length}
use Rattle.cores.specs.Reading.{max_core}
use Rattle.packets.proofs.PassLaws.{PassingAt}
use Rattle.packets.proofs.one_pass.Given as goal

abbrev pub invariant-loop-spot : goal.invariant-loop-spot
invariant-loop-spot l = record {
  bytes : l.spot.cursor.bytes.now ≡ l.s;
  passing : PassingAt l.s l.fn.capture (length l.fn.list) l.frames l.spot l.test;
  same : l.capture ≡ l.fn.capture;
}

abbrev pub decreases-loop-spot : goal.decreases-loop-spot
decreases-loop-spot l = max_core - l.spot.cursor.place
