-- `packets::masks::Capture::field_mask` meets its contract.
use mathlib.Core.Path.{◌≡◌}
use Prim.Native.Nat.{min}
use lib.ListN.{length}
use Rattle.packets.proofs.PacketLaws.{Masked}
use Rattle.packets.proofs.masks.Capture.field_mask.Given as goal

abbrev pub invariant-loop-length : goal.invariant-loop-length
invariant-loop-length l = record {
  masked : Masked l.field l.self-inside.packets.now l.self-inside.lengths.now l.length-iterator.iter.rest.now l.start l.mask;
  cut : l.to ≡ min l.start (length l.self-inside.packets.now);
}
