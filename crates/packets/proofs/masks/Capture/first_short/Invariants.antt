-- `packets::masks::Capture::first_short` meets its contract.
use Rattle.packets.proofs.PacketLaws.{Judged}
use Rattle.packets.proofs.masks.Capture.first_short.Given as goal

abbrev pub invariant-loop-i : goal.invariant-loop-i
invariant-loop-i l = Judged l.fields l.self-inside.lengths.now l.self-inside.packets.now l.i l.start
