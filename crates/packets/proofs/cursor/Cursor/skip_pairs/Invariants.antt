-- `packets::cursor::Cursor::skip_pairs` meets its contract.
use Prim.Native.Nat.{◌-◌}
use Rattle.cores.specs.Reading.{max_core}
use Rattle.packets.proofs.PassLaws.{Pairing}
use Rattle.packets.proofs.cursor.Cursor.skip_pairs.Given as goal

abbrev pub invariant-loop-place : goal.invariant-loop-place
invariant-loop-place l = Pairing l.self.bytes.now l.self.at l.self.place l.initial.most l.at l.place l.most

abbrev pub decreases-loop-place : goal.decreases-loop-place
decreases-loop-place l = max_core - l.place
