-- `packets::skim::skim` meets its contract.
use Prim.Native.Nat.{◌-◌}
use Rattle.cores.specs.Reading.{max_core}
use Rattle.packets.proofs.PassLaws.{Skimming}
use Rattle.packets.proofs.skim.skim.Given as goal

abbrev pub invariant-loop-skip : goal.invariant-loop-skip
invariant-loop-skip l = Skimming l.initial.cursor l.cores l.cursor l.skip

abbrev pub decreases-loop-skip : goal.decreases-loop-skip
decreases-loop-skip l = max_core - l.cursor.place
