-- `cores::write_records` meets its contract.
use Prim.Native.Nat.{◌-◌}
use lib.ListN.{length}
use Rattle.cores.proofs.ListSteps.{Listing}
use Rattle.cores.proofs.write_records.Given as goal

abbrev pub invariant-loop-at : goal.invariant-loop-at
invariant-loop-at l = Listing l.s l.initial.list l.list l.at l.to

abbrev pub decreases-loop-at : goal.decreases-loop-at
decreases-loop-at l = length l.s - l.at
