-- `operations::all_fragment` meets its contract. The loop's invariant: the term is in the fragment if the terms that are left are.
use Prim.Native.Nat.{◌-◌}
use lib.ListN.{length}
use Rattle.expr.proofs.FragmentScan.{FragmentLeft}
use Rattle.expr.proofs.operations.all_fragment.Given as goal

abbrev pub invariant-loop-at : goal.invariant-loop-at
invariant-loop-at l = FragmentLeft l.term l.at

abbrev pub decreases-loop-at : goal.decreases-loop-at
decreases-loop-at l = length l.term - l.at
