-- `operations::count_fields` meets its contract. The loop's invariant: the term's count is that of the terms that are left, from this place and count on.
use Prim.Native.Nat.{◌-◌}
use lib.ListN.{length}
use Rattle.expr.proofs.FieldScan.{FieldsLeft}
use Rattle.expr.proofs.operations.count_fields.Given as goal

abbrev pub invariant-loop-at : goal.invariant-loop-at
invariant-loop-at l = FieldsLeft l.term l.at l.place l.count

abbrev pub decreases-loop-at : goal.decreases-loop-at
decreases-loop-at l = length l.term - l.at
