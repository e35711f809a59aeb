-- `replace::copy` meets its contract.
use mathlib.Core.Path.{◌≡◌}
use Prim.Native.Nat.{◌+◌, ◌≤◌}
use lib.ListN.{length}
use lib.Seq.{paste}
use Rattle.expr.proofs.replace.copy.Given as goal

-- so many bytes are copied, and there is room for all
abbrev pub invariant-loop-i : goal.invariant-loop-i
invariant-loop-i l = (length l.out ≡ length l.initial.out) × (l.out ≡ paste l.initial.out l.at l.from l.i) × (l.at + length l.from ≤ length l.initial.out)
