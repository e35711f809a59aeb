-- `core_bytes::write_core` meets its contract. The loop's invariant: the bytes of the first j records are written.
use mathlib.Core.Path.{◌≡◌}
use Prim.Native.Nat.{ℕ, ◌+◌, ◌*◌, ◌/◌, ◌≤◌, ◌<◌}
use lib.ListN.{length}
use Rattle.desugar.specs.CoreBytes.{CoreShape, record_at, records_bytes, Put}
use Rattle.desugar.proofs.core_bytes.write_core.Given as goal

abbrev pub invariant-loop-j : goal.invariant-loop-j
invariant-loop-j l =
    (l.last + 1 ≡ length l.core / 3) × (length (records_bytes l.core 0 (l.last + 1)) ≤ length l.initial.out)
    × ((i : ℕ) → i < l.last + 1 → let r = record_at l.core (3 * i) in CoreShape r.kind r.field r.value)
    × Put (records_bytes l.core 0 l.j) l.initial.out 0 l.out l.to
