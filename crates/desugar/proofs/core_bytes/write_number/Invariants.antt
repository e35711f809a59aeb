-- `core_bytes::write_number` meets its contract. The loop's invariant: with the bytes that are left, all are written.
use mathlib.Core.Path.{◌≡◌}
use Prim.Native.Nat.{◌+◌, ◌-◌, ◌≤◌}
use lib.ListN.{length}
use lib.Seq.{sets}
use Rattle.literals.specs.Bits.{bytes_of}
use Rattle.desugar.proofs.core_bytes.write_number.Given as goal

abbrev pub invariant-loop-i : goal.invariant-loop-i
invariant-loop-i g l =
    (l.to + g.row.N ≤ length l.out) × (sets l.out (l.to + l.i) (bytes_of (g.row.N - l.i) l.rest) ≡ sets l.initial.out l.to (bytes_of g.row.N l.fn.v))
