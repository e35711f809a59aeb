-- `core_bytes::core_length` meets its contract. The loop's invariant: the bytes of the first j records are counted.
use mathlib.Core.Path.{◌≡◌}
use lib.ListN.{length}
use Rattle.desugar.specs.CoreBytes.{records_bytes}
use Rattle.desugar.proofs.core_bytes.core_length.Given as goal

abbrev pub invariant-loop-j : goal.invariant-loop-j
invariant-loop-j l = l.total ≡ length (records_bytes l.core 0 l.j)
