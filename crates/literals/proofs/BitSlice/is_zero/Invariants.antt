-- `literals::BitSlice::is_zero` meets its contract. The loop's invariant: the bits below i spell 0.
use mathlib.Core.Path.{◌≡◌}
use lib.ListN.{take}
use Rattle.literals.specs.Bits.{value_of}
use Rattle.literals.specs.Results.{literal_bits}
use Rattle.literals.proofs.BitSlice.is_zero.Given as goal

abbrev pub invariant-loop-i : goal.invariant-loop-i
invariant-loop-i l = value_of (take l.i (literal_bits l.self)) ≡ 0
