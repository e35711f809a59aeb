-- `literals::BitSlice::is_highest` meets its contract. The loop's invariant: the bits below i spell the highest value of i bits.
use mathlib.Core.Path.{◌≡◌}
use Prim.Native.Nat.{◌+◌, ◌^◌}
use lib.ListN.{take}
use Rattle.literals.specs.Bits.{value_of}
use Rattle.literals.specs.Results.{literal_bits}
use Rattle.literals.proofs.BitSlice.is_highest.Given as goal

abbrev pub invariant-loop-i : goal.invariant-loop-i
invariant-loop-i l = value_of (take l.i (literal_bits l.self)) + 1 ≡ 2 ^ l.i
