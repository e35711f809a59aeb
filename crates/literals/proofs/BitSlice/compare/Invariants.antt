-- `literals::BitSlice::compare` meets its contract. The loop's invariant: the bits above are equal.
use Prim.Native.Nat.{◌-◌}
use Rattle.literals.specs.Results.{literal_bits}
use Rattle.literals.proofs.Comparing.{Comparing}
use Rattle.literals.proofs.BitSlice.compare.Given as goal

abbrev pub invariant-loop-i : goal.invariant-loop-i
invariant-loop-i l = Comparing l.width (l.width - l.i) (literal_bits l.self) (literal_bits l.other)
