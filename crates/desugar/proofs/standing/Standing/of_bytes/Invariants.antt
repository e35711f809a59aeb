-- `desugar::standing::Standing::of_bytes` meets its contract. The loop's invariant: the bits of the first i bytes are counted.
use Prim.Native.Nat.{◌*◌}
use Rattle.literals.specs.Results.{literal_bits}
use Rattle.desugar.specs.LeafWords.{Stands, stretch}
use Rattle.desugar.proofs.standing.Standing.of_bytes.Given as goal

abbrev pub invariant-loop-i : goal.invariant-loop-i
invariant-loop-i l = Stands (stretch (literal_bits l.bits) 0 (8 * l.i)) l.standing
