-- `desugar::standing::Standing::of_byte` meets its contract. The loop's invariant: the lowest i bits are counted.
use lib.ListN.{take}
use Rattle.literals.specs.Bits.{bits_of}
use Rattle.desugar.specs.LeafWords.{Stands}
use Rattle.desugar.proofs.standing.Standing.of_byte.Given as goal

abbrev pub invariant-loop-i : goal.invariant-loop-i
invariant-loop-i l = Stands (take l.i (bits_of 8 l.byte)) l.standing
