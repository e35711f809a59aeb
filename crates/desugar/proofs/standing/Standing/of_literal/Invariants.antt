-- `desugar::standing::Standing::of_literal` meets its contract. The loop's invariant: the bits below p are counted.
use Rattle.literals.specs.Results.{literal_bits}
use Rattle.desugar.specs.LeafWords.{Stands, stretch}
use Rattle.desugar.proofs.standing.Standing.of_literal.Given as goal

abbrev pub invariant-loop-p : goal.invariant-loop-p
invariant-loop-p l = Stands (stretch (literal_bits l.bits) 0 l.p) l.standing
