-- `desugar::masks::Masked::count` meets its contract. The loop's invariant: the count is that of the lowest i bits.
use mathlib.Core.Path.{◌≡◌}
use Rattle.literals.specs.Results.{literal_bits}
use Rattle.desugar.specs.Costs.{clear}
use Rattle.desugar.specs.LeafWords.{stretch}
use Rattle.desugar.proofs.masks.Masked.count.Given as goal

abbrev pub invariant-loop-i : goal.invariant-loop-i
invariant-loop-i l = l.count ≡ clear (stretch (literal_bits l.self.mask) 0 l.i)
