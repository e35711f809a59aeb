-- `desugar::masks::Masked::trimmed` meets its contract. The loop's invariant: what lies from i on is true.
use mathlib.Core.Path.{◌≡◌}
use Rattle.literals.specs.Results.{literal_bits}
use Rattle.desugar.specs.LeafWords.{trim}
use Rattle.desugar.proofs.masks.Masked.trimmed.Given as goal

abbrev pub invariant-loop-i : goal.invariant-loop-i
invariant-loop-i l = trim (literal_bits l.self.mask) l.self.width ≡ trim (literal_bits l.self.mask) l.i
