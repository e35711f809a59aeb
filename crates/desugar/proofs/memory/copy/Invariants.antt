-- `desugar::memory::copy` meets its contract. The loop's invariant: the first i numbers are copied, and the others stand where they stood.
use Rattle.desugar.proofs.Regions.{Copied}
use Rattle.desugar.proofs.memory.copy.Given as goal

abbrev pub invariant-loop-i : goal.invariant-loop-i
invariant-loop-i l = Copied l.initial.work l.work l.from l.to l.count l.i
