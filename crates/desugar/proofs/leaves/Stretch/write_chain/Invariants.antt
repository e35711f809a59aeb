-- `desugar::leaves::Stretch::write_chain` meets its contract. The loop's invariant: the links of the first i bits are written.
use mathlib.Core.Path.{◌≡◌}
use mathlib.Core.Bool.{Bool}
use Prim.Native.Nat.{ℕ}
use lib.ListN.{length}
use lib.Seq.{sets}
use Rattle.literals.specs.Results.{literal_bits}
use Rattle.expr.specs.Terms.{Atom, Op2}
use Rattle.desugar.specs.LeafWords.{Kinds, chain_atom, chain_operator, linked, stretch}
use Rattle.desugar.specs.Leaves.{each_bit}
use Rattle.desugar.proofs.leaves.Stretch.write_chain.Given as goal

abbrev pub invariant-loop-i : goal.invariant-loop-i
invariant-loop-i l =
    (length l.work ≡ length l.initial.work)
    × ((o : Op2) (f : ℕ → Bool → Atom) → Kinds (chain_operator l.links) (chain_atom l.links) o f
    → l.work ≡ sets l.initial.work l.at (linked o (each_bit f l.self.start (stretch (literal_bits l.self.bits) l.self.from l.i))))
