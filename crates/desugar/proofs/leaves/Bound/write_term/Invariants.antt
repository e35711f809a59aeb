-- `desugar::leaves::Bound::write_term` meets its contract. The loop's invariant: where the links of the bits from p₀ on were written, those of the bits from p on are now.
use mathlib.Core.Path.{◌≡◌}
use mathlib.Core.List.{List}
use Prim.Native.Nat.{◌*◌, ◌+◌, ◌-◌, ◌<◌, ℕ}
use lib.ListN.{length}
use lib.Seq.{sets}
use Rattle.literals.specs.Results.{literal_bits}
use Rattle.expr.specs.Terms.{Intersect}
use Rattle.desugar.specs.LeafWords.{linked, tops}
use Rattle.desugar.proofs.leaves.Bound.write_term.Given as goal

abbrev pub invariant-loop-p : goal.invariant-loop-p
invariant-loop-p l =
    let b = l.self in
    (l.i < l.p) × (l.to ≡ l.fn.progress.to + 6 * (b.width - l.p)) × (length l.work ≡ length l.initial.work)
    × ((xs : List ℕ) → l.initial.work ≡ sets xs l.fn.progress.to (linked Intersect (tops b.start (literal_bits b.bits) b.width l.fn.progress.done))
    → l.work ≡ sets xs l.fn.progress.to (linked Intersect (tops b.start (literal_bits b.bits) b.width l.p)))
