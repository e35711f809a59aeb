-- `desugar::leaves::Bound::write` meets its contract. The loop's invariant: the terms of the bits from p on are written, and `progress` tells the index behind them and where links of bits from p on stand.
use mathlib.Core.Path.{◌≡◌}
use Prim.Native.Nat.{◌*◌, ◌+◌, ◌-◌, ◌<◌, ◌≤◌}
use lib.ListN.{length}
use lib.Seq.{sets}
use Rattle.literals.specs.Results.{literal_bits}
use Rattle.expr.specs.Terms.{Union}
use Rattle.desugar.specs.Costs.{differences_size}
use Rattle.desugar.specs.LeafWords.{Ready, linked, stretch}
use Rattle.desugar.specs.Leaves.{differences}
use Rattle.desugar.proofs.leaves.Bound.write.Given as goal

abbrev pub invariant-loop-p : goal.invariant-loop-p
invariant-loop-p l =
    let b = l.self in
    let above = stretch (literal_bits b.bits) l.p (b.width - l.p) in
    (l.progress.to ≡ l.at + 3 * differences_size l.upper above) × (length l.work ≡ length l.initial.work)
    × (l.work ≡ sets l.initial.work l.at (linked Union (differences l.upper (b.start + l.p) above)))
    × (l.p ≤ l.progress.done) × (0 < l.progress.done) × Ready b.start (literal_bits b.bits) b.width l.work l.progress
