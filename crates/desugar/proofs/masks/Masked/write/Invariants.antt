-- `desugar::masks::Masked::write` meets its contract. The loop's invariant: the tests of the lowest i bits are written, and `to` lies behind them.
use mathlib.Core.Path.{◌≡◌}
use Prim.Native.Nat.{◌*◌, ◌+◌, ◌<◌, ◌≤◌, suc}
use lib.ListN.{length}
use lib.Seq.{sets}
use Rattle.literals.specs.Results.{literal_bits}
use Rattle.expr.specs.Terms.{Intersect}
use Rattle.desugar.specs.Costs.{clear}
use Rattle.desugar.specs.LeafWords.{linked, stretch, trim}
use Rattle.desugar.proofs.Masked.{lows}
use Rattle.desugar.proofs.masks.Masked.write.Given as goal

abbrev pub invariant-loop-i : goal.invariant-loop-i
invariant-loop-i l =
    let m = literal_bits l.self.mask in
    (trim m l.self.width ≡ suc l.last) × (l.last < l.self.width) × (l.at + 6 * clear (stretch m 0 l.last) + 3 ≤ length l.work)
    × (l.to ≡ l.at + 6 * clear (stretch m 0 l.i)) × (length l.work ≡ length l.initial.work)
    × (l.work ≡ sets l.initial.work l.at (linked Intersect (lows l.start (literal_bits l.self.address) m l.i)))
