-- `desugar::operands::join` meets its contract.
use mathlib.Core.Path.{refl, sym, ◌∙◌}
use Prim.Native.Nat.{◌+◌}
use native.Mathlib.Omega.{arith}
use Rattle.expr.specs.Terms.{two}
use Rattle.desugar.proofs.Regions.{kept_all, kept_less, lies_at, region_words, size_pos}
use Rattle.desugar.proofs.Frames.{lies_kept}
use Rattle.desugar.proofs.Closing.{walked_since, join_dropped, join_kept, two_operands}
use Rattle.desugar.proofs.operands.join.Goals as goal

pub returns-then-drops : goal.returns-then-drops
returns-then-drops c =
    let a = c.args in
    λ o t u e d l r. record {
      core = t;
      is = join_dropped o t u a.place a.b.left d (sym (c.drops.ensures o u e (c.words.ensures ∙ region_words r)) ∙ c.if-drops.true);
      used_is = refl;
      next_is = refl;
      lies = l;
      kept = kept_all _ _;
      above = omega arith;
      reach = omega (arith, c.requires.low, r.count, size_pos u);
      drawn = omega arith;
    }

pub returns : goal.returns
returns c =
    let a = c.args in
    let moved = c.settle.ensures in
    λ o t u e d l r. walked_since a.b.used a.b.next (a.first.count + a.b.core.count + a.b.left) 0 _
    (join_kept o t u a.place a.b.left d (sym (c.drops.ensures o u e (c.words.ensures ∙ region_words r)) ∙ c.if-drops.false)) (omega arith) (kept_less (omega arith) moved.kept) c.seal.result
    (c.seal.ensures (two o t u) (two_operands o t u e refl (lies_kept moved.kept (omega arith) l) (lies_at c.end.ensures refl (moved.lies u r))))
