-- `desugar::operands::unite` meets its contract.
use mathlib.Core.Path.{refl, ap, ◌∙◌}
use mathlib.Core.List.{List, [], ◌∷◌}
use Prim.Native.Nat.{ℕ, ◌+◌, ◌-◌, ◌*◌}
use native.Mathlib.Omega.{arith}
use lib.Seq.{sets}
use Rattle.expr.specs.Answers.{ok}
use Rattle.expr.specs.Terms.{Union, Sequence, two}
use Rattle.desugar.specs.Meter.{left}
use Rattle.desugar.specs.Memory.{Kept, Lies}
use Rattle.desugar.specs.WalkWords.{negated_at}
use Rattle.desugar.proofs.Regions.{kept_less, lies_at}
use Rattle.desugar.proofs.Closing.{draw_within, united_kept, united_lies}
use Rattle.desugar.proofs.operands.unite.Goals as goal

pub returns : goal.returns
returns c =
    let a = c.args in
    let moved = c.settle.ensures in
    let mid = c.end-mid.ensures in
    let top = a.g.condition.at - 6 in
    let is =
    c.write_bare-3.ensures
    ∙ ap (λ (m : List ℕ). sets m top (7 ∷ 0 ∷ 0 ∷ []))
    (c.write_bare-2.ensures
    ∙ ap (λ (m : List ℕ). sets m (top + 3) (11 ∷ 0 ∷ 0 ∷ [])) (c.write_bare.ensures ∙ ap (λ (n : ℕ). sets c.settle.new.work n (11 ∷ 0 ∷ 0 ∷ [])) mid))
    in
    λ t u n d p.
    let kept : Kept (negated_at a.g + 3 * a.size) a.work.now c.settle.new.work = kept_less (omega (arith, mid)) moved.kept in
    let other : Lies c.settle.new.work (negated_at a.g + 3 * a.size) a.e.core.count d = lies_at (omega (arith, mid)) refl (moved.lies d p.other) in
    record {
      core = two Union (two Sequence t u) (two Sequence n d);
      is = draw_within (a.size + 3) a.place (two Union (two Sequence t u) (two Sequence n d)) a.e.left (omega (arith, c.if-e-size.false))
          ∙ ap (λ (k : ℕ). ok (two Union (two Sequence t u) (two Sequence n d), left k)) (omega arith);
      used_is = refl;
      next_is = refl;
      lies = united_lies a.g p kept other is;
      kept = united_kept a.g p kept other is;
      above = omega arith;
      reach = omega (arith, c.if-e-size.false, a.g.low);
      drawn = omega (arith, c.if-e-size.false);
    }
