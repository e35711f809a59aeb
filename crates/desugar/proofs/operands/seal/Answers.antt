-- `desugar::operands::seal` meets its contract.
use mathlib.Core.Path.{refl, sym, subst}
use mathlib.Core.List.{[], ◌∷◌}
use Prim.Native.Nat.{◌+◌, ◌-◌}
use native.Mathlib.Omega.{arith}
use Rattle.expr.specs.Kinds.{kind_number}
use Rattle.desugar.specs.Memory.{Kept, Lies}
use Rattle.desugar.proofs.Regions.{kept_sets}
use Rattle.desugar.proofs.Closing.{draw_within, sealed}
use Rattle.desugar.proofs.operands.seal.Goals as goal

pub returns : goal.returns
returns c =
    let a = c.args in
    let w = a.operand in
    let e = c.write_bare.ensures in
    λ t p. record {
      core = t;
      is = draw_within 1 a.place t w.left (omega (arith, c.if-operand-eq0.false));
      used_is = refl;
      next_is = refl;
      lies = subst (λ m. Lies m (w.core.at - 3) (w.core.count + 1) t) (sym e) (sealed c.requires.0 p);
      kept = subst (λ m. Kept (w.core.at - 3) a.work.now m) (sym e) (kept_sets (w.core.at - 3) a.work.now (w.core.at - 3) (kind_number a.kind ∷ 0 ∷ 0 ∷ []) (omega arith));
      above = omega arith;
      reach = omega (arith, c.if-operand-eq0.false);
      drawn = omega (arith, c.if-operand-eq0.false);
    }
