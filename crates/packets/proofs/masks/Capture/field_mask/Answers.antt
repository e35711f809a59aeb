-- `packets::masks::Capture::field_mask` meets its contract.
use mathlib.Core.Path.{◌≡◌, refl, ap, subst, ◌∙◌}
use native.Mathlib.Omega.{arith}
use Rattle.packets.specs.Results.{field_mask}
use Rattle.packets.proofs.PacketLaws.{Masked, masked_start, start_back, mask_small, masked_next, masked_end}
use Rattle.packets.proofs.masks.Capture.field_mask.Goals as goal

pub loop-length-init : goal.loop-length-init
loop-length-init c =
    let all : c.self.inside.lengths.now ≡ c.into_iter-length-iterator.result.iter.rest.now = cc in record {
      masked = subst (λ left. Masked c.args.field c.self.inside.packets.now c.self.inside.lengths.now left c.self.inside.end 0) all (masked_start c.args.field c.self.inside.packets.now c.self.inside.lengths.now c.self.invariant.end_is);
      cut = c.min-to.ensures;
    }

pub overflow_sub-start : goal.overflow_sub-start
overflow_sub-start c = omega (arith, start_back c.loop-length.invariant.masked _ _ c.in-Some.ensures.steps)

pub with_bit-mask-requires : goal.with_bit-mask-requires
with_bit-mask-requires c = mask_small c.loop-length.invariant.masked _ _ c.in-Some.ensures.steps c.self.invariant.few

pub loop-length-preserved : goal.loop-length-preserved
loop-length-preserved c = record {
  masked = masked_next c.loop-length.invariant.masked _ _ c.in-Some.ensures.steps refl c.min-from.ensures c.loop-length.invariant.cut c.bit_at-standing.ensures c.with_bit-mask.ensures;
  cut = c.min-from.ensures;
}

pub returns : goal.returns
returns c = masked_end c.loop-length.invariant.masked c.in-None.ensures.steps.0 ∙ ap (field_mask c.args.field) c.self.view_is
