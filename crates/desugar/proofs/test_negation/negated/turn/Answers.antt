-- `desugar::test_negation::negated::turn` meets its contract.
use mathlib.Core.Path.{◌∙◌}
use native.Mathlib.Omega.{arith}
use Rattle.desugar.proofs.Regions.{kept_all}
use Rattle.desugar.proofs.TurnSteps.{turn_sides, turn_top, turn_here, turn_value, stop, wrote_kept, leaf_turn, deep_turn, both_kept, op_turn}
use Rattle.desugar.proofs.test_negation.negated.turn.Goals as goal

pub dropped-drop-requires : goal.dropped-drop-requires
dropped-drop-requires c =
    let p = c.requires in
    turn_sides p.room p.left p.within p.run.1

pub returns-then-p-made : goal.returns-then-p-made
returns-then-p-made c =
    let p = c.requires in
    record {
      kept = kept_all _ _;
      stepped = λ t h. stop p.room p.left p.within h c.from-mode.ensures c.dropped-drop.ensures (c.size-k.ensures ∙ c.written-written.ensures) c.if-p-made.true;
    }

-- From here on p is what is required, d and k what is dropped and how many records are written.
pub emit-requires : goal.emit-requires
emit-requires c =
    let p = c.requires in (
      turn_here p.room p.left p.within p.run.1,
      turn_value p.room p.left p.within p.run.1,
      omega (arith, p.room, p.within, c.size-k.ensures, c.if-p-made.false),
    )

pub returns-then-kind-lt-FIRST_OPERATOR : goal.returns-then-kind-lt-FIRST_OPERATOR
returns-then-kind-lt-FIRST_OPERATOR c =
    let e = c.emit.ensures in
    let p = c.requires in
    let d = c.dropped-drop.ensures in
    let k = c.size-k.ensures ∙ c.written-written.ensures in record {
      kept = rw (e, ← c.size-k.ensures) (wrote_kept p.room p.left p.within p.run.1 c.from-mode.ensures d k);
      stepped = λ t h. rw (e, ← c.size-k.ensures) (leaf_turn p.room p.left p.within h c.from-mode.ensures d k c.if-p-made.false c.if-kind-lt-FIRST_OPERATOR.true);
    }

pub push-requires : goal.push-requires
push-requires c =
    let p = c.requires in
    let d = c.dropped-drop.ensures in
    let k = c.size-k.ensures ∙ c.written-written.ensures in (
      omega (arith, deep_turn p.room p.left p.within p.run.1 c.from-mode.ensures d k c.if-p-made.false c.if-kind-lt-FIRST_OPERATOR.false),
      omega (arith, turn_top p.room p.left p.within p.run.1, c.emit.auto.work),
    )

pub overflow_sub-result : goal.overflow_sub-result
overflow_sub-result c =
    let p = c.requires in
    let d = c.dropped-drop.ensures in
    let k = c.size-k.ensures ∙ c.written-written.ensures in
    omega (arith, deep_turn p.room p.left p.within p.run.1 c.from-mode.ensures d k c.if-p-made.false c.if-kind-lt-FIRST_OPERATOR.false)

pub returns : goal.returns
returns c =
    let e = c.emit.ensures in
    let p = c.requires in
    let d = c.dropped-drop.ensures in
    let k = c.size-k.ensures ∙ c.written-written.ensures in record {
      kept = rw (c.push.ensures, e, ← c.size-k.ensures) (both_kept p.room p.left p.within p.run.1 c.from-mode.ensures d k c.if-p-made.false c.if-kind-lt-FIRST_OPERATOR.false);
      stepped = λ t h. rw (c.push.ensures, e, ← c.size-k.ensures) (op_turn p.room p.left p.within h c.from-mode.ensures d k c.if-p-made.false c.if-kind-lt-FIRST_OPERATOR.false);
    }
