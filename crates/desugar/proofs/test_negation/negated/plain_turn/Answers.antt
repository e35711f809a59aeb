-- `desugar::test_negation::negated::plain_turn` meets its contract.
use native.Mathlib.Omega.{arith}
use Rattle.desugar.proofs.Regions.{kept_all}
use Rattle.desugar.proofs.TurnSteps.{turn_value, plain_stop, plain_kept, plain_leaf, plain_deep, plain_pushed, plain_turned}
use Rattle.desugar.proofs.test_negation.negated.plain_turn.Goals as goal

-- p is what is required, and q its part about the mode and the kind.
pub returns-then-p-made : goal.returns-then-p-made
returns-then-p-made c =
    let p = c.requires in
    let q = p.negates_low_kind in
    record {
      kept = kept_all _ _;
      stepped = λ t h. plain_stop p.room p.left p.within h q.0 q.1 q.2 c.if-p-made.true;
    }

pub new_value-requires : goal.new_value-requires
new_value-requires c =
    let p = c.requires in
    turn_value p.room p.left p.within p.run.1

pub returns-then-kind-lt-FIRST_OPERATOR : goal.returns-then-kind-lt-FIRST_OPERATOR
returns-then-kind-lt-FIRST_OPERATOR c =
    let w = c.write_record.ensures in
    let k = c.new_kind.ensures in
    let v = c.new_value.ensures in
    let p = c.requires in
    let q = p.negates_low_kind in record {
      kept = rw (w, k, v) (plain_kept p.room p.left p.within p.run.1 q.0 q.1 q.2);
      stepped = λ t h. rw (w, k, v) (plain_leaf p.room p.left p.within h q.0 q.1 q.2 c.if-p-made.false c.if-kind-lt-FIRST_OPERATOR.true);
    }

pub overflow_sub-work : goal.overflow_sub-work
overflow_sub-work c =
    let p = c.requires in
    let q = p.negates_low_kind in
    omega (arith, plain_deep p.room p.left p.within p.run.1 q.0 q.1 q.2 c.if-p-made.false c.if-kind-lt-FIRST_OPERATOR.false)

pub overflow_sub-result : goal.overflow_sub-result
overflow_sub-result c =
    let p = c.requires in
    let q = p.negates_low_kind in
    omega (arith, plain_deep p.room p.left p.within p.run.1 q.0 q.1 q.2 c.if-p-made.false c.if-kind-lt-FIRST_OPERATOR.false)

pub returns : goal.returns
returns c =
    let w = c.write_record.ensures in
    let k = c.new_kind.ensures in
    let v = c.new_value.ensures in
    let p = c.requires in
    let q = p.negates_low_kind in record {
      kept = rw (w, k, v) (plain_pushed p.room p.left p.within p.run.1 q.0 q.1 q.2 c.if-p-made.false c.if-kind-lt-FIRST_OPERATOR.false);
      stepped = λ t h. rw (w, k, v) (plain_turned p.room p.left p.within h q.0 q.1 q.2 c.if-p-made.false c.if-kind-lt-FIRST_OPERATOR.false);
    }
