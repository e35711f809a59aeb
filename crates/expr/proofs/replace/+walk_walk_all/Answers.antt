use mathlib.Core.Path.{refl}
use native.Mathlib.Omega.{arith}
use Rattle.std.proofs.Common.{rules}
use Rattle.expr.specs.Kinds.{kind_number}
use Rattle.expr.proofs.Arities.{arity_small}
use Rattle.expr.proofs.HeadOf.{not_refused}
use Rattle.expr.proofs.SwapSteps.{some_left, front_head, is_var, is_first, is_others, var_room, var_done, own_room, all_ready, all_done}
use Rattle.expr.proofs.SwapRest.{first_ready, used_inside, count_small, level_small, all_due, none_due, due_again}
use Rattle.expr.proofs.replace.+walk_walk_all.Goals as goal

pub walk-returns-in_default : goal.walk-returns-in_default
walk-returns-in_default t c = λ q. absurd (not_refused q.term q.more q.bytes q.fits c.in_default.ensures)

pub walk-copy-requires : goal.walk-copy-requires
walk-copy-requires t c =
    let q = c.requires in
    let head = front_head q c.in-Ok.ensures in
    var_room q head (is_var q head c.is_named.ensures refl c.if-hit.true)

pub walk-returns-then-hit : goal.walk-returns-then-hit
walk-returns-then-hit t c = λ q.
    let head = front_head q c.in-Ok.ensures in
    var_done q head (is_var q head c.is_named.ensures refl c.if-hit.true) c.copy.ensures

pub walk-copy-requires-2 : goal.walk-copy-requires-2
walk-copy-requires-2 t c =
    let q = c.requires in
    let head = front_head q c.in-Ok.ensures in
    own_room q head (is_var q head c.is_named.ensures refl c.if-hit.false)

pub walk-overflow_sub-children : goal.walk-overflow_sub-children
walk-overflow_sub-children t c = some_left c.requires

pub walk-walk_all-requires : goal.walk-walk_all-requires
walk-walk_all-requires t c =
    let q = c.requires in
    let own = front_head q c.in-Ok.ensures in (
      omega (arith, c.decreases, some_left q, arity_small (kind_number c.in-Ok.head.kind) c.arity.result c.arity.ensures),
      all_ready q own (is_var q own c.is_named.ensures refl c.if-hit.false) (is_first q own c.is_named-2.ensures refl) (is_others q own c.is_named-3.ensures refl) c.copy-2.auto.out c.arity.ensures,
    )

pub walk-returns : goal.walk-returns
walk-returns t c = λ q.
    let head = front_head q c.in-Ok.ensures in
    all_done q head (is_var q head c.is_named.ensures refl c.if-hit.false) (is_first q head c.is_named-2.ensures refl) (is_others q head c.is_named-3.ensures refl) c.copy-2.ensures c.copy-2.auto.out c.arity.ensures c.walk_all.ensures

pub walk_all-loop-init : goal.walk_all-loop-init
walk_all-loop-init t c = all_due c.requires (omega arith)

pub walk_all-walk-a-requires : goal.walk_all-walk-a-requires
walk_all-walk-a-requires t c = (omega arith, first_ready c.loop.invariant.asked (omega (arith, c.loop-test.true)))

pub walk_all-overflow_add-a : goal.walk_all-overflow_add-a
walk_all-overflow_add-a t c =
    omega (arith, level_small c.loop.invariant.asked (omega (arith, c.loop-test.true)) c.walk-a.auto.out c.walk-a.ensures)

pub walk_all-overflow_add-records : goal.walk_all-overflow_add-records
walk_all-overflow_add-records t c =
    omega (arith, count_small c.loop.invariant.asked (omega (arith, c.loop-test.true)) c.walk-a.auto.out c.walk-a.ensures)

pub walk_all-overflow_add-behind : goal.walk_all-overflow_add-behind
walk_all-overflow_add-behind t c =
    omega (arith, used_inside c.loop.invariant.asked (omega (arith, c.loop-test.true)) c.walk-a.auto.out c.walk-a.ensures)

pub walk_all-loop-preserved : goal.walk_all-loop-preserved
walk_all-loop-preserved t c =
    due_again c.loop.invariant (omega (arith, c.loop-test.true)) c.walk-a.auto.out c.walk-a.ensures (search rules) (omega arith)

pub walk_all-returns : goal.walk_all-returns
walk_all-returns t c = none_due c.loop.invariant (omega (arith, c.loop-test.false))
