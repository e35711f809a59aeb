-- `operations::all_fragment` meets its contract. The loop's invariant: the term is in the fragment if the terms that are left are.
use Rattle.expr.proofs.Scans.{never_refused, step}
use Rattle.expr.proofs.FragmentScan.{fragment_start, fragment_end, fragment_no, fragment_step}
use Rattle.expr.proofs.operations.all_fragment.Goals as goal

pub loop-at-init : goal.loop-at-init
loop-at-init c = fragment_start c.type_inv.term c.requires

pub returns-in_default : goal.returns-in_default
returns-in_default c =
    let l = c.loop-at.invariant in
    absurd (never_refused l.left c.loop-at-test.true c.in_default.ensures)

pub returns-then-not-in_fragment : goal.returns-then-not-in_fragment
returns-then-not-in_fragment c =
    let l = c.loop-at.invariant in
    fragment_no l (step l.left c.loop-at-test.true c.in-Ok.ensures) c.if-not-in_fragment.ensures

pub loop-at-preserved : goal.loop-at-preserved
loop-at-preserved c =
    let l = c.loop-at.invariant in
    fragment_step l (step l.left c.loop-at-test.true c.in-Ok.ensures) c.if-not-in_fragment.ensures

pub returns : goal.returns
returns c = fragment_end c.loop-at.invariant c.loop-at-test.false
