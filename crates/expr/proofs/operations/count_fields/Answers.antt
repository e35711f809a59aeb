-- `operations::count_fields` meets its contract. The loop's invariant: the term's count is that of the terms that are left, from this place and count on.
use Rattle.std.proofs.Common.{rules}
use Rattle.expr.proofs.Scans.{never_refused, step}
use Rattle.expr.proofs.FieldScan.{fields_start, fields_end, fields_over, fields_step}
use Rattle.expr.proofs.operations.count_fields.Goals as goal

pub loop-at-init : goal.loop-at-init
loop-at-init c = fields_start c.type_inv.term c.requires

pub returns-in_default : goal.returns-in_default
returns-in_default c =
    let l = c.loop-at.invariant in
    absurd (never_refused l.left c.loop-at-test.true c.in_default.ensures)

pub returns-in_default-own_fields : goal.returns-in_default-own_fields
returns-in_default-own_fields c =
    let l = c.loop-at.invariant in
    rw c.at.ensures (fields_over l (step l.left c.loop-at-test.true c.in-Ok.ensures) c.in_default-own_fields.ensures)

pub loop-at-preserved : goal.loop-at-preserved
loop-at-preserved c =
    let l = c.loop-at.invariant in
    fields_step l (step l.left c.loop-at-test.true c.in-Ok.ensures) c.in-Some.ensures (search rules)

pub returns : goal.returns
returns c = fields_end c.loop-at.invariant c.loop-at-test.false
