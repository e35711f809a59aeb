-- `form::form` meets its contract: what is left over is judged by bytes, and its place is the number of records.
use Rattle.expr.proofs.FormSteps.{form_left_over, form_good}
use Rattle.expr.proofs.form.form.Goals as goal

pub returns-then-t-term : goal.returns-then-t-term
returns-then-t-term c = rw c.at.ensures (form_left_over c.args.term.now c.in_ok-t.ensures c.if-t-term.true)

pub returns : goal.returns
returns c = form_good c.args.term.now c.in_ok-t.ensures c.type_inv.term c.if-t-term.false
