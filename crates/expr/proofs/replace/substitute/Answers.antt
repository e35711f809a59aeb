-- `replace::substitute` meets its contract.
use Rattle.expr.proofs.Refusals.{decode_low}
use Rattle.expr.proofs.SubstituteSteps.{form_decodes, form_refuses, other_refused}
use Rattle.expr.proofs.replace.substitute.Goals as goal

pub of_replacement-requires : goal.of_replacement-requires
of_replacement-requires c = decode_low c.args.replacement.now (form_refuses c.args.replacement.now c.in-Err.e c.in-Err.ensures)

pub returns-in-Err : goal.returns-in-Err
returns-in-Err c =
    let a = c.args in
    rw c.at.ensures
    (other_refused c.in-Err.e a.name a.out.now (form_decodes c.in_ok-form.ensures)
    (form_refuses a.replacement.now c.in-Err.e c.in-Err.ensures) c.of_replacement.ensures)

pub replace-requires : goal.replace-requires
replace-requires c =
    let a = c.args in
    (form_decodes {s = a.term.now} {t = c.in_ok-form.field-0} c.in_ok-form.ensures, form_decodes {s = a.replacement.now} {t = c.in_default.field-0} c.in_default.ensures)
