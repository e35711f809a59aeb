-- `cores::read_core` meets its contract.
use Rattle.refusals.proofs.Exits.{err_is}
use Rattle.cores.proofs.ReadSteps.{back_refused, back_listable, back_found}
use Rattle.cores.proofs.read_core.Goals as goal

pub returns-in_err-counts : goal.returns-in_err-counts
returns-in_err-counts c = rw (err_is _ c.from_residual.ensures.1) (back_refused c.args.s.now c.args.list.now c.in_err-counts.field-0.0 c.in_err-counts.ensures)

pub write_records-requires : goal.write_records-requires
write_records-requires c = back_listable c.args.s.now c.args.list.now c.in_ok-counts.counts c.in_ok-counts.ensures

pub returns : goal.returns
returns c = back_found c.args.s.now c.args.list.now c.in_ok-counts.counts c.in_ok-counts.ensures c.write_records.ensures
