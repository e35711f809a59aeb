-- `Reader::kind` meets its contract.
use Rattle.refusals.proofs.Exits.{err_is}
use Rattle.expr.proofs.KindStage.{number_ends, kind_foreign, kind_found}
use Rattle.expr.proofs.reader.Reader.kind.Goals as goal

pub returns-in_err-number : goal.returns-in_err-number
returns-in_err-number c = rw (err_is _ c.from_residual-in_err-number.ensures.1) (number_ends c.in_ok-map.ensures c.in_err-number.ensures)

pub returns-then-not-allows : goal.returns-then-not-allows
returns-then-not-allows c = kind_foreign c.in_ok-map.ensures c.in_ok-number.ensures c.in_ok-kind.kind c.in_ok-kind.ensures c.if-not-allows.ensures

pub returns : goal.returns
returns c = kind_found c.in_ok-map.ensures c.in_ok-number.ensures c.in_ok-kind.kind c.in_ok-kind.ensures c.if-not-allows.ensures
