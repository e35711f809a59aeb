-- `records::read_record` meets its contract.
use Rattle.refusals.proofs.Exits.{err_is}
use Rattle.expr.proofs.BareRecord.{bare_found}
use Rattle.expr.proofs.Stages.{kind_ends, range_ends, pattern_ends, first_ends, second_ends, record_ends}
use Rattle.expr.proofs.records.read_record.Goals as goal

pub returns-in_err-map : goal.returns-in_err-map
returns-in_err-map c = rw (err_is _ c.from_residual.ensures.1) (kind_ends c.new-reader.ensures c.in_err-map.ensures)

pub returns-then-map-eq1 : goal.returns-then-map-eq1
returns-then-map-eq1 c = bare_found c.new-reader.ensures c.in_ok-map.ensures c.if-map-eq1.true c.bare.ensures

pub returns-in_err-name : goal.returns-in_err-name
returns-in_err-name c =
    rw (err_is _ c.from_residual-in_err-name.ensures.1) (range_ends c.new-reader.ensures c.in_ok-map.ensures c.in_err-name.ensures)

pub returns-in_err-pattern : goal.returns-in_err-pattern
returns-in_err-pattern c =
    rw (err_is _ c.from_residual-in_err-pattern.ensures.1)
    (pattern_ends c.new-reader.ensures c.in_ok-map.ensures c.in_ok-name.ensures c.in_err-pattern.ensures)

pub returns-in_err-a : goal.returns-in_err-a
returns-in_err-a c =
    rw (err_is _ c.from_residual-in_err-a.ensures.1)
    (first_ends c.new-reader.ensures c.in_ok-map.ensures c.in_ok-name.ensures c.in_ok-pattern.ensures c.in_err-a.ensures)

pub returns-in_err-b : goal.returns-in_err-b
returns-in_err-b c =
    rw (err_is _ c.from_residual-in_err-b.ensures.1)
    (second_ends c.new-reader.ensures c.in_ok-map.ensures c.in_ok-name.ensures c.in_ok-pattern.ensures c.in_ok-a.ensures c.in_err-b.ensures)

pub returns : goal.returns
returns c =
    record_ends c.new-reader.ensures c.in_ok-map.ensures c.in_ok-name.ensures c.in_ok-pattern.ensures c.in_ok-a.ensures c.in_ok-b.ensures
