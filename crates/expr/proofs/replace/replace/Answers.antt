-- `replace::replace` meets its contract.
use Rattle.expr.proofs.SubstituteSteps.{both_known, by_ready, measure_ready, too_many, too_deep, no_room, write_ready, written}
use Rattle.expr.proofs.replace.replace.Goals as goal

pub walk-b-requires : goal.walk-b-requires
walk-b-requires c =
    by_ready c.args.name c.args.by (both_known c.requires c.type_inv.term c.type_inv.by) c.args.out.now

pub walk-m-requires : goal.walk-m-requires
walk-m-requires c =
    measure_ready c.args.name c.args.by (both_known c.requires c.type_inv.term c.type_inv.by) c.walk-b.ensures

pub returns-then-m-gt-MAX_RECORDS : goal.returns-then-m-gt-MAX_RECORDS
returns-then-m-gt-MAX_RECORDS c =
    rw c.at.ensures (too_many c.args.name c.args.by (both_known c.requires c.type_inv.term c.type_inv.by) c.walk-b.ensures c.walk-m.ensures c.if-m-gt-MAX_RECORDS.true)

pub returns-then-m-gt-MAX_DEPTH : goal.returns-then-m-gt-MAX_DEPTH
returns-then-m-gt-MAX_DEPTH c =
    rw c.at-then-m-gt-MAX_DEPTH.ensures (too_deep c.args.name c.args.by (both_known c.requires c.type_inv.term c.type_inv.by) c.walk-b.ensures c.walk-m.ensures c.if-m-gt-MAX_RECORDS.false c.if-m-gt-MAX_DEPTH.true)

pub returns-then-out-m : goal.returns-then-out-m
returns-then-out-m c =
    rw c.at-then-out-m.ensures (no_room c.args.name c.args.by (both_known c.requires c.type_inv.term c.type_inv.by) c.walk-b.ensures c.walk-m.ensures c.if-m-gt-MAX_RECORDS.false c.if-m-gt-MAX_DEPTH.false c.if-out-m.true)

pub walk-w-requires : goal.walk-w-requires
walk-w-requires c =
    write_ready c.args.name c.args.by (both_known c.requires c.type_inv.term c.type_inv.by) c.walk-b.ensures c.walk-m.ensures c.if-m-gt-MAX_RECORDS.false c.if-m-gt-MAX_DEPTH.false c.if-out-m.false

pub returns : goal.returns
returns c =
    written c.args.name c.args.by (both_known c.requires c.type_inv.term c.type_inv.by) c.walk-b.ensures c.walk-m.ensures c.if-m-gt-MAX_RECORDS.false c.if-m-gt-MAX_DEPTH.false c.if-out-m.false c.walk-w.ensures
