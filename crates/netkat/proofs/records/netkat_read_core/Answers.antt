-- `netkat::records::netkat_read_core` meets its contract: a place and a count have 32 bits.
use mathlib.Core.Path.{ap, subst, sym, ◌∙◌}
use native.Mathlib.Omega.{arith}
use lib.ListN.{length}
use Rattle.expr.proofs.Slices.{bytes_each}
use Rattle.netkat.specs.Entry.{hosted}
use Rattle.netkat.proofs.HostBounds.{Narrow, Counted, read_narrow}
use Rattle.netkat.proofs.records.netkat_read_core.Goals as goal

pub refused-requires : goal.refused-requires
refused-requires c = let a = c.args in
    subst (Narrow Counted) (sym c.in-Err.ensures.answer) (read_narrow a.core.now (length a.records.now) (bytes_each a.core.now c.type_inv.core))

pub overflow_cast-counts : goal.overflow_cast-counts
overflow_cast-counts c = let a = c.args in
    let narrow = subst (Narrow Counted) (sym c.in-Ok.ensures.answer) (read_narrow a.core.now (length a.records.now) (bytes_each a.core.now c.type_inv.core)) in
    omega (arith, narrow)

pub returns-in-Err : goal.returns-in-Err
returns-in-Err c = record { answer = c.refused.ensures ∙ ap hosted c.in-Err.ensures.answer; records = c.in-Err.ensures.after }

pub returns-in-Ok : goal.returns-in-Ok
returns-in-Ok c = record { answer = c.success.ensures ∙ ap hosted c.in-Ok.ensures.answer; records = c.in-Ok.ensures.after }
