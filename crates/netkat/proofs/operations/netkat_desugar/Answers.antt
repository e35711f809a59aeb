-- `netkat_desugar` meets its contract: a place, a length and a drawn total have 32 bits.
use mathlib.Core.Path.{subst, sym}
use native.Mathlib.Omega.{arith}
use lib.ListN.{length}
use Rattle.expr.proofs.Slices.{bytes_each}
use Rattle.desugar.specs.Desugar.{desugar_bytes}
use Rattle.netkat.proofs.HostAnswers.{hosts_both}
use Rattle.netkat.proofs.HostBounds.{Narrow, Small, desugar_narrow}
use Rattle.netkat.proofs.operations.netkat_desugar.Goals as goal

pub refused-requires : goal.refused-requires
refused-requires c = let a = c.args in
    subst (Narrow Small) (sym c.in-Err.ensures.answer)
    (desugar_narrow a.term.now a.allowance (length a.work.now) (length a.out.now) (bytes_each a.term.now (λ i. omega (arith, c.type_inv.term i))))

pub overflow_cast-core : goal.overflow_cast-core
overflow_cast-core c = let a = c.args in
    let small =
    subst (Narrow Small) (sym c.in-Ok.ensures.answer)
    (desugar_narrow a.term.now a.allowance (length a.work.now) (length a.out.now) (bytes_each a.term.now (λ i. omega (arith, c.type_inv.term i)))) in
    omega (arith, small.0)

pub overflow_cast-core-in-Ok : goal.overflow_cast-core-in-Ok
overflow_cast-core-in-Ok c = let a = c.args in
    let small =
    subst (Narrow Small) (sym c.in-Ok.ensures.answer)
    (desugar_narrow a.term.now a.allowance (length a.work.now) (length a.out.now) (bytes_each a.term.now (λ i. omega (arith, c.type_inv.term i)))) in
    omega (arith, small.1)

pub returns-in-Ok-clause-answers : goal.returns-in-Ok-clause-answers
returns-in-Ok-clause-answers c = let a = c.args in
    hosts_both (desugar_bytes a.term.now a.allowance (length a.work.now) (length a.out.now)) c.success.ensures c.in-Ok.ensures.answer c.in-Ok.ensures.buffer
