-- `netkat_substitute` meets its contract: a place and a length have 32 bits.
use mathlib.Core.Path.{subst, sym}
use Prim.Native.Nat.{◌<◌, ◌^◌}
use native.Mathlib.Omega.{arith}
use lib.ListN.{length}
use Rattle.expr.specs.Operations.{substitute_bytes}
use Rattle.expr.proofs.Slices.{bytes_each}
use Rattle.netkat.proofs.HostAnswers.{hosts_bytes}
use Rattle.netkat.proofs.HostBounds.{Narrow, substitute_narrow}
use Rattle.netkat.proofs.operations.netkat_substitute.Goals as goal

pub refused-requires : goal.refused-requires
refused-requires c = let a = c.args in
    subst (Narrow (λ n. n < 2 ^ 32)) (sym c.in-Err.ensures.answer) (substitute_narrow a.term.now a.name a.replacement.now (length a.out.now)
    (bytes_each a.term.now (λ i. omega (arith, c.type_inv.term i)))
    (bytes_each a.replacement.now (λ i. omega (arith, c.type_inv.replacement i))))

pub overflow_cast-length : goal.overflow_cast-length
overflow_cast-length c = let a = c.args in
    let small = subst (Narrow (λ n. n < 2 ^ 32)) (sym c.in-Ok.ensures.answer) (substitute_narrow a.term.now a.name a.replacement.now (length a.out.now)
    (bytes_each a.term.now (λ i. omega (arith, c.type_inv.term i)))
    (bytes_each a.replacement.now (λ i. omega (arith, c.type_inv.replacement i)))) in
    omega (arith, small)

pub returns-in-Err : goal.returns-in-Err
returns-in-Err c = let a = c.args in
    hosts_bytes (substitute_bytes a.term.now a.name a.replacement.now (length a.out.now)) c.refused.ensures c.in-Err.ensures.answer c.in-Err.ensures.buffer

pub returns-in-Ok : goal.returns-in-Ok
returns-in-Ok c = let a = c.args in
    hosts_bytes (substitute_bytes a.term.now a.name a.replacement.now (length a.out.now)) c.success.ensures c.in-Ok.ensures.answer c.in-Ok.ensures.buffer
