-- `bytes::write_desugared` meets its contract.
use native.Mathlib.Omega.{arith}
use Rattle.refusals.proofs.Exits.{err_is}
use Rattle.desugar.proofs.BytesSteps.{WholeWalked, whole_ready, walk_refused, walk_done, core_inside, left_of, no_room, writable, written}
use Rattle.desugar.proofs.bytes.write_desugared.Goals as goal
use Rattle.desugar.proofs.bytes.write_desugared.Goals.{In_ok-walked}

pub desugar_with_env-requires : goal.desugar_with_env-requires
desugar_with_env-requires c = whole_ready c.requires (λ i. omega (arith, c.type_inv.term i)) c.none.ensures

pub returns-in_err-walked : goal.returns-in_err-walked
returns-in_err-walked c =
    rw (err_is _ c.from_residual.ensures.1) (walk_refused c.requires (λ i. omega (arith, c.type_inv.term i)) c.in_err-walked.field-0.0 c.desugar_with_env.new.work c.args.out.now c.none.ensures c.in_err-walked.ensures)

-- the whole term's core
done : (c : In_ok-walked) → WholeWalked c.requires (λ i. omega (arith, c.type_inv.term i)) c.desugar_with_env.new.work c.in_ok-walked.walked
done c = walk_done c.requires (λ i. omega (arith, c.type_inv.term i)) c.desugar_with_env.new.work c.none.ensures c.in_ok-walked.ensures

pub words-core-requires : goal.words-core-requires
words-core-requires c = core_inside c.requires (λ i. omega (arith, c.type_inv.term i)) (done (goal.at.words-core-requires c).In_ok-walked)

pub returns-then-not-fits : goal.returns-then-not-fits
returns-then-not-fits c =
    rw c.at.ensures (no_room c.requires (λ i. omega (arith, c.type_inv.term i)) (done (goal.at.returns-then-not-fits c).In_ok-walked) c.words-core.ensures c.args.out.now c.fits.ensures c.if-not-fits.true-raw)

pub write_core-length-requires : goal.write_core-length-requires
write_core-length-requires c =
    writable c.requires (λ i. omega (arith, c.type_inv.term i)) (done (goal.at.write_core-length-requires c).In_ok-walked) c.words-core.ensures c.args.out.now c.fits.ensures c.if-not-fits.false-raw

pub overflow_sub-result : goal.overflow_sub-result
overflow_sub-result c = left_of c.requires (λ i. omega (arith, c.type_inv.term i)) (done (goal.at.overflow_sub-result c).In_ok-walked)

pub returns : goal.returns
returns c =
    written c.requires (λ i. omega (arith, c.type_inv.term i)) (done (goal.at.returns c).In_ok-walked) c.words-core.ensures c.args.out.now c.fits.ensures c.if-not-fits.false-raw c.write_core-length.new.out c.write_core-length.ensures
