-- `netkat::check::check_within` meets its contract.
use mathlib.Core.Path.{◌∙◌, sym}
use native.Mathlib.Omega.{arith}
use Rattle.refusals.proofs.Exits.{err_is}
use Rattle.netkat.proofs.CheckLaws.{found, stopped}
use Rattle.netkat.proofs.CheckDispatch.{whole_is, whole_ready}
use Rattle.netkat.proofs.check.check_within.Goals as goal

pub check_with_env-requires : goal.check_with_env-requires
check_with_env-requires c = whole_ready c.requires (λ i. omega (arith, c.type_inv.term i)) c.none.ensures

pub returns-in_err-sorted : goal.returns-in_err-sorted
returns-in_err-sorted c =
    rw (err_is _ c.from_residual.ensures.1) (sym (stopped c.check_with_env.new.work (whole_ready c.requires (λ i. omega (arith, c.type_inv.term i)) c.none.ensures) c.in_err-sorted.field-0.0 c.in_err-sorted.ensures) ∙ whole_is c.requires)

pub returns : goal.returns
returns c =
    sym (found c.check_with_env.new.work (whole_ready c.requires (λ i. omega (arith, c.type_inv.term i)) c.none.ensures) c.in_ok-sorted.ensures).is ∙ whole_is c.requires
