-- `netkat::check::check_term` meets its contract.
use native.Mathlib.Omega.{arith}
use Rattle.netkat.proofs.CheckDispatch.{short_room, long_room}
use Rattle.netkat.proofs.check.check_term.Goals as goal

pub check_within-requires : goal.check_within-requires
check_within-requires c =
    short_room c.args.term.now c.requires.0 c.requires.1 (λ i. omega (arith, c.type_inv.term i)) c.if-term-le-SHORT.true (omega arith) (omega arith)

pub check_within-requires-2 : goal.check_within-requires-2
check_within-requires-2 c =
    long_room c.args.term.now c.requires.0 c.requires.1 (λ i. omega (arith, c.type_inv.term i)) (omega arith)
