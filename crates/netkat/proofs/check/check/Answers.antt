-- `netkat::check::check` meets its contract: form decides, and then the rules.
use Rattle.expr.proofs.Scans.{formed_good}
use Rattle.netkat.proofs.check.check.Goals as goal

pub check_term-requires : goal.check_term-requires
check_term-requires c = formed_good c.args.term.now c.in_ok-form.ensures
