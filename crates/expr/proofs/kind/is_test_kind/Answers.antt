-- `kind::is_test_kind` meets its contract: a number of no kind is not a test's.
use Rattle.expr.proofs.KindNumbers.{no_test}
use Rattle.expr.proofs.kind.is_test_kind.Goals as goal

pub returns-in-Err : goal.returns-in-Err
returns-in-Err c = no_test c.args.kind c.in-Err.ensures.1
