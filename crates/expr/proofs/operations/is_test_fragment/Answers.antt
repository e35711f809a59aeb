-- `operations::is_test_fragment` meets its contract: form decides, and then the scan.
use Rattle.expr.proofs.Scans.{formed_good}
use Rattle.expr.proofs.operations.is_test_fragment.Goals as goal

pub all_fragment-requires : goal.all_fragment-requires
all_fragment-requires c = formed_good c.args.term.now c.in_ok-form.ensures
