-- `operations::num_fields` meets its contract: form decides, and then the scan.
use Rattle.expr.proofs.Scans.{formed_good}
use Rattle.expr.proofs.operations.num_fields.Goals as goal

pub count_fields-requires : goal.count_fields-requires
count_fields-requires c = formed_good c.args.term.now c.in_ok-form.ensures
