-- `netkat_is_test_fragment` meets its contract: a place has 32 bits.
use mathlib.Core.Path.{subst, sym}
use Rattle.netkat.proofs.HostBounds.{Narrow, Any, fragment_narrow}
use Rattle.netkat.proofs.operations.netkat_is_test_fragment.Goals as goal

pub refused-requires : goal.refused-requires
refused-requires c = subst (Narrow Any) (sym c.in-Err.ensures) (fragment_narrow c.args.term.now)
