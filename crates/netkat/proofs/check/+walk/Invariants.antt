-- The measures of the cycle: 2 for each level that is left, and 1 for the step on it.
use Rattle.std.proofs.Common.{◌+◌, ◌*◌}
use Rattle.netkat.proofs.check.+walk.Given as goal

abbrev pub decreases-check_with_env : goal.decreases-check_with_env
decreases-check_with_env l = 2 * l.spot.left

abbrev pub decreases-unary : goal.decreases-unary
decreases-unary l = 2 * l.spot.left + 1

abbrev pub decreases-test_negation : goal.decreases-test_negation
decreases-test_negation l = 2 * l.spot.left + 1

abbrev pub decreases-binary : goal.decreases-binary
decreases-binary l = 2 * l.spot.left + 1

abbrev pub decreases-if_then_else : goal.decreases-if_then_else
decreases-if_then_else l = 2 * l.spot.left + 1

abbrev pub decreases-let_variable : goal.decreases-let_variable
decreases-let_variable l = 2 * l.spot.left + 1

abbrev pub decreases-let_bit_range : goal.decreases-let_bit_range
decreases-let_bit_range l = 2 * l.spot.left + 1
