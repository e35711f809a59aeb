-- The measures of the cycle: 4 for each level that is left, and up to 3 for the step on it.
use Rattle.std.proofs.Common.{◌+◌, ◌*◌}
use Rattle.desugar.proofs.walk.+walk.Given as goal

abbrev pub decreases-desugar_with_env : goal.decreases-desugar_with_env
decreases-desugar_with_env l = 4 * l.spot.left

abbrev pub decreases-otherwise : goal.decreases-otherwise
decreases-otherwise l = 4 * l.spot.left + 2

abbrev pub decreases-unary : goal.decreases-unary
decreases-unary l = 4 * l.spot.left + 3

abbrev pub decreases-test_negation : goal.decreases-test_negation
decreases-test_negation l = 4 * l.spot.left + 3

abbrev pub decreases-binary : goal.decreases-binary
decreases-binary l = 4 * l.spot.left + 3

abbrev pub decreases-if_then_else : goal.decreases-if_then_else
decreases-if_then_else l = 4 * l.spot.left + 3

abbrev pub decreases-let_variable : goal.decreases-let_variable
decreases-let_variable l = 4 * l.spot.left + 3

abbrev pub decreases-let_bit_range : goal.decreases-let_bit_range
decreases-let_bit_range l = 4 * l.spot.left + 3
