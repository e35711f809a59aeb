-- `rules::pattern_rule` meets its contract.
use mathlib.Core.Path.{refl}
use Rattle.expr.specs.Terms.{Alias}
use Rattle.desugar.proofs.rules.pattern_rule.Goals as goal

pub returns-in-Exact : goal.returns-in-Exact
returns-in-Exact c = λ at. rw c.in-Exact.is (c.literal_rule.ensures (Alias 0) at refl)
