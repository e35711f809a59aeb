-- `kind::arity` meets its contract, by ranges of kinds.
use mathlib.Core.Path.{refl}
use native.Mathlib.Omega.{arith}
use Rattle.expr.proofs.Arities.{arity_in, arity_past}
use Rattle.expr.proofs.kind.arity.Goals as goal

pub returns-in_default : goal.returns-in_default
returns-in_default c = arity_past c.args.kind (omega arith)

pub returns-in-0-to-6-2 : goal.returns-in-0-to-6-2
returns-in-0-to-6-2 c = arity_in 20 7 0 refl c.args.kind (omega arith) (omega arith)
