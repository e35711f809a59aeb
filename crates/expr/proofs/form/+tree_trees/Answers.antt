use native.Mathlib.Omega.{arith}
use Rattle.expr.proofs.FormSteps.{none_due, due_good}
use Rattle.expr.proofs.form.+tree_trees.Goals as goal

pub trees-loop-preserved : goal.trees-loop-preserved
trees-loop-preserved t c = due_good c.loop.invariant (omega (arith, c.loop-test.true)) c.in_ok-taken.ensures (omega arith)

pub trees-returns : goal.trees-returns
trees-returns t c = none_due c.loop.invariant (omega (arith, c.loop-test.false))
