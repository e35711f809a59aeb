use Prim.Native.Nat.{◌+◌, ◌-◌, ◌*◌}
use Rattle.expr.proofs.FormSteps.{Due}
use Rattle.expr.proofs.form.+tree_trees.Given as goal

-- The needs of `trees`.
abbrev pub invariant-trees-loop : goal.invariant-trees-loop
invariant-trees-loop l = Due l.left l.count l.place l.at (l.count - l.counter) l.taken.next l.taken.used l.s

-- 2 for each level that is left, and 1 for the trees on it
abbrev pub decreases-tree : goal.decreases-tree
decreases-tree l = 2 * l.left

abbrev pub decreases-trees : goal.decreases-trees
decreases-trees l = 2 * l.left + 1
