use Prim.Native.Nat.{◌+◌, ◌-◌, ◌*◌}
use Rattle.expr.proofs.SwapRest.{Due}
use Rattle.expr.proofs.replace.+walk_walk_all.Given as goal

-- The needs of `walk_all`.
abbrev pub invariant-walk_all-loop : goal.invariant-walk_all-loop
invariant-walk_all-loop l = Due l.s l.initial.done l.children l.job l.initial.out l.done (l.children.count - l.counter) l.live l.out

-- 2 for each level that is left, and 1 for the trees on it
abbrev pub decreases-walk : goal.decreases-walk
decreases-walk l = 2 * l.spot.left

abbrev pub decreases-walk_all : goal.decreases-walk_all
decreases-walk_all l = 2 * l.children.left + 1
