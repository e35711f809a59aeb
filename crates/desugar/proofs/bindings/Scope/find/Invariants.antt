-- `bindings::Scope::find` meets its contract.
use Prim.Native.Nat.{◌≤◌}
use Rattle.expr.specs.Terms.{Core}
use Rattle.desugar.specs.Bindings.{Env}
use Rattle.desugar.specs.BindingWords.{AnyBound, Bound}
use Rattle.desugar.proofs.Frames.{Passed}
use Rattle.desugar.proofs.bindings.Scope.find.Given as goal

abbrev pub invariant-loop-last : goal.invariant-loop-last
invariant-loop-last l =
    (l.last ≤ l.self.last) × ∥ AnyBound l.self.work.now l.last ∥₁
    × ((env : Env Core) → Bound l.self.work.now l.self.last env → Passed l.self.work.now l.kind l.name env l.last)

abbrev pub decreases-loop-last : goal.decreases-loop-last
decreases-loop-last l = l.last
