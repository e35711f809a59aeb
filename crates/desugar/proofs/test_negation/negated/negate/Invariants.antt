-- `desugar::test_negation::negated::negate` meets its contract.
use Prim.Native.Nat.{◌≤◌}
use Rattle.expr.specs.Terms.{Core}
use Rattle.desugar.specs.Memory.{Kept}
use Rattle.desugar.specs.NegationRun.{Noted, Run}
use Rattle.desugar.proofs.test_negation.negated.negate.Given as goal

abbrev pub invariant-loop-j : goal.invariant-loop-j
invariant-loop-j l =
    record {
      within : l.s.made ≤ l.p.limit;
      kept : Kept l.p.modes l.fn.work l.work;
      run : (t : Core) → Noted l.fn.work l.p t → Run l.work t l.p l.j l.s;
    }
