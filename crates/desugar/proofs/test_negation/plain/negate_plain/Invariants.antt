-- `desugar::test_negation::plain::negate_plain` meets its contract.
use mathlib.Core.Path.{◌≡◌}
use mathlib.Core.Bool.{true}
use Rattle.expr.specs.Terms.{Core}
use Rattle.desugar.specs.Memory.{Kept, Lies}
use Rattle.desugar.specs.PlainNegation.{is_plain}
use Rattle.desugar.proofs.PlainNegation.{Turning}
use Rattle.desugar.proofs.test_negation.plain.negate_plain.Given as goal

abbrev pub invariant-loop-j : goal.invariant-loop-j
invariant-loop-j l =
    record {
      kept : Kept l.to l.initial.work l.work;
      turning : (t : Core) → Lies l.initial.work l.core.at l.core.count t → is_plain t ≡ true → Turning l.work t l.core.at l.core.count l.to l.j;
    }
