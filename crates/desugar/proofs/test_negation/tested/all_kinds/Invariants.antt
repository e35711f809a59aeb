-- `desugar::test_negation::tested::all_kinds` meets its contract.
use Rattle.std.proofs.Common.{◌≡◌, ℕ, ◌*◌, ◌-◌, Bool}
use Prim.Native.Nat.{◌/◌}
use lib.ListN.{length}
use Rattle.desugar.specs.NegationRun.{all_kinds}
use Rattle.desugar.proofs.test_negation.tested.all_kinds.Given as goal

-- the records that are left decide
abbrev pub invariant-loop-j : goal.invariant-loop-j
invariant-loop-j g l =
    (kinds : ℕ → Bool) → ((kind : ℕ) (b : Bool) → goal.F-post g l.accepts kind b → b ≡ kinds kind) → all_kinds kinds l.core 0 (length l.core / 3) ≡ all_kinds kinds l.core (3 * l.j) (length l.core / 3 - l.j)
