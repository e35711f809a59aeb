-- `desugar::test_negation::measured::measure` meets its contract.
use mathlib.Core.Path.{◌≡◌}
use mathlib.Core.Bool.{true}
use mathlib.Core.List.{[], ◌∷◌}
use Prim.Native.Nat.{◌<◌, ◌+◌}
use lib.ListN.{get_or}
use Rattle.expr.specs.Terms.{Core}
use Rattle.desugar.specs.Negation.{is_test}
use Rattle.desugar.specs.Memory.{Holds, Kept, Lies}
use Rattle.desugar.specs.NegationRun.{forest_at, notes_all, note_number}
use Rattle.desugar.proofs.test_negation.measured.measure.Given as goal

abbrev pub invariant-loop-j : goal.invariant-loop-j
invariant-loop-j l =
    record {
      kept : Kept l.p.notes l.initial.work l.work;
      notes : (t : Core) → Lies l.initial.work l.p.core.at l.p.core.count t → is_test t ≡ true → Holds l.work (l.p.notes + l.j) (notes_all (forest_at l.j (t ∷ [])));
      last : l.j < l.p.core.count → note_number l.last ≡ get_or l.work (l.p.notes + l.j) 0;
    }
