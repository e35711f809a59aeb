-- `netkat::check::ranged` meets its contract.
use mathlib.Core.Path.{◌∙◌, ap, refl}
use Rattle.expr.specs.Answers.{map_answer, ok}
use Rattle.expr.specs.Results.{record_of}
use Rattle.desugar.specs.WalkWords.{use_of, where_of}
use Rattle.netkat.specs.CheckWords.{flags}
use Rattle.netkat.proofs.CheckLeaves.{ranged_sort, use_sort}
use Rattle.netkat.proofs.check.ranged.Goals as goal

pub returns-in-Err : goal.returns-in-Err
returns-in-Err c = let a = c.args in
    let h = record_of a.s.now a.head in
    λ ρ b. rw c.at.ensures (ap (map_answer (use_sort (use_of h))) (c.in-Err.ensures (flags ρ) a.place b) ∙ ranged_sort ρ (where_of h) (use_of h) a.place)

pub returns-in-Ok : goal.returns-in-Ok
returns-in-Ok c = let a = c.args in
    let h = record_of a.s.now a.head in
    λ ρ b. ap ok (c.is_test_use.ensures h refl) ∙ ap (map_answer (use_sort (use_of h))) (c.in-Ok.ensures (flags ρ) a.place b)
    ∙ ranged_sort ρ (where_of h) (use_of h) a.place
