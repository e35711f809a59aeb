-- `desugar::test_negation::tested::all_kinds` meets its contract.
use native.Mathlib.Numerals.{unary_clauses}
use Rattle.std.proofs.Common.{refl, ◌≡◌, sym, ◌∙◌, arith, ◌*◌, ◌-◌, ap}
use Prim.Native.Nat.{◌/◌}
use lib.ListN.{length}
use Rattle.desugar.specs.NegationRun.{all_kinds}
use Rattle.desugar.proofs.Forest.{kinds_from}
use Rattle.desugar.proofs.test_negation.tested.all_kinds.Goals as goal

pub loop-j-init : goal.loop-j-init
loop-j-init g c = λ kinds h. simp unary_clauses refl

pub returns-then-not-accepts : goal.returns-then-not-accepts
returns-then-not-accepts g c = λ kinds h.
    sym (c.loop-j.invariant kinds h ∙ kinds_from kinds c.args.core.now (length c.args.core.now / 3) c.loop-j.j c.loop-j-test.true (sym c.if-not-accepts.true ∙ h _ _ c.accepts.ensures))

pub loop-j-preserved : goal.loop-j-preserved
loop-j-preserved g c = λ kinds h.
    c.loop-j.invariant kinds h ∙ kinds_from kinds c.args.core.now (length c.args.core.now / 3) c.loop-j.j c.loop-j-test.true (sym c.if-not-accepts.false ∙ h _ _ c.accepts.ensures)

pub returns : goal.returns
returns g c = λ kinds h.
    let none : length c.args.core.now / 3 - c.loop-j.j ≡ 0 = omega arith in
    sym (c.loop-j.invariant kinds h ∙ ap (all_kinds kinds c.args.core.now (3 * c.loop-j.j)) none)
