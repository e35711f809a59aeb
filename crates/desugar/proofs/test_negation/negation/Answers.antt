-- `desugar::test_negation::negation` meets its contract.
use mathlib.Core.Path.{sym, subst, ◌∙◌}
use mathlib.Core.Logic.{inl}
use native.Mathlib.Omega.{arith}
use Prim.Native.Nat.{◌≤◌}
use Rattle.expr.specs.Terms.{Core}
use Rattle.desugar.specs.Memory.{Lies}
use Rattle.desugar.specs.NegationRun.{Noted}
use Rattle.desugar.specs.NegationOutcome.{Negates}
use Rattle.desugar.proofs.Regions.{region_words}
use Rattle.desugar.proofs.PlainNegation.{plain_large, plain_fits}
use Rattle.desugar.proofs.Outcomes.{no_test, large, fits, size_is, noted_after}
use Rattle.desugar.proofs.test_negation.negation.Goals as goal
use Rattle.desugar.proofs.test_negation.negation.Goals.{After-measure, In_ok-size}

pub returns-then-p-clause-negates : goal.returns-then-p-clause-negates
returns-then-p-clause-negates c = λ t h. plain_large h (sym (c.is_plain.ensures t (c.words.ensures ∙ region_words h)) ∙ c.if-is_plain.true) c.if-p.true

pub returns-then-is_plain-clause-negates : goal.returns-then-is_plain-clause-negates
returns-then-is_plain-clause-negates c = λ t h. let q = sym (c.is_plain.ensures t (c.words.ensures ∙ region_words h)) ∙ c.if-is_plain.true in plain_fits q c.if-p.false (c.negate_plain.ensures.negated t h q)

pub negate_plain-requires-clause-lies : goal.negate_plain-requires-clause-lies
negate_plain-requires-clause-lies c = let l = c.requires.lies in (l.0, l.1, sym (c.is_plain.ensures l.0 (c.words.ensures ∙ region_words l.1)) ∙ c.if-is_plain.true)

pub returns-then-not-is_test-clause-negates : goal.returns-then-not-is_test-clause-negates
returns-then-not-is_test-clause-negates c = λ t h. no_test (sym (c.is_test.ensures t (c.words-2.ensures ∙ region_words h)) ∙ c.if-not-is_test.true)

pub measure-requires-clause-lies : goal.measure-requires-clause-lies
measure-requires-clause-lies c = let l = c.requires.lies in (l.0, l.1, sym (c.is_test.ensures l.0 (c.words-2.ensures ∙ region_words l.1)) ∙ c.if-not-is_test.false)

-- what is measured is noted
noted : (c : After-measure) (t : Core) → Lies c.args.work.now c.args.p.core.at c.args.p.core.count t → Noted c.measure.new.work c.args.p t
noted c = noted_after c.args.p (λ t h. c.is_test.ensures t (c.words-2.ensures ∙ region_words h)) c.if-not-is_test.false c.measure.ensures.kept c.measure.ensures.holds

pub negate-requires-clause-noted : goal.negate-requires-clause-noted
negate-requires-clause-noted c = (c.requires.lies.0, noted (goal.at.negate-requires-clause-noted c).After-measure c.requires.lies.0 c.requires.lies.1)

pub returns-in_err-size-clause-negates : goal.returns-in_err-size-clause-negates
returns-in_err-size-clause-negates c = λ t h.
    let n = noted (goal.at.returns-in_err-size-clause-negates c).After-measure t h in
    subst (Negates c.negate.new.work t c.args.to c.args.p.limit) (grind arith) (large n.test (c.negate.ensures.negated t n) (grind arith))

pub returns-clause-negates : goal.returns-clause-negates
returns-clause-negates c = λ t h.
    let n = noted (goal.at.returns-clause-negates c).After-measure t h in
    fits n.test (c.negate.ensures.negated t n) c.in_ok-size.ensures.ok_part c.copy.ensures.copied

-- the size of the negation is within the limit
size : (c : In_ok-size) → ((t : Core) → Lies c.args.work.now c.args.p.core.at c.args.p.core.count t → Noted c.measure.new.work c.args.p t) → c.in_ok-size.size ≤ c.args.p.limit
size c n = omega (arith, size_is (c.negate.ensures.negated c.requires.lies.0 (n c.requires.lies.0 c.requires.lies.1)) c.in_ok-size.ensures.ok_part)

pub overflow_mul-size : goal.overflow_mul-size
overflow_mul-size c =
    let g = goal.at.overflow_mul-size c in
    omega (arith, size g.In_ok-size (noted g.After-measure), c.args.p.few)

pub copy-requires : goal.copy-requires
copy-requires c =
    let g = goal.at.copy-requires c in
    let s = size g.In_ok-size (noted g.After-measure) in
    record {
      source = omega (arith, s, c.requires.room, c.measure.ensures.kept.long, c.negate.ensures.kept.long);
      target = omega (arith, s, c.requires, c.args.p.modes_at, c.args.p.out_at, c.measure.ensures.kept.long, c.negate.ensures.kept.long);
      apart = inl (omega (arith, c.requires.apart, c.args.p.modes_at, c.args.p.out_at));
    }
