-- The walk of src/check.rt meets its contracts.
use native.Mathlib.Omega.{arith}
use mathlib.Core.Path.{ap, refl, sym, ◌∙◌}
use mathlib.Core.Bool.{and_assoc, ◌&&◌}
use borrow.Author.Tests.{not-true, not-false}
use Rattle.refusals.specs.Refusals.{number_of}
use Rattle.refusals.specs.declared.Refused.{Refused}
use Rattle.expr.specs.Answers.{refuse}
use Rattle.expr.proofs.Slices.{part}
use Rattle.desugar.proofs.WalkLaws.{then_refused, text_read}
use Rattle.desugar.proofs.Dispatch.{negation_kind, if_kind, let_kind, alias_kind, unary_kind, binary_kind, childless}
use Rattle.netkat.proofs.CheckLaws.{found, passed_on, stopped}
use Rattle.netkat.proofs.CheckSteps.{one_first, unary_done, negation_done, negation_refused, alias_ready, alias_done, two_first, two_second, binary_stops, binary_done, body_ready, let_done, three_first, three_second, first_branch_stops, three_third, other_branch_stops, condition_refused, if_done}
use Rattle.netkat.proofs.CheckDispatch.{some_left, one_asked, two_asked, three_asked, one_done, two_done, three_done, leaf_is, leaf_done}
use Rattle.netkat.proofs.check.+walk.Goals as goal

pub binary-returns-in_err-a : goal.binary-returns-in_err-a
binary-returns-in_err-a t c = λ k q. passed_on _ _ _ _ _ _ c.in_err-a.field-0.0 c.from_residual.ensures.1 (then_refused _ (stopped c.check_with_env.new.work (two_first c.args.spot.place q) c.in_err-a.field-0.0 c.in_err-a.ensures))

pub binary-check_with_env-requires-2 : goal.binary-check_with_env-requires-2
binary-check_with_env-requires-2 t c = (omega (arith, c.decreases), two_second c.args.spot.place c.requires.1 (found c.check_with_env.new.work (two_first c.args.spot.place c.requires.1) c.in_ok-a.ensures))

pub binary-returns-in_err-b : goal.binary-returns-in_err-b
binary-returns-in_err-b t c = λ k q.
    let one = found c.check_with_env.new.work (two_first c.args.spot.place q) c.in_ok-a.ensures in
    passed_on _ _ _ _ _ _ c.in_err-b.field-0.0 c.from_residual-in_err-b.ensures.1 (binary_stops c.args.spot.place q one k.o (stopped c.check_with_env-2.new.work (two_second c.args.spot.place q one) c.in_err-b.field-0.0 c.in_err-b.ensures))

pub binary-returns : goal.binary-returns
binary-returns t c = λ k q.
    let one = found c.check_with_env.new.work (two_first c.args.spot.place q) c.in_ok-a.ensures in
    binary_done c.args.spot.place q one k (and_assoc c.is_test.result c.in_ok-a.a.test c.in_ok-b.b.test ∙ ap (λ z. z && (c.in_ok-a.a.test && c.in_ok-b.b.test)) c.is_test.ensures) (found c.check_with_env-2.new.work (two_second c.args.spot.place q one) c.in_ok-b.ensures)

pub check_with_env-returns-in_err-head : goal.check_with_env-returns-in_err-head
check_with_env-returns-in_err-head t c = λ q. absurd (text_read c.args.s.now c.args.spot.at q.text c.in_err-head.ensures.0)

pub check_with_env-overflow_sub-inner : goal.check_with_env-overflow_sub-inner
check_with_env-overflow_sub-inner t c = some_left c.args.spot.place c.requires c.in_ok-head.ensures

pub check_with_env-binary-requires : goal.check_with_env-binary-requires
check_with_env-binary-requires t c =
    let b = binary_kind (part c.args.spot.at c.args.s.now) c.in_ok-head.head c.in-Union.is in
    (omega (arith, c.decreases, some_left c.args.spot.place c.requires c.in_ok-head.ensures), (b.operator, two_asked c.args.spot.place c.requires c.in_ok-head.ensures b.node))

pub check_with_env-returns-in-Union : goal.check_with_env-returns-in-Union
check_with_env-returns-in-Union t c = λ q. let b = binary_kind (part c.args.spot.at c.args.s.now) c.in_ok-head.head c.in-Union.is in two_done c.args.spot.place q c.in_ok-head.ensures c.binary.new.work c.binary.result b.node (c.binary.ensures b.operator)

pub check_with_env-unary-requires : goal.check_with_env-unary-requires
check_with_env-unary-requires t c =
    let b = unary_kind (part c.args.spot.at c.args.s.now) c.in_ok-head.head c.in-Complement.is in
    (omega (arith, c.decreases, some_left c.args.spot.place c.requires c.in_ok-head.ensures), (b.operator, one_asked c.args.spot.place c.requires c.in_ok-head.ensures b.node))

pub check_with_env-returns-in-Complement : goal.check_with_env-returns-in-Complement
check_with_env-returns-in-Complement t c = λ q. let b = unary_kind (part c.args.spot.at c.args.s.now) c.in_ok-head.head c.in-Complement.is in one_done c.args.spot.place q c.in_ok-head.ensures c.unary.new.work c.unary.result b.node (c.unary.ensures b.operator)

pub check_with_env-test_negation-requires : goal.check_with_env-test_negation-requires
check_with_env-test_negation-requires t c =
    (omega (arith, c.decreases, some_left c.args.spot.place c.requires c.in_ok-head.ensures), one_asked c.args.spot.place c.requires c.in_ok-head.ensures (negation_kind (part c.args.spot.at c.args.s.now) c.in_ok-head.head c.in-TestNegation.is))

pub check_with_env-returns-in-TestNegation : goal.check_with_env-returns-in-TestNegation
check_with_env-returns-in-TestNegation t c = λ q. one_done c.args.spot.place q c.in_ok-head.ensures c.test_negation.new.work c.test_negation.result (negation_kind (part c.args.spot.at c.args.s.now) c.in_ok-head.head c.in-TestNegation.is) c.test_negation.ensures

pub check_with_env-if_then_else-requires : goal.check_with_env-if_then_else-requires
check_with_env-if_then_else-requires t c =
    (omega (arith, c.decreases, some_left c.args.spot.place c.requires c.in_ok-head.ensures), three_asked c.args.spot.place c.requires c.in_ok-head.ensures (if_kind (part c.args.spot.at c.args.s.now) c.in_ok-head.head c.in-IfThenElse.is))

pub check_with_env-returns-in-IfThenElse : goal.check_with_env-returns-in-IfThenElse
check_with_env-returns-in-IfThenElse t c = λ q. three_done c.args.spot.place q c.in_ok-head.ensures c.if_then_else.new.work c.if_then_else.result (if_kind (part c.args.spot.at c.args.s.now) c.in_ok-head.head c.in-IfThenElse.is) c.if_then_else.ensures

pub check_with_env-let_variable-requires : goal.check_with_env-let_variable-requires
check_with_env-let_variable-requires t c =
    (omega (arith, c.decreases, some_left c.args.spot.place c.requires c.in_ok-head.ensures), two_asked c.args.spot.place c.requires c.in_ok-head.ensures (let_kind (part c.args.spot.at c.args.s.now) c.in_ok-head.head c.in-Let.is))

pub check_with_env-returns-in-Let : goal.check_with_env-returns-in-Let
check_with_env-returns-in-Let t c = λ q. two_done c.args.spot.place q c.in_ok-head.ensures c.let_variable.new.work c.let_variable.result (let_kind (part c.args.spot.at c.args.s.now) c.in_ok-head.head c.in-Let.is) c.let_variable.ensures

pub check_with_env-let_bit_range-requires : goal.check_with_env-let_bit_range-requires
check_with_env-let_bit_range-requires t c =
    (omega (arith, c.decreases, some_left c.args.spot.place c.requires c.in_ok-head.ensures), one_asked c.args.spot.place c.requires c.in_ok-head.ensures (alias_kind (part c.args.spot.at c.args.s.now) c.in_ok-head.head c.in-LetBitRange.is))

pub check_with_env-returns-in-LetBitRange : goal.check_with_env-returns-in-LetBitRange
check_with_env-returns-in-LetBitRange t c = λ q. one_done c.args.spot.place q c.in_ok-head.ensures c.let_bit_range.new.work c.let_bit_range.result (alias_kind (part c.args.spot.at c.args.s.now) c.in_ok-head.head c.in-LetBitRange.is) c.let_bit_range.ensures

pub if_then_else-returns-in_err-c : goal.if_then_else-returns-in_err-c
if_then_else-returns-in_err-c t c = λ q. passed_on _ _ _ _ _ _ c.in_err-c.field-0.0 c.from_residual.ensures.1 (then_refused _ (stopped c.check_with_env.new.work (three_first c.args.spot.place q) c.in_err-c.field-0.0 c.in_err-c.ensures))

pub if_then_else-check_with_env-requires-2 : goal.if_then_else-check_with_env-requires-2
if_then_else-check_with_env-requires-2 t c = (omega (arith, c.decreases), three_second c.args.spot.place c.requires (found c.check_with_env.new.work (three_first c.args.spot.place c.requires) c.in_ok-c.ensures))

pub if_then_else-returns-in_err-t : goal.if_then_else-returns-in_err-t
if_then_else-returns-in_err-t t c = λ q.
    let one = found c.check_with_env.new.work (three_first c.args.spot.place q) c.in_ok-c.ensures in
    passed_on _ _ _ _ _ _ c.in_err-t.field-0.0 c.from_residual-in_err-t.ensures.1 (first_branch_stops c.args.spot.place q one (stopped c.check_with_env-2.new.work (three_second c.args.spot.place q one) c.in_err-t.field-0.0 c.in_err-t.ensures))

pub if_then_else-check_with_env-requires-3 : goal.if_then_else-check_with_env-requires-3
if_then_else-check_with_env-requires-3 t c =
    let one = found c.check_with_env.new.work (three_first c.args.spot.place c.requires) c.in_ok-c.ensures in
    (omega (arith, c.decreases), three_third c.args.spot.place c.requires one (found c.check_with_env-2.new.work (three_second c.args.spot.place c.requires one) c.in_ok-t.ensures))

pub if_then_else-returns-in_err-e : goal.if_then_else-returns-in_err-e
if_then_else-returns-in_err-e t c = λ q.
    let one = found c.check_with_env.new.work (three_first c.args.spot.place q) c.in_ok-c.ensures in
    let two = found c.check_with_env-2.new.work (three_second c.args.spot.place q one) c.in_ok-t.ensures in
    passed_on _ _ _ _ _ _ c.in_err-e.field-0.0 c.from_residual-in_err-e.ensures.1 (other_branch_stops c.args.spot.place q one two (stopped c.check_with_env-3.new.work (three_third c.args.spot.place q one two) c.in_err-e.field-0.0 c.in_err-e.ensures))

pub if_then_else-returns-then-not-c : goal.if_then_else-returns-then-not-c
if_then_else-returns-then-not-c t c = λ q.
    let one = found c.check_with_env.new.work (three_first c.args.spot.place q) c.in_ok-c.ensures in
    let two = found c.check_with_env-2.new.work (three_second c.args.spot.place q one) c.in_ok-t.ensures in
    rw c.at.ensures (condition_refused c.args.spot.place q one two (found c.check_with_env-3.new.work (three_third c.args.spot.place q one two) c.in_ok-e.ensures) (not-true _ c.if-not-c.true))

pub if_then_else-returns : goal.if_then_else-returns
if_then_else-returns t c = λ q.
    let one = found c.check_with_env.new.work (three_first c.args.spot.place q) c.in_ok-c.ensures in
    let two = found c.check_with_env-2.new.work (three_second c.args.spot.place q one) c.in_ok-t.ensures in
    if_done c.args.spot.place q one two (found c.check_with_env-3.new.work (three_third c.args.spot.place q one two) c.in_ok-e.ensures) (not-false _ c.if-not-c.false) refl

pub let_bit_range-check_with_env-requires : goal.let_bit_range-check_with_env-requires
let_bit_range-check_with_env-requires t c = (omega (arith, c.decreases), alias_ready c.args.spot.place c.requires c.args.name c.args.fields.start c.args.fields.end c.with_alias-inner.ensures.ends.0 c.with_alias-inner.ensures.ends.1 c.with_alias-inner.ensures.bound)

pub let_bit_range-returns : goal.let_bit_range-returns
let_bit_range-returns t c = λ q.
    alias_done c.args.spot.place q c.args.name c.args.fields.start c.args.fields.end c.with_alias-inner.ensures.ends.0 c.with_alias-inner.ensures.ends.1 c.with_alias-inner.ensures.bound c.check_with_env.new.work c.check_with_env.result
    (c.check_with_env.ensures (alias_ready c.args.spot.place q c.args.name c.args.fields.start c.args.fields.end c.with_alias-inner.ensures.ends.0 c.with_alias-inner.ensures.ends.1 c.with_alias-inner.ensures.bound))

pub let_variable-returns-in_err-d : goal.let_variable-returns-in_err-d
let_variable-returns-in_err-d t c = λ q. passed_on _ _ _ _ _ _ c.in_err-d.field-0.0 c.from_residual.ensures.1 (then_refused _ (stopped c.check_with_env.new.work (two_first c.args.spot.place q) c.in_err-d.field-0.0 c.in_err-d.ensures))

pub let_variable-check_with_env-requires-2 : goal.let_variable-check_with_env-requires-2
let_variable-check_with_env-requires-2 t c =
    let one = found c.check_with_env.new.work (two_first c.args.spot.place c.requires) c.in_ok-d.ensures in
    let sort = c.from.ensures ∙ c.number.ensures ∙ c.sort_kind-kind.ensures in
    (omega (arith, c.decreases), body_ready c.args.spot.place c.requires one sort c.write_record.ensures c.args.name c.with_variable-inner.ensures.ends.0 c.with_variable-inner.ensures.ends.1 c.with_variable-inner.ensures.bound)

pub let_variable-returns : goal.let_variable-returns
let_variable-returns t c = λ q.
    let one = found c.check_with_env.new.work (two_first c.args.spot.place q) c.in_ok-d.ensures in
    let sort = c.from.ensures ∙ c.number.ensures ∙ c.sort_kind-kind.ensures in
    let_done c.args.spot.place q one sort c.write_record.ensures c.args.name c.with_variable-inner.ensures.ends.0 c.with_variable-inner.ensures.ends.1 c.with_variable-inner.ensures.bound c.check_with_env-2.new.work c.check_with_env-2.result
    (c.check_with_env-2.ensures (body_ready c.args.spot.place q one sort c.write_record.ensures c.args.name c.with_variable-inner.ensures.ends.0 c.with_variable-inner.ensures.ends.1 c.with_variable-inner.ensures.bound))

pub test_negation-returns-in_err-a : goal.test_negation-returns-in_err-a
test_negation-returns-in_err-a t c = λ q. passed_on _ _ _ _ _ _ c.in_err-a.field-0.0 c.from_residual.ensures.1 (then_refused _ (stopped c.check_with_env.new.work (one_first c.args.spot.place q) c.in_err-a.field-0.0 c.in_err-a.ensures))

pub test_negation-returns-then-not-a : goal.test_negation-returns-then-not-a
test_negation-returns-then-not-a t c = λ q.
    negation_refused c.args.spot.place q (found c.check_with_env.new.work (one_first c.args.spot.place q) c.in_ok-a.ensures) (not-true _ c.if-not-a.true)
    ∙ ap (λ (e : Refused). refuse (number_of e.refusal) e.place) (sym c.at.ensures)

pub test_negation-returns : goal.test_negation-returns
test_negation-returns t c = λ q. negation_done c.args.spot.place q (found c.check_with_env.new.work (one_first c.args.spot.place q) c.in_ok-a.ensures) (not-false _ c.if-not-a.false)

pub unary-returns-in_err-a : goal.unary-returns-in_err-a
unary-returns-in_err-a t c = λ k q. passed_on _ _ _ _ _ _ c.in_err-a.field-0.0 c.from_residual.ensures.1 (then_refused _ (stopped c.check_with_env.new.work (one_first c.args.spot.place q) c.in_err-a.field-0.0 c.in_err-a.ensures))

pub unary-returns : goal.unary-returns
unary-returns t c = λ k q. unary_done c.args.spot.place q (found c.check_with_env.new.work (one_first c.args.spot.place q) c.in_ok-a.ensures) k

pub check_with_env-returns-in_err-test-in_default : goal.check_with_env-returns-in_err-test-in_default
check_with_env-returns-in_err-test-in_default t c = λ q.
    let n = c.in_default in
    passed_on _ _ _ _ _ _ c.in_err-test-in_default.field-0.0 c.from_residual-in_err-test-in_default.ensures.1 (leaf_is c.args.spot.place q c.in_ok-head.ensures (childless c.in_ok-head.head.kind n.not-Union n.not-Intersect n.not-Xor n.not-Difference n.not-Sequence n.not-LtlUntil n.not-Complement n.not-Star n.not-LtlNext n.not-TestNegation n.not-IfThenElse n.not-Let n.not-LetBitRange) c.within-scope.ensures c.in_err-test-in_default.ensures)

pub check_with_env-returns-in_ok-test-in_default : goal.check_with_env-returns-in_ok-test-in_default
check_with_env-returns-in_ok-test-in_default t c = λ q.
    let n = c.in_default in
    leaf_done c.args.spot.place q c.in_ok-head.ensures (childless c.in_ok-head.head.kind n.not-Union n.not-Intersect n.not-Xor n.not-Difference n.not-Sequence n.not-LtlUntil n.not-Complement n.not-Star n.not-LtlNext n.not-TestNegation n.not-IfThenElse n.not-Let n.not-LetBitRange) c.within-scope.ensures c.in_ok-test-in_default.ensures _ refl
