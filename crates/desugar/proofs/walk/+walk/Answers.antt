-- The walk meets its contracts.
use native.Mathlib.Omega.{arith}
use mathlib.Core.Path.{◌≡◌, refl, sym, ap, subst, ◌∙◌}
use mathlib.Core.Bool.{cond}
use mathlib.Core.List.{[], ◌∷◌}
use Prim.Native.Nat.{ℕ, ◌+◌, ◌*◌}
use Rattle.expr.proofs.Slices.{part}
use Rattle.desugar.specs.Memory.{Kept}
use Rattle.desugar.specs.NegationOutcome.{Negates}
use Rattle.desugar.specs.WalkWords.{Ready, TwoReady, ThreeReady, ElseReady, negated_at}
use Rattle.desugar.proofs.Regions.{kept_less, region_words}
use Rattle.desugar.proofs.WalkLaws.{lies_inside, walked, stopped, settled, passed_on, then_refused, text_read}
use Rattle.desugar.proofs.WalkSteps.{first_ready, unary_done, negation_done, negation_room, alias_ready, alias_done}
use Rattle.desugar.proofs.PairSteps.{FirstSettled, second_between, second_ready, binary_stops, dropped_done, join_room, joined_done, frame_room, body_ready, let_done}
use Rattle.desugar.proofs.IfSteps.{ConditionSettled, BranchSettled, branch_ready, branch_stops, else_ready, if_done, other_ready, branch_room, other_done}
use Rattle.desugar.proofs.Dispatch.{negation_kind, if_kind, let_kind, alias_kind, unary_kind, binary_kind, childless, some_left, one_asked, two_asked, three_asked, one_done, two_done, three_done, leaf_ready, leaf_done}
use Rattle.desugar.proofs.walk.+walk.Goals as goal
use Rattle.desugar.proofs.walk.+walk.Goals.{binary-After-settle-first, binary-After-second_at-to, binary-Else-dropped, if_then_else-After-settle-condition, if_then_else-After-settle-branch, otherwise-After-negation-outcome, otherwise-After-negated_size, let_variable-After-settle-core}

-- ## Operators with two operands

-- the first operand is settled
binary_first : (t : ℕ) (c : binary-After-settle-first t) (q : TwoReady c.args.s.now c.args.spot c.args.work.now)
    → FirstSettled c.args.spot.place q (c.args.spot.top + 3) c.settle-first.new.work c.in_ok-a.a c.settle-first.result
binary_first t c q =
    settled
    (walked c.desugar_with_env.new.work (first_ready c.args.spot.place (c.args.spot.top + 3) q.first (q.second ∷ []) q.text q.stack (omega arith) (omega arith)) c.in_ok-a.ensures)
    c.settle-first.ensures.place c.settle-first.ensures.kept c.settle-first.ensures.lies

-- the second goes behind it or in its place
abbrev binary_second : (t : ℕ) (c : binary-After-second_at-to t) (q : TwoReady c.args.s.now c.args.spot c.args.work.now)
    → FirstSettled c.args.spot.place q (c.args.spot.top + 3) c.settle-first.new.work c.in_ok-a.a c.settle-first.result
    → Ready c.args.s.now c.in_ok-a.a.used c.args.spot.left c.in_ok-a.a.next c.args.spot.env.last c.second_at-to.result c.in_ok-a.a.left c.settle-first.new.work
binary_second t c q f =
    let b = second_between c.drops-dropped.result c.second_at-to.ensures (omega (arith, f.at_is, c.end.ensures)) in
    second_ready c.args.spot.place q f c.second_at-to.result b.0 (omega (arith, b.1, c.end.ensures))

pub binary-returns-in_err-a : goal.binary-returns-in_err-a
binary-returns-in_err-a t c = λ k q. passed_on _ _ _ _ _ _ _ _ c.in_err-a.field-0.0 c.from_residual.ensures.1 (then_refused _ (stopped c.desugar_with_env.new.work (first_ready c.args.spot.place (c.args.spot.top + 3) q.first (q.second ∷ []) q.text q.stack (omega arith) (omega arith)) c.in_err-a.field-0.0 c.in_err-a.ensures))

pub binary-settle-first-requires : goal.binary-settle-first-requires
binary-settle-first-requires t c =
    let q = c.requires.1 in
    let d = walked c.desugar_with_env.new.work (first_ready c.args.spot.place (c.args.spot.top + 3) q.first (q.second ∷ []) q.text q.stack (omega arith) (omega arith)) c.in_ok-a.ensures in
    (d.above, lies_inside d.lies)

pub binary-words-requires : goal.binary-words-requires
binary-words-requires t c = lies_inside (binary_first t (goal.at.binary-words-requires t c).After-settle-first c.requires.1).lies

pub binary-end-requires : goal.binary-end-requires
binary-end-requires t c =
    let f = binary_first t (goal.at.binary-end-requires t c).After-settle-first c.requires.1 in
    omega (arith, f.at_is, f.drawn, c.requires.1.stack.small)

pub binary-desugar_with_env-requires-2 : goal.binary-desugar_with_env-requires-2
binary-desugar_with_env-requires-2 t c =
    let g = goal.at.binary-desugar_with_env-requires-2 t c in
    (omega (arith, c.decreases), binary_second t g.After-second_at-to c.requires.1 (binary_first t g.After-settle-first c.requires.1))

pub binary-returns-in_err-b : goal.binary-returns-in_err-b
binary-returns-in_err-b t c = λ k q.
    let g = goal.at.binary-returns-in_err-b t c in
    let f = binary_first t g.After-settle-first q in
    passed_on _ _ _ _ _ _ _ _ c.in_err-b.field-0.0 c.from_residual-in_err-b.ensures.1 (binary_stops c.args.spot.place q f k.o
    (stopped c.desugar_with_env-2.new.work (binary_second t g.After-second_at-to q f) c.in_err-b.field-0.0 c.in_err-b.ensures))

pub binary-returns-then-dropped : goal.binary-returns-then-dropped
binary-returns-then-dropped t c = λ k q.
    let g = goal.at.binary-returns-then-dropped t c in
    let f = binary_first t g.After-settle-first q in
    dropped_done c.args.spot.place q f (walked c.desugar_with_env-2.new.work (binary_second t g.After-second_at-to q f) c.in_ok-b.ensures) k
    (c.second_at-to.ensures ∙ ap (λ b. cond b c.args.spot.top c.end.result) c.if-dropped.true)
    (sym (c.drops-dropped.ensures k.o f.core k.is (c.words.ensures ∙ region_words f.lies)) ∙ c.if-dropped.true)

-- the second goes behind the first, which is kept
binary_behind : (t : ℕ) (c : binary-Else-dropped t) → c.second_at-to.result ≡ c.settle-first.result.at + 3 * c.settle-first.result.count
binary_behind t c = c.second_at-to.ensures ∙ ap (λ b. cond b c.args.spot.top c.end.result) c.if-dropped.false ∙ c.end.ensures

pub binary-join-requires : goal.binary-join-requires
binary-join-requires t c =
    let q = c.requires.1 in
    let g = goal.at.binary-join-requires t c in
    let f = binary_first t g.After-settle-first q in
    join_room c.args.spot.place q f (walked c.desugar_with_env-2.new.work (binary_second t g.After-second_at-to q f) c.in_ok-b.ensures) (binary_behind t g.Else-dropped)

pub binary-returns : goal.binary-returns
binary-returns t c = λ k q.
    let g = goal.at.binary-returns t c in
    let f = binary_first t g.After-settle-first q in
    joined_done c.args.spot.place q f (walked c.desugar_with_env-2.new.work (binary_second t g.After-second_at-to q f) c.in_ok-b.ensures) c.join.new.work c.join.result k (binary_behind t g.Else-dropped)
    (sym (c.drops-dropped.ensures k.o f.core k.is (c.words.ensures ∙ region_words f.lies)) ∙ c.if-dropped.false) c.join.ensures

-- ## A term, by its record

pub desugar_with_env-returns-in_err-head : goal.desugar_with_env-returns-in_err-head
desugar_with_env-returns-in_err-head t c = λ q. absurd (text_read c.args.s.now c.args.spot.at q.text c.in_err-head.ensures.0)

pub desugar_with_env-test_negation-requires : goal.desugar_with_env-test_negation-requires
desugar_with_env-test_negation-requires t c =
    (omega (arith, c.decreases, (some_left c.args.spot.place c.requires c.in_ok-head.ensures)), one_asked c.args.spot.place c.requires c.in_ok-head.ensures (negation_kind (part c.args.spot.at c.args.s.now) c.in_ok-head.head c.in-TestNegation.is))

pub desugar_with_env-if_then_else-requires : goal.desugar_with_env-if_then_else-requires
desugar_with_env-if_then_else-requires t c =
    (omega (arith, c.decreases, (some_left c.args.spot.place c.requires c.in_ok-head.ensures)), three_asked c.args.spot.place c.requires c.in_ok-head.ensures (if_kind (part c.args.spot.at c.args.s.now) c.in_ok-head.head c.in-IfThenElse.is))

pub desugar_with_env-let_variable-requires : goal.desugar_with_env-let_variable-requires
desugar_with_env-let_variable-requires t c =
    (omega (arith, c.decreases, (some_left c.args.spot.place c.requires c.in_ok-head.ensures)), two_asked c.args.spot.place c.requires c.in_ok-head.ensures (let_kind (part c.args.spot.at c.args.s.now) c.in_ok-head.head c.in-Let.is))

pub desugar_with_env-let_bit_range-requires : goal.desugar_with_env-let_bit_range-requires
desugar_with_env-let_bit_range-requires t c =
    (omega (arith, c.decreases, (some_left c.args.spot.place c.requires c.in_ok-head.ensures)), one_asked c.args.spot.place c.requires c.in_ok-head.ensures (alias_kind (part c.args.spot.at c.args.s.now) c.in_ok-head.head c.in-LetBitRange.is))

pub desugar_with_env-binary-requires : goal.desugar_with_env-binary-requires
desugar_with_env-binary-requires t c =
    let b = binary_kind (part c.args.spot.at c.args.s.now) c.in_ok-head.head c.in-Union.is in (omega (arith, c.decreases, (some_left c.args.spot.place c.requires c.in_ok-head.ensures)), (b.operator, two_asked c.args.spot.place c.requires c.in_ok-head.ensures b.node))

pub desugar_with_env-overflow_sub-inner : goal.desugar_with_env-overflow_sub-inner
desugar_with_env-overflow_sub-inner t c = some_left c.args.spot.place c.requires c.in_ok-head.ensures

pub desugar_with_env-unary-requires : goal.desugar_with_env-unary-requires
desugar_with_env-unary-requires t c =
    let b = unary_kind (part c.args.spot.at c.args.s.now) c.in_ok-head.head c.in-Complement.is in (omega (arith, c.decreases, (some_left c.args.spot.place c.requires c.in_ok-head.ensures)), (b.operator, one_asked c.args.spot.place c.requires c.in_ok-head.ensures b.node))

pub desugar_with_env-leaf-requires : goal.desugar_with_env-leaf-requires
desugar_with_env-leaf-requires t c = leaf_ready c.args.spot.place c.requires c.in_ok-head.ensures

pub desugar_with_env-returns-in-TestNegation : goal.desugar_with_env-returns-in-TestNegation
desugar_with_env-returns-in-TestNegation t c = λ q. one_done c.args.spot.place q c.in_ok-head.ensures c.test_negation.new.work c.test_negation.result (negation_kind (part c.args.spot.at c.args.s.now) c.in_ok-head.head c.in-TestNegation.is) c.test_negation.ensures

pub desugar_with_env-returns-in-IfThenElse : goal.desugar_with_env-returns-in-IfThenElse
desugar_with_env-returns-in-IfThenElse t c = λ q. three_done c.args.spot.place q c.in_ok-head.ensures c.if_then_else.new.work c.if_then_else.result (if_kind (part c.args.spot.at c.args.s.now) c.in_ok-head.head c.in-IfThenElse.is) c.if_then_else.ensures

pub desugar_with_env-returns-in-Let : goal.desugar_with_env-returns-in-Let
desugar_with_env-returns-in-Let t c = λ q. two_done c.args.spot.place q c.in_ok-head.ensures c.let_variable.new.work c.let_variable.result (let_kind (part c.args.spot.at c.args.s.now) c.in_ok-head.head c.in-Let.is) c.let_variable.ensures

pub desugar_with_env-returns-in-LetBitRange : goal.desugar_with_env-returns-in-LetBitRange
desugar_with_env-returns-in-LetBitRange t c = λ q. one_done c.args.spot.place q c.in_ok-head.ensures c.let_bit_range.new.work c.let_bit_range.result (alias_kind (part c.args.spot.at c.args.s.now) c.in_ok-head.head c.in-LetBitRange.is) c.let_bit_range.ensures

pub desugar_with_env-returns-in-Union : goal.desugar_with_env-returns-in-Union
desugar_with_env-returns-in-Union t c = λ q. let b = binary_kind (part c.args.spot.at c.args.s.now) c.in_ok-head.head c.in-Union.is in two_done c.args.spot.place q c.in_ok-head.ensures c.binary.new.work c.binary.result b.node (c.binary.ensures b.operator)

pub desugar_with_env-returns-in-Complement : goal.desugar_with_env-returns-in-Complement
desugar_with_env-returns-in-Complement t c = λ q. let b = unary_kind (part c.args.spot.at c.args.s.now) c.in_ok-head.head c.in-Complement.is in one_done c.args.spot.place q c.in_ok-head.ensures c.unary.new.work c.unary.result b.node (c.unary.ensures b.operator)

pub desugar_with_env-returns-in_default : goal.desugar_with_env-returns-in_default
desugar_with_env-returns-in_default t c = λ q.
    let n = c.in_default in
    leaf_done c.args.spot.place q c.in_ok-head.ensures c.leaf.new.work c.leaf.result
    (childless c.in_ok-head.head.kind n.not-Union n.not-Intersect n.not-Xor n.not-Difference n.not-Sequence n.not-LtlUntil n.not-Complement n.not-Star n.not-LtlNext n.not-TestNegation n.not-IfThenElse n.not-Let n.not-LetBitRange)
    c.leaf.ensures

-- ## If

-- the condition is settled
if_condition : (t : ℕ) (c : if_then_else-After-settle-condition t) (q : ThreeReady c.args.s.now c.args.spot c.args.work.now)
    → ConditionSettled c.args.spot.place q c.settle-condition.new.work c.in_ok-c.c c.settle-condition.result
if_condition t c q =
    settled
    (walked c.desugar_with_env.new.work (first_ready c.args.spot.place (c.args.spot.top + 6) q.first (q.second ∷ q.third ∷ []) q.text q.stack (omega arith) (omega arith)) c.in_ok-c.ensures)
    c.settle-condition.ensures.place c.settle-condition.ensures.kept c.settle-condition.ensures.lies

-- the first branch is
if_branch : (t : ℕ) (c : if_then_else-After-settle-branch t) (q : ThreeReady c.args.s.now c.args.spot c.args.work.now)
    (f : ConditionSettled c.args.spot.place q c.settle-condition.new.work c.in_ok-c.c c.settle-condition.result)
    → BranchSettled c.args.spot.place q f c.end-end.ensures c.settle-branch.new.work c.in_ok-t.t c.settle-branch.result
if_branch t c q f =
    settled (walked c.desugar_with_env-2.new.work (branch_ready c.args.spot.place q f c.end-end.ensures) c.in_ok-t.ensures)
    c.settle-branch.ensures.place c.settle-branch.ensures.kept c.settle-branch.ensures.lies

pub if_then_else-returns-in_err-c : goal.if_then_else-returns-in_err-c
if_then_else-returns-in_err-c t c = λ q. passed_on _ _ _ _ _ _ _ _ c.in_err-c.field-0.0 c.from_residual.ensures.1 (then_refused _ (stopped c.desugar_with_env.new.work (first_ready c.args.spot.place (c.args.spot.top + 6) q.first (q.second ∷ q.third ∷ []) q.text q.stack (omega arith) (omega arith)) c.in_err-c.field-0.0 c.in_err-c.ensures))

pub if_then_else-settle-condition-requires : goal.if_then_else-settle-condition-requires
if_then_else-settle-condition-requires t c =
    let q = c.requires in
    let d = walked c.desugar_with_env.new.work (first_ready c.args.spot.place (c.args.spot.top + 6) q.first (q.second ∷ q.third ∷ []) q.text q.stack (omega arith) (omega arith)) c.in_ok-c.ensures in
    (d.above, lies_inside d.lies)

pub if_then_else-end-end-requires : goal.if_then_else-end-end-requires
if_then_else-end-end-requires t c =
    let f = if_condition t (goal.at.if_then_else-end-end-requires t c).After-settle-condition c.requires in
    omega (arith, f.at_is, f.drawn, c.requires.stack.small)

pub if_then_else-desugar_with_env-requires-2 : goal.if_then_else-desugar_with_env-requires-2
if_then_else-desugar_with_env-requires-2 t c =
    let f = if_condition t (goal.at.if_then_else-desugar_with_env-requires-2 t c).After-settle-condition c.requires in
    (omega (arith, c.decreases), branch_ready c.args.spot.place c.requires f c.end-end.ensures)

pub if_then_else-returns-in_err-t : goal.if_then_else-returns-in_err-t
if_then_else-returns-in_err-t t c = λ q.
    let f = if_condition t (goal.at.if_then_else-returns-in_err-t t c).After-settle-condition q in
    passed_on _ _ _ _ _ _ _ _ c.in_err-t.field-0.0 c.from_residual-in_err-t.ensures.1 (branch_stops c.args.spot.place q f c.end-end.ensures
    (stopped c.desugar_with_env-2.new.work (branch_ready c.args.spot.place q f c.end-end.ensures) c.in_err-t.field-0.0 c.in_err-t.ensures))

pub if_then_else-settle-branch-requires : goal.if_then_else-settle-branch-requires
if_then_else-settle-branch-requires t c =
    let f = if_condition t (goal.at.if_then_else-settle-branch-requires t c).After-settle-condition c.requires in
    let d = walked c.desugar_with_env-2.new.work (branch_ready c.args.spot.place c.requires f c.end-end.ensures) c.in_ok-t.ensures in
    (d.above, lies_inside d.lies)

pub if_then_else-otherwise-requires : goal.if_then_else-otherwise-requires
if_then_else-otherwise-requires t c =
    let q = c.requires in
    let g = goal.at.if_then_else-otherwise-requires t c in
    let f = if_condition t g.After-settle-condition q in
    (omega (arith, c.decreases), else_ready c.args.spot.place q f c.end-end.ensures _ (if_branch t g.After-settle-branch q f) refl)

pub if_then_else-returns : goal.if_then_else-returns
if_then_else-returns t c = λ q.
    let g = goal.at.if_then_else-returns t c in
    let f = if_condition t g.After-settle-condition q in
    if_done c.args.spot.place q f c.end-end.ensures _ (if_branch t g.After-settle-branch q f) refl c.otherwise.new.work c.otherwise.result c.otherwise.ensures

-- ## The other branch of an If

-- the negation of the condition
negated : (t : ℕ) (c : otherwise-After-negation-outcome t) (q : ElseReady c.args.s.now c.args.spot c.args.work.now c.args.g)
    → Kept (negated_at c.args.g) c.args.work.now c.negation-outcome.new.work
    × Negates c.negation-outcome.new.work q.condition_core (negated_at c.args.g) c.args.spot.allowance c.negation-outcome.result
negated t c q =
    let at : c.end-to.result + 3 ≡ negated_at c.args.g = omega (arith, c.end-to.ensures) in
    let n = c.negation-outcome.ensures in (
      kept_less (omega (arith, at)) n.kept,
      subst (λ i. Negates c.negation-outcome.new.work q.condition_core i c.args.spot.allowance c.negation-outcome.result) at (n.negates q.condition_core q.condition),
    )

-- the other branch goes behind it
abbrev other_asked : (t : ℕ) (c : otherwise-After-negated_size t) (q : ElseReady c.args.s.now c.args.spot c.args.work.now c.args.g)
    → Kept (negated_at c.args.g) c.args.work.now c.negation-outcome.new.work
    × Negates c.negation-outcome.new.work q.condition_core (negated_at c.args.g) c.args.spot.allowance c.negation-outcome.result
    → Ready c.args.s.now c.args.spot.at c.args.spot.left c.args.spot.place c.args.spot.env.last (c.end-to.result + 3 + 3 * c.negated_size.result) c.args.spot.allowance c.negation-outcome.new.work
other_asked t c q n = other_ready c.args.place q n.0 n.1 (c.end-to.result + 3 + 3 * c.negated_size.result) (omega (arith, c.end-to.ensures, c.negated_size.ensures))

pub otherwise-desugar_with_env-requires : goal.otherwise-desugar_with_env-requires
otherwise-desugar_with_env-requires t c =
    let g = goal.at.otherwise-desugar_with_env-requires t c in
    (omega (arith, c.decreases), other_asked t g.After-negated_size c.requires (negated t g.After-negation-outcome c.requires))

pub otherwise-returns-in_err-e : goal.otherwise-returns-in_err-e
otherwise-returns-in_err-e t c = λ q.
    let g = goal.at.otherwise-returns-in_err-e t c in
    passed_on _ _ _ _ _ _ _ _ c.in_err-e.field-0.0 c.from_residual.ensures.1 (then_refused _
    (stopped c.desugar_with_env.new.work (other_asked t g.After-negated_size q (negated t g.After-negation-outcome q)) c.in_err-e.field-0.0 c.in_err-e.ensures))

pub otherwise-choose-requires : goal.otherwise-choose-requires
otherwise-choose-requires t c =
    let q = c.requires in
    let g = goal.at.otherwise-choose-requires t c in
    let n = negated t g.After-negation-outcome q in
    branch_room c.args.place q n.0 n.1 (omega (arith, c.end-to.ensures, c.negated_size.ensures)) (walked c.desugar_with_env.new.work (other_asked t g.After-negated_size q n) c.in_ok-e.ensures)

pub otherwise-returns : goal.otherwise-returns
otherwise-returns t c = λ q.
    let g = goal.at.otherwise-returns t c in
    let n = negated t g.After-negation-outcome q in
    other_done c.args.place q n.0 n.1 (omega (arith, c.end-to.ensures, c.negated_size.ensures)) (walked c.desugar_with_env.new.work (other_asked t g.After-negated_size q n) c.in_ok-e.ensures) c.choose.new.work c.choose.result c.choose.ensures

-- ## Let and LetBitRange

-- the definition is settled
let_definition : (t : ℕ) (c : let_variable-After-settle-core t) (q : TwoReady c.args.s.now c.args.spot c.args.work.now)
    → FirstSettled c.args.spot.place q c.args.spot.top c.settle-core.new.work c.in_ok-d.d c.settle-core.result
let_definition t c q =
    settled
    (walked c.desugar_with_env.new.work (first_ready c.args.spot.place c.args.spot.top q.first (q.second ∷ []) q.text q.stack (omega arith) (omega arith)) c.in_ok-d.ensures)
    c.settle-core.ensures.place c.settle-core.ensures.kept c.settle-core.ensures.lies

pub let_variable-returns-in_err-d : goal.let_variable-returns-in_err-d
let_variable-returns-in_err-d t c = λ q. passed_on _ _ _ _ _ _ _ _ c.in_err-d.field-0.0 c.from_residual.ensures.1 (then_refused _ (stopped c.desugar_with_env.new.work (first_ready c.args.spot.place c.args.spot.top q.first (q.second ∷ []) q.text q.stack (omega arith) (omega arith)) c.in_err-d.field-0.0 c.in_err-d.ensures))

pub let_variable-settle-core-requires : goal.let_variable-settle-core-requires
let_variable-settle-core-requires t c =
    let q = c.requires in
    let d = walked c.desugar_with_env.new.work (first_ready c.args.spot.place c.args.spot.top q.first (q.second ∷ []) q.text q.stack (omega arith) (omega arith)) c.in_ok-d.ensures in
    (d.above, lies_inside d.lies)

pub let_variable-end-end-requires : goal.let_variable-end-end-requires
let_variable-end-end-requires t c =
    let f = let_definition t (goal.at.let_variable-end-end-requires t c).After-settle-core c.requires in
    omega (arith, f.at_is, f.drawn, c.requires.stack.small)

pub let_variable-with_variable-inner-requires : goal.let_variable-with_variable-inner-requires
let_variable-with_variable-inner-requires t c =
    let f = let_definition t (goal.at.let_variable-with_variable-inner-requires t c).After-settle-core c.requires in
    (frame_room c.args.spot.place c.requires f c.end-end.ensures, omega (arith, c.end-end.ensures))

pub let_variable-desugar_with_env-requires-2 : goal.let_variable-desugar_with_env-requires-2
let_variable-desugar_with_env-requires-2 t c =
    let f = let_definition t (goal.at.let_variable-desugar_with_env-requires-2 t c).After-settle-core c.requires in
    let b = c.with_variable-inner.ensures in
    (omega (arith, c.decreases), body_ready c.args.spot.place c.requires f c.end-end.ensures c.args.name b.ends.0 b.ends.1 b.bound)

pub let_variable-returns : goal.let_variable-returns
let_variable-returns t c = λ q.
    let f = let_definition t (goal.at.let_variable-returns t c).After-settle-core q in
    let b = c.with_variable-inner.ensures in
    let_done c.args.spot.place q f c.end-end.ensures c.args.name b.ends.0 b.ends.1 b.bound c.desugar_with_env-2.new.work c.desugar_with_env-2.result c.desugar_with_env-2.ensures

pub let_bit_range-desugar_with_env-requires : goal.let_bit_range-desugar_with_env-requires
let_bit_range-desugar_with_env-requires t c = (omega (arith, c.decreases), (alias_ready c.args.spot.place c.requires c.args.name c.args.fields.start c.args.fields.end c.with_alias-inner.ensures.ends.0 c.with_alias-inner.ensures.ends.1 c.with_alias-inner.ensures.bound))

pub let_bit_range-returns : goal.let_bit_range-returns
let_bit_range-returns t c = λ q. let a = c.args in alias_done a.spot.place q a.name a.fields.start a.fields.end c.with_alias-inner.ensures.ends.0 c.with_alias-inner.ensures.ends.1 c.with_alias-inner.ensures.bound c.desugar_with_env.new.work c.desugar_with_env.result c.desugar_with_env.ensures

-- ## Operators with one operand

pub test_negation-returns-in_err-a : goal.test_negation-returns-in_err-a
test_negation-returns-in_err-a t c = λ q. passed_on _ _ _ _ _ _ _ _ c.in_err-a.field-0.0 c.from_residual.ensures.1 (then_refused _ (stopped c.desugar_with_env.new.work (first_ready c.args.spot.place c.args.spot.top q.first [] q.text q.stack (omega arith) (omega arith)) c.in_err-a.field-0.0 c.in_err-a.ensures))

pub test_negation-negate_core-requires : goal.test_negation-negate_core-requires
test_negation-negate_core-requires t c = negation_room c.args.spot.place c.requires (walked c.desugar_with_env.new.work (first_ready c.args.spot.place c.args.spot.top c.requires.first [] c.requires.text c.requires.stack (omega arith) (omega arith)) c.in_ok-a.ensures)

pub test_negation-returns : goal.test_negation-returns
test_negation-returns t c = λ q. negation_done c.args.spot.place q _ c.negate_core.new.work c.negate_core.result (walked c.desugar_with_env.new.work (first_ready c.args.spot.place c.args.spot.top q.first [] q.text q.stack (omega arith) (omega arith)) c.in_ok-a.ensures) c.negate_core.ensures

pub unary-returns-in_err-a : goal.unary-returns-in_err-a
unary-returns-in_err-a t c = λ k q. passed_on _ _ _ _ _ _ _ _ c.in_err-a.field-0.0 c.from_residual.ensures.1 (then_refused _ (stopped c.desugar_with_env.new.work (first_ready c.args.spot.place (c.args.spot.top + 3) q.first [] q.text q.stack (omega arith) (omega arith)) c.in_err-a.field-0.0 c.in_err-a.ensures))

pub unary-seal-requires : goal.unary-seal-requires
unary-seal-requires t c = let d = (walked c.desugar_with_env.new.work (first_ready c.args.spot.place (c.args.spot.top + 3) c.requires.1.first [] c.requires.1.text c.requires.1.stack (omega arith) (omega arith)) c.in_ok-a.ensures) in (omega (arith, d.above), lies_inside d.lies)

pub unary-returns : goal.unary-returns
unary-returns t c = λ k q. unary_done c.args.spot.place q _ c.seal.new.work c.seal.result k (walked c.desugar_with_env.new.work (first_ready c.args.spot.place (c.args.spot.top + 3) q.first [] q.text q.stack (omega arith) (omega arith)) c.in_ok-a.ensures) c.seal.ensures
