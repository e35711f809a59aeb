-- `cores::judge` meets its contract.
use mathlib.Core.Path.{ap, ◌∙◌}
use native.Mathlib.Omega.{arith}
use Rattle.std.specs.Prelude.{Err}
use Rattle.cores.specs.Results.{core_answer}
use Rattle.cores.proofs.JudgeSteps.{judge_start, judge_many, judge_refused, judge_next, judge_over, judge_done}
use Rattle.cores.proofs.judge.Goals as goal

pub loop-due-init : goal.loop-due-init
loop-due-init c = judge_start c.args.s.now c.args.room

pub returns-then-place-ge-MAX_CORE : goal.returns-then-place-ge-MAX_CORE
returns-then-place-ge-MAX_CORE c = ap (λ r. core_answer (Err r)) c.at.ensures ∙ judge_many c.loop-due.invariant c.loop-due-test.true c.if-place-ge-MAX_CORE.true

pub returns-in-Err : goal.returns-in-Err
returns-in-Err c = ap (λ r. core_answer (Err r)) c.at-in-Err.ensures ∙ judge_refused c.loop-due.invariant c.loop-due-test.true (omega (arith, c.if-place-ge-MAX_CORE.false)) c.in-Err.refusal c.in-Err.ensures

pub loop-due-preserved : goal.loop-due-preserved
loop-due-preserved c =
    judge_next c.loop-due.invariant c.loop-due-test.true (omega (arith, c.if-place-ge-MAX_CORE.false)) c.type_inv.s c.in-Ok.ensures c.arity.ensures c.widen-fields.ensures

pub returns-then-at-s : goal.returns-then-at-s
returns-then-at-s c = ap (λ r. core_answer (Err r)) c.at-then-at-s.ensures ∙ judge_over c.loop-due.invariant c.loop-due-test.false c.if-at-s.true

pub returns : goal.returns
returns c = c.settle.ensures ∙ judge_done c.loop-due.invariant c.loop-due-test.false c.if-at-s.false
