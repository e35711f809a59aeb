-- `cores::judge` meets its contract.
use Prim.Native.Nat.{◌-◌}
use Rattle.expr.specs.Answers.{answered}
use Rattle.cores.specs.Reading.{max_core}
use Rattle.cores.proofs.JudgeSteps.{Judging}
use Rattle.cores.proofs.judge.Given as goal

abbrev pub invariant-loop-due : goal.invariant-loop-due
invariant-loop-due l = Judging l.s l.room l.at l.due l.place (answered l.fields)

abbrev pub decreases-loop-due : goal.decreases-loop-due
decreases-loop-due l = max_core - l.place
