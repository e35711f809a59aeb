-- `desugar::test_negation::negated::negate` meets its contract.
use mathlib.Core.List.{[], ◌∷◌}
use Prim.Native.Nat.{◌+◌, ◌-◌}
use native.Mathlib.Omega.{arith}
use Rattle.desugar.proofs.Regions.{kept_sets}
use Rattle.desugar.proofs.PassEnds.{begin, ended, some_records}
use Rattle.desugar.proofs.test_negation.negated.negate.Goals as goal

pub overflow_sub-s : goal.overflow_sub-s
overflow_sub-s c = omega (arith, some_records c.requires.noted.0 c.requires.noted.1)

pub bounds-work-s : goal.bounds-work-s
bounds-work-s c = omega (arith, some_records c.requires.noted.0 c.requires.noted.1)

pub loop-j-init : goal.loop-j-init
loop-j-init c = record {
  within = omega arith;
  kept = kept_sets c.args.p.modes c.args.work.now (c.args.p.modes + c.args.p.core.count - 1) (0 ∷ []) (omega (arith, some_records c.requires.noted.0 c.requires.noted.1));
  run = λ t h. begin c.args.p c.requires.room h;
}

pub returns-clause-negated : goal.returns-clause-negated
returns-clause-negated c = λ t h. ended c.loop-j.invariant.within c.loop-j-test.false (c.loop-j.invariant.run t h)
