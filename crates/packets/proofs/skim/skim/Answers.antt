-- `packets::skim::skim` meets its contract.
use mathlib.Core.Path.{refl}
use native.Mathlib.Omega.{arith}
use Rattle.expr.specs.Kinds.{kind_number}
use Rattle.expr.proofs.Arities.{arity_small}
use Rattle.packets.specs.Results.{none_read}
use Rattle.packets.proofs.PassLaws.{skim_pairs, skim_below, skim_next, skims_bounded}
use Rattle.packets.proofs.skim.skim.Goals as goal

pub loop-skip-init : goal.loop-skip-init
loop-skip-init c = record { same = refl; reads = none_read }

pub returns-then-next-is_skimmed : goal.returns-then-next-is_skimmed
returns-then-next-is_skimmed c =
    let k = skim_pairs c.loop-skip.invariant c.loop-skip-test.true c.skip_pairs-next.result c.skip_pairs-next.ensures in record { same = k.same; skims = k.reads }

pub returns-in_default : goal.returns-in_default
returns-in_default c =
    let k = skim_pairs c.loop-skip.invariant c.loop-skip-test.true c.skip_pairs-next.result c.skip_pairs-next.ensures in record { same = k.same; skims = k.reads }

pub overflow_add-skip : goal.overflow_add-skip
overflow_add-skip c =
    let b = skims_bounded c.args.from.low c.loop-skip.invariant.reads in
    omega (arith, b.few, c.loop-skip.cursor.low, c.requires, arity_small (kind_number c.in-Some.r.kind) c.arity.result c.arity.ensures)

pub loop-skip-smaller : goal.loop-skip-smaller
loop-skip-smaller c =
    omega (
      arith,
      (skims_bounded c.loop-skip.cursor.low (c.skip_pairs-next.ensures.skims c.loop-skip.skip c.loop-skip-test.true)).more,
      c.behind-cursor.ensures.place,
      skim_below c.skip_pairs-next.result c.in-Some.r c.in-Some.ensures c.is_skimmed.ensures c.if-next-is_skimmed.false,
    )

pub loop-skip-preserved : goal.loop-skip-preserved
loop-skip-preserved c =
    skim_next c.skip_pairs-next.result c.in-Some.r c.in-Some.ensures c.is_skimmed.ensures c.if-next-is_skimmed.false
    (skim_pairs c.loop-skip.invariant c.loop-skip-test.true c.skip_pairs-next.result c.skip_pairs-next.ensures) c.loop-skip-test.true c.arity.ensures c.behind-cursor.result c.behind-cursor.ensures
