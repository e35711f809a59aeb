-- `cores::write_records` meets its contract.
use mathlib.Core.Path.{◌∙◌}
use mathlib.Core.List.{[], ◌∷◌}
use native.Mathlib.Omega.{arith}
use lib.Seq.{sets}
use Rattle.cores.proofs.ListSteps.{list_start, list_never, list_room, list_next, list_end}
use Rattle.cores.proofs.write_records.Goals as goal

pub loop-at-init : goal.loop-at-init
loop-at-init c = list_start c.type_inv.s c.requires

pub returns-in_default : goal.returns-in_default
returns-in_default c = absurd (list_never c.loop-at.invariant c.loop-at-test.true c.in_default.ensures)

pub write_record-requires : goal.write_record-requires
write_record-requires c = (list_room c.loop-at.invariant c.loop-at-test.true c.type_inv.s c.in-Ok.ensures).0

pub overflow_add-to : goal.overflow_add-to
overflow_add-to c = omega (arith, (list_room c.loop-at.invariant c.loop-at-test.true c.type_inv.s c.in-Ok.ensures).1)

pub loop-at-preserved : goal.loop-at-preserved
loop-at-preserved c =
    list_next c.loop-at.invariant c.loop-at-test.true c.type_inv.s c.in-Ok.ensures
    (c.write_record.ensures ∙ (λ i. sets c.loop-at.list c.loop-at.to (c.number.ensures i ∷ c.in-Ok.r.field ∷ c.in-Ok.r.value ∷ [])))

pub returns : goal.returns
returns c = list_end c.loop-at.invariant c.loop-at-test.false
