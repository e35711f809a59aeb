-- `packets::skim::Spot::skip_cores` meets its contract.
use native.Mathlib.Omega.{arith}
use Rattle.packets.proofs.PassLaws.{skims_bounded}
use Rattle.packets.proofs.skim.Spot.skip_cores.Goals as goal

pub overflow_add-skip : goal.overflow_add-skip
overflow_add-skip c = let b = skims_bounded c.args.self.cursor.low c.skim-next.ensures.skims in omega (arith, c.requires.1, c.skippable-cores.ensures.0, c.skippable-cores.ensures.1, b.few, b.low)

pub overflow_add-result : goal.overflow_add-result
overflow_add-result c = let b = skims_bounded c.args.self.cursor.low c.skim-next.ensures.skims in omega (arith, c.requires.0, c.skippable-cores.ensures.0, c.skippable-cores.ensures.1, b.few, b.low)
