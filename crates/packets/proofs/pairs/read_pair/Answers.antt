-- `packets::pairs::read_pair` meets its contract.
use mathlib.Core.Path.{sym, ◌∙◌}
use Rattle.packets.proofs.PassLaws.{pair_taken}
use Rattle.packets.proofs.pairs.read_pair.Goals as goal

pub returns : goal.returns
returns c = pair_taken c.args.s.now c.args.at c.in_ok-nine.nine.now c.in_ok-nine.ensures.cases c.type_inv.s c.from_le_bytes-field.ensures (sym c.is_pair.ensures ∙ c.if-not-is_pair.false)
