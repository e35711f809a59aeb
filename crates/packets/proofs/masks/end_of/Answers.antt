-- `packets::masks::end_of` meets its contract.
use mathlib.Core.Path.{◌≡◌, ◌∙◌}
use Rattle.std.specs.List.{sum}
use Rattle.std.proofs.Common.{rules}
use Rattle.std.proofs.iter.runs.Made.{chains}
use Rattle.packets.proofs.PacketLaws.{sum_total}
use Rattle.packets.proofs.masks.end_of.Goals as goal

pub returns : goal.returns
returns c = let e : c.sum.result ≡ sum c.args.lengths.now = search (rules, chains) in e ∙ sum_total c.args.lengths.now
