-- `packets::masks::Capture::new` meets its contract.
use mathlib.Core.Path.{refl}
use Rattle.std.proofs.lemmas.List.Elements.{All-replicate}
use Rattle.packets.specs.Running.{packet_bytes}
use Rattle.packets.specs.Results.{IsMaskOf}
use Rattle.packets.proofs.PacketLaws.{ones}
use Rattle.packets.proofs.masks.Capture.new.Goals as goal

pub invariant_of-result : goal.invariant_of-result
invariant_of-result c = record {
  few = c.requires;
  end_is = c.end_of-end.ensures;
  end_fits = c.end_of-end.type_inv;
  all_is = ones c.args.lengths.now c.args.packets.now c.all_of-all.ensures;
  long = refl;
  each = All-replicate (IsMaskOf (packet_bytes c.args.lengths.now c.args.packets.now)) 256 _ tt;
}
