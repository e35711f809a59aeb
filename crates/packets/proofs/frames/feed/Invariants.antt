-- `packets::frames::feed` meets its contract.
use Rattle.packets.proofs.FrameLaws.{Feeding}
use Rattle.packets.proofs.frames.feed.Given as goal

abbrev pub invariant-loop-under : goal.invariant-loop-under
invariant-loop-under l = Feeding l.initial.frames l.from l.value l.frames l.under l.mask l.skip
