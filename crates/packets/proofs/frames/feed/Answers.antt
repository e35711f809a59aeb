-- `packets::frames::feed` meets its contract.
use mathlib.Core.Bool.{not}
use mathlib.Core.Path.{refl, sym, ap, ◌∙◌}
use mathlib.Core.List.{[]}
use Prim.Native.Nat.{◌-◌}
use borrow.Author.Tests.{not-true}
use lib.Dec.{ltb}
use lib.ListN.{get_or, set}
use Rattle.literals.proofs.Logic.{and_left, and_right}
use Rattle.packets.proofs.FrameLaws.{feed_closed, feed_second}
use Rattle.packets.proofs.frames.feed.Goals as goal

pub returns-then-kind-settled-clause-result_after : goal.returns-then-kind-settled-clause-result_after
returns-then-kind-settled-clause-result_after c =
    let kind = get_or (get_or c.loop-under.frames (c.loop-under.under - 1) []) 0 0 in
    let settled = c.is_settled-settled.result in
    feed_second c.loop-under.invariant c.loop-under-test.true c.requires (and_left (ltb kind 16) (not settled) c.if-kind-settled.true) (sym c.is_settled-settled.ensures ∙ not-true settled (and_right (ltb kind 16) (not settled) c.if-kind-settled.true)) (ap (set c.loop-under.frames (c.loop-under.under - 1)) c.framed.ensures)

pub loop-under-preserved : goal.loop-under-preserved
loop-under-preserved c = feed_closed c.loop-under.invariant c.loop-under-test.true c.requires c.is_settled-settled.ensures c.if-kind-settled.false c.close-mask.ensures refl
