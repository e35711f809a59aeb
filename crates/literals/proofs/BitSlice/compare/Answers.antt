-- `literals::BitSlice::compare` meets its contract.
use native.Mathlib.Omega.{arith}
use Rattle.literals.proofs.Comparing.{comparing_found, comparing_end}
use Rattle.literals.proofs.BitSlice.compare.Goals as goal

pub returns-then-x-y : goal.returns-then-x-y
returns-then-x-y c = comparing_found c.loop-i-test.true c.loop-i.auto.i c.loop-i.invariant c.bit-x.ensures c.bit-y.ensures c.if-x-y.true c.order_at.ensures

pub returns : goal.returns
returns c = comparing_end c.loop-i.invariant (omega (arith, c.loop-i-test.false))
