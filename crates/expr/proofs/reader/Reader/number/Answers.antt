-- `Reader::number` meets its contract.
use mathlib.Core.Path.{refl}
use Prim.Native.Nat.{◌+◌, ◌-◌}
use native.Mathlib.Omega.{arith}
use Rattle.expr.proofs.Numbers.{number_absent, spelled_more, all_spelled, all_small, number_value}
use Rattle.expr.proofs.reader.Reader.number.Goals as goal

pub returns-then-not-stands : goal.returns-then-not-stands
returns-then-not-stands g c = number_absent g.row.N c.args.self.now c.if-not-stands.true

pub loop-i-preserved : goal.loop-i-preserved
loop-i-preserved g c =
    spelled_more (omega (arith, c.loop-i-test.true)) c.loop-i.auto.i c.loop-i.invariant (omega (arith, c.if-s-at.false))
    (omega (arith, c.type_inv.s (c.args.self.now.at + (c.loop-i.i - 1))))

pub returns : goal.returns
returns g c =
    number_value g.row.N c.args.self.now c.if-not-stands.false c.if-s-at.false c.loop-i.value
    (all_spelled c.loop-i.invariant (omega (arith, c.loop-i-test.false))) c.if-value-eq0.false
    (all_small c.loop-i.invariant (omega (arith, c.loop-i-test.false))) refl refl
