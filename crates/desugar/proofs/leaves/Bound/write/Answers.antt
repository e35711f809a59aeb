-- `desugar::leaves::Bound::write` meets its contract.
use mathlib.Core.Path.{◌≡◌}
use Prim.Native.Nat.{◌-◌, suc}
use native.Mathlib.Omega.{arith}
use Rattle.literals.specs.Results.{literal_bits}
use Rattle.desugar.proofs.BoundWords.{size_below, size_more, size_whole}
use Rattle.desugar.proofs.leaves.Bound.write.Goals as goal

pub write_difference-progress-requires : goal.write_difference-progress-requires
write_difference-progress-requires c =
    let b = c.args.self in
    let p = c.loop-p.p in
    let bits = literal_bits b.bits in
    let down : p ≡ suc (p - 1) = omega arith in
    let more = size_more c.args.upper bits b.width down (omega arith) in
    let below = size_below c.args.upper bits b.width (p - 1) (omega arith) in
    (omega arith, omega arith, c.loop-p.invariant.5)

pub returns-clause-behind : goal.returns-clause-behind
returns-clause-behind c =
    let b = c.args.self in
    let l = c.loop-p in
    omega (arith, l.invariant.0, size_whole c.args.upper (literal_bits b.bits) b.width {p = l.p} (omega arith))
