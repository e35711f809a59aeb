-- `desugar::leaves::Bound::write_term` meets its contract.
use mathlib.Core.Path.{◌∙◌, ◌≡◌}
use Prim.Native.Nat.{suc}
use native.Mathlib.Omega.{arith}
use Rattle.literals.specs.Results.{literal_bits}
use Rattle.desugar.proofs.BoundWords.{links_copied, top_last}
use Rattle.desugar.proofs.leaves.Bound.write_term.Goals as goal

pub returns : goal.returns
returns c =
    let a = c.args in
    let b = a.self in
    let l = c.loop-p in
    let copy = c.copy.ensures in
    let down : l.p ≡ suc a.i = omega arith in
    c.write_bit.ensures
    ∙ top_last b.start (literal_bits b.bits) b.width down (omega arith) a.work.now a.progress.to
    (l.invariant.3 a.work.now (links_copied c.requires.2 copy.kept copy.copied copy.beyond)) l.invariant.1 a.v
