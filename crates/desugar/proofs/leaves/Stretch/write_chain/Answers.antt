-- `desugar::leaves::Stretch::write_chain` meets its contract.
use mathlib.Core.Path.{◌∙◌}
use native.Mathlib.Omega.{arith}
use Rattle.literals.specs.Results.{literal_bits}
use Rattle.desugar.proofs.Chains.{bit_more}
use Rattle.desugar.proofs.leaves.Stretch.write_chain.Goals as goal

pub loop-i-preserved : goal.loop-i-preserved
loop-i-preserved c =
    let a = c.args in
    let s = a.self in
    let l = c.loop-i in (
      omega (arith, l.invariant.0),
      λ o f kinds. c.write_link.ensures ∙ bit_more kinds s.start (literal_bits s.bits) s.from l.i a.work.now a.at (l.invariant.1 o f kinds) c.bit-b.ensures,
    )
