-- `desugar::standing::Standing::of_literal` meets its contract.
use mathlib.Core.Path.{subst}
use native.Mathlib.Omega.{arith}
use Rattle.literals.specs.Bits.{Bits}
use Rattle.literals.specs.Results.{literal_bits}
use Rattle.desugar.specs.LeafWords.{Stands, stretch}
use Rattle.desugar.proofs.Chains.{length_stretch}
use Rattle.desugar.proofs.StandingBits.{stands_bit, stands_few, stretch_bit}
use Rattle.desugar.proofs.standing.Standing.of_literal.Goals as goal

pub with_bit-standing-requires : goal.with_bit-standing-requires
with_bit-standing-requires c =
    let l = c.loop-p in
    let low = stretch (literal_bits c.args.bits) 0 l.p in
    let few = stands_few low l.standing l.p l.invariant (length_stretch (literal_bits c.args.bits) 0 l.p) (omega (arith, c.requires)) in
    (omega (arith, few.0), omega (arith, few.1))

pub loop-p-preserved : goal.loop-p-preserved
loop-p-preserved c =
    let l = c.loop-p in
    let bits = literal_bits c.args.bits in
    let step = c.with_bit-standing.ensures in
    subst (λ (b : Bits). Stands b c.with_bit-standing.result) (stretch_bit bits l.p c.bit.ensures) (stands_bit (stretch bits 0 l.p) c.bit.result l.invariant step.0 step.1)
