-- `desugar::standing::Standing::of_byte` meets its contract.
use mathlib.Core.Path.{refl, subst, sym}
use native.Mathlib.Omega.{arith}
use lib.ListN.{length, take, length-take}
use Rattle.literals.specs.Bits.{Bits, bit_at, bits_of}
use Rattle.literals.proofs.Bits.{length_bits}
use Rattle.desugar.specs.LeafWords.{Stands}
use Rattle.desugar.proofs.StandingBits.{stands_bit, stands_few, byte_bit}
use Rattle.desugar.proofs.standing.Standing.of_byte.Goals as goal

pub with_bit-standing-requires : goal.with_bit-standing-requires
with_bit-standing-requires c =
    let l = c.loop-i in
    let low = take l.i (bits_of 8 c.args.byte) in
    let few = stands_few low l.standing (length low) l.invariant refl (omega (arith, length-take l.i (bits_of 8 c.args.byte), length_bits 8 c.args.byte)) in
    (omega (arith, few.0), omega (arith, few.1))

pub loop-i-preserved : goal.loop-i-preserved
loop-i-preserved c =
    let v = c.args.byte in
    let l = c.loop-i in
    let step = c.with_bit-standing.ensures in
    subst (λ (b : Bits). Stands b c.with_bit-standing.result) (sym (byte_bit v l.i (omega arith))) (stands_bit (take l.i (bits_of 8 v)) (bit_at l.i v) l.invariant (omega (arith, step.0)) (omega (arith, step.1)))
