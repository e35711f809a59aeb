-- `desugar::standing::Standing::of_bytes` meets its contract.
use Prim.Native.Nat.{◌*◌}
use native.Mathlib.Omega.{arith}
use Rattle.literals.specs.Results.{literal_bits}
use Rattle.desugar.specs.LeafWords.{stretch}
use Rattle.desugar.proofs.Chains.{length_stretch}
use Rattle.desugar.proofs.StandingBits.{stands_few}
use Rattle.desugar.proofs.standing.Standing.of_bytes.Goals as goal

pub with_byte-standing-requires : goal.with_byte-standing-requires
with_byte-standing-requires c =
    let l = c.loop-i in
    let low = stretch (literal_bits c.args.bits) 0 (8 * l.i) in
    stands_few low l.standing (8 * l.i) l.invariant (length_stretch (literal_bits c.args.bits) 0 (8 * l.i)) (omega (arith, c.requires))
