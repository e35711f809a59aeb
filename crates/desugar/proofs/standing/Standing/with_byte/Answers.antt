-- `desugar::standing::Standing::with_byte` meets its contract.
use native.Mathlib.Omega.{arith}
use Rattle.literals.specs.Bits.{bits_of}
use Rattle.desugar.proofs.StandingBits.{differences_append, ones_append}
use Rattle.desugar.proofs.standing.Standing.with_byte.Goals as goal

pub returns : goal.returns
returns c = λ a h.
    let bits = bits_of 8 c.args.byte in
    record {
      count = omega (arith, h.count, c.of_byte-above.ensures.count, ones_append a bits);
      size = omega (arith, h.count, h.size, c.of_byte-above.ensures.size, differences_append a bits);
    }
