-- `desugar::standing::Standing::of_bound` meets its contract: the bits above a literal do not stand, and those of the literal are further from the top.
use mathlib.Core.Path.{◌∙◌, sym}
use Prim.Native.Nat.{◌*◌, ◌+◌, ◌-◌}
use native.Mathlib.Omega.{arith}
use lib.ListN.{length-take}
use Rattle.literals.specs.Bits.{unpack}
use Rattle.literals.specs.Results.{literal_bits}
use Rattle.desugar.proofs.StandingBits.{padded_ones}
use Rattle.desugar.proofs.standing.Standing.of_bound.Goals as goal

pub returns : goal.returns
returns c =
    let b = c.args.bits in
    let padded = padded_ones (literal_bits b) b.len c.args.width (omega (arith, length-take b.len (unpack b.bytes.now))) c.requires.0 in
    let own = c.of_literal-below.ensures in
    record { count = own.count ∙ sym padded.0; size = (λ i. own.size i + 2 * ((c.args.width - b.len) * own.count i)) ∙ sym padded.1 }
