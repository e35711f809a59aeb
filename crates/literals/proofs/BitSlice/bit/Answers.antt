-- `literals::BitSlice::bit` meets its contract. Written out, so that a wrong program is refused by the fact that differs.
use mathlib.Core.Path.{sym, ◌∙◌}
use mathlib.Core.Bool.{false}
use native.Mathlib.Omega.{arith}
use lib.Seq.{get_or-take}
use Rattle.literals.specs.Bits.{unpack}
use Rattle.literals.proofs.BitSlice.bit.Goals as goal

pub returns-then-i-self : goal.returns-then-i-self
returns-then-i-self c =
    let l = c.args.self in
    c.bit_at.ensures ∙ sym (get_or-take l.len (unpack l.bytes.now) c.args.i false (omega (arith, c.if-i-self.true)))
