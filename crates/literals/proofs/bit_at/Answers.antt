-- `literals::bit_at` meets its contract: bit i of bytes is bit i % 8 of byte i / 8.
use mathlib.Core.Path.{sym, ◌∙◌, ap}
use Prim.Native.Nat.{◌%◌, ◌^◌}
use native.Mathlib.Nat.{zero-div}
use lib.ListN.{get_or-eq_default}
use Rattle.literals.specs.Bits.{bit_at}
use Rattle.literals.proofs.Bits.{bit_of_bytes}
use Rattle.literals.proofs.bit_at.Goals as goal

pub returns-then-bytes-at : goal.returns-then-bytes-at
returns-then-bytes-at c =
    sym
    (bit_of_bytes c.args.bytes.now c.args.i
    ∙ ap (bit_at (c.args.i % 8)) (get_or-eq_default c.args.bytes.now 0 c.if-bytes-at.true)
    ∙ rw (zero-div (2 ^ (c.args.i % 8))))

pub returns : goal.returns
returns c = sym (bit_of_bytes c.args.bytes.now c.args.i)
