-- `literals::BitSlice::is_highest` meets its contract.
use mathlib.Core.Path.{sym, ap, ◌∙◌}
use Prim.Native.Nat.{◌+◌, ◌^◌}
use native.Mathlib.Nat.{pow-succ'}
use native.Mathlib.Numerals.{add-one}
use native.Mathlib.Omega.{arith}
use borrow.Author.Tests.{ne_eqb}
use lib.ListN.{length-take}
use Rattle.literals.specs.Bits.{value_of, unpack}
use Rattle.literals.specs.Results.{literal_bits}
use Rattle.literals.proofs.Values.{value_of_take, bit_false}
use Rattle.literals.proofs.BitSlice.is_highest.Goals as goal

pub returns-then-not-bit : goal.returns-then-not-bit
returns-then-not-bit c =
    let s = c.args.self in
    let short = length-take s.len (unpack s.bytes.now) in
    let less = bit_false c.args.width c.loop-i.i (literal_bits s) c.loop-i-test.true (omega arith) (sym c.if-not-bit.ensures) in
    sym (ne_eqb (value_of (literal_bits s) + 1) (2 ^ c.args.width) (λ e. omega arith))

pub loop-i-preserved : goal.loop-i-preserved
loop-i-preserved c =
    let i = c.loop-i.i in
    let more = value_of_take i (literal_bits c.args.self) (sym c.if-not-bit.ensures) in
    let twice = ap (λ n. 2 ^ n) (add-one i) ∙ pow-succ' 2 i in
    omega arith
