-- `literals::BitSlice::is_zero` meets its contract.
use mathlib.Core.Path.{sym, ◌∙◌}
use native.Mathlib.Omega.{arith}
use borrow.Author.Tests.{eq-eqb, ne_eqb}
use Rattle.literals.specs.Bits.{unpack, value_of}
use Rattle.literals.specs.Results.{literal_bits}
use Rattle.literals.proofs.Values.{value_of_take, value_of_whole, bit_true}
use Rattle.literals.proofs.BitSlice.is_zero.Goals as goal

pub returns-then-bit : goal.returns-then-bit
returns-then-bit c =
    let a = literal_bits c.args.self in
    let more = bit_true c.loop-i.i a (sym c.if-bit.ensures) in
    sym (ne_eqb (value_of a) 0 (λ e. omega arith))

pub loop-i-preserved : goal.loop-i-preserved
loop-i-preserved c = omega (arith, value_of_take c.loop-i.i (literal_bits c.args.self) (sym c.if-bit.ensures))

pub returns : goal.returns
returns c =
    let l = c.args.self in
    let whole = value_of_whole c.loop-i.i l.len (unpack l.bytes.now) (omega (arith, c.loop-i-test.false)) in
    sym (eq-eqb (value_of (literal_bits l)) 0 (sym whole ∙ c.loop-i.invariant))
