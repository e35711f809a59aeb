-- `desugar::masks::Masked::write` meets its contract.
use mathlib.Core.Path.{◌∙◌, ◌≡◌, ap, refl, sym}
use mathlib.Core.Bool.{false}
use mathlib.Core.List.{[], ◌∷◌}
use Prim.Native.Nat.{◌+◌, ◌-◌, suc}
use native.Mathlib.Omega.{arith}
use lib.ListN.{get_or}
use lib.Seq.{sets}
use Rattle.literals.specs.Bits.{bit}
use Rattle.literals.specs.Results.{literal_bits}
use Rattle.expr.specs.Terms.{Intersect, One}
use Rattle.desugar.specs.LeafWords.{trim}
use Rattle.desugar.specs.Leaves.{chain}
use Rattle.desugar.specs.Memory.{words}
use Rattle.desugar.proofs.Masked.{clear_before, clear_last, clear_none, clear_one, masked_last, masked_link, masked_none, masked_skip}
use Rattle.desugar.proofs.masks.Masked.write.Goals as goal
use Rattle.desugar.proofs.masks.Masked.write.Goals.{then-not-bit, else-not-bit}

pub returns-then-end-eq0 : goal.returns-then-end-eq0
returns-then-end-eq0 c =
    let a = c.args in
    let none = masked_none a.start (literal_bits a.self.address) (literal_bits a.self.mask) a.self.width (sym c.trimmed-end.ensures ∙ c.if-end-eq0.true) in
    c.write_bare.ensures ∙ ap (λ cs. sets a.work.now a.at (words (chain Intersect One cs))) (sym none)

pub loop-i-init : goal.loop-i-init
loop-i-init c =
    let a = c.args in
    let m = literal_bits a.self.mask in
    let last = c.trimmed-end.result - 1 in
    let high : trim m a.self.width ≡ suc last = omega (arith, c.trimmed-end.ensures) in
    let inside = clear_last m a.self.width last high in
    (high, inside.0, omega arith, omega arith, refl, refl)

pub write_link-requires : goal.write_link-requires
write_link-requires c = omega (arith, clear_before (literal_bits c.args.self.mask) c.loop-i.i (c.trimmed-end.result - 1) (sym c.if-not-bit.ensures) (omega arith))

pub overflow_add-to : goal.overflow_add-to
overflow_add-to c = omega (arith, clear_before (literal_bits c.args.self.mask) c.loop-i.i (c.trimmed-end.result - 1) (sym c.if-not-bit.ensures) (omega arith))

pub loop-i-preserved : goal.loop-i-preserved
loop-i-preserved c =
    let a = c.args in
    let address = literal_bits a.self.address in
    let m = literal_bits a.self.mask in
    let l = c.loop-i in
    elim c.if-not-bit.branch [
      | then-not-bit w ↦
          let clear = sym w.if-not-bit.ensures in (
            l.invariant.0,
            l.invariant.1,
            omega arith,
            omega (arith, w.to-is, clear_one m l.i clear),
            omega arith,
            w.work-is ∙ w.write_link.ensures ∙ masked_link a.start address m l.i a.work.now a.at l.invariant.5 l.invariant.3 clear w.bit-b.ensures,
          )
      | else-not-bit w ↦
          let stands = sym w.if-not-bit.ensures in (
            l.invariant.0,
            l.invariant.1,
            omega arith,
            omega (arith, w.to-is, clear_none m l.i stands),
            omega arith,
            w.work-is ∙ masked_skip a.start address m l.i a.work.now a.at l.invariant.5 l.invariant.3 stands,
          )
    ]

pub returns : goal.returns
returns c =
    let a = c.args in
    let l = c.loop-i in
    let last = c.trimmed-end.result - 1 in
    let all : last ≡ l.i = omega arith in
    let high : trim (literal_bits a.self.mask) a.self.width ≡ suc l.i = omega (arith, c.trimmed-end.ensures) in
    c.write_bit.ensures
    ∙ (λ j. sets l.work l.to (6 ∷ (a.start + all j) ∷ bit c.bit-b-2.result ∷ []))
    ∙ masked_last a.start (literal_bits a.self.address) (literal_bits a.self.mask) l.i a.work.now a.at l.invariant.5 l.invariant.3 a.self.width high
    (c.bit-b-2.ensures ∙ ap (λ k. get_or (literal_bits a.self.address) k false) all)
