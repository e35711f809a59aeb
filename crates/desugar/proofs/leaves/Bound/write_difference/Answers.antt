-- `desugar::leaves::Bound::write_difference` meets its contract: nothing where the bit is not the bound's kind, and an operator and a term where it is.
use mathlib.Core.Path.{◌∙◌, ap, sym}
use mathlib.Core.Bool.{beq, cond}
use mathlib.Core.List.{[], ◌∷◌}
use Prim.Native.Nat.{◌*◌, ◌-◌}
use native.Mathlib.Omega.{arith}
use borrow.Author.Rules.{rules}
use borrow.Author.Tests.{not-false}
use Rattle.literals.specs.Results.{literal_bits}
use Rattle.desugar.proofs.BoundWords.{difference_one, ready_under}
use Rattle.desugar.proofs.leaves.Bound.write_difference.Goals as goal

pub write_term-requires : goal.write_term-requires
write_term-requires c =
    let a = c.args in
    let same = ap (λ b. beq b a.upper) (sym c.bit.ensures) ∙ not-false _ c.if-bit-upper.false in
    let size = ap (λ x. cond x (2 * (a.self.width - a.i)) 0) same in
    (omega arith, search rules, ready_under (7 ∷ 0 ∷ 0 ∷ []) c.requires.2 c.write_bare.ensures)

pub returns : goal.returns
returns c =
    let a = c.args in
    let s = c.requires in
    let same = ap (λ b. beq b a.upper) (sym c.bit.ensures) ∙ not-false _ c.if-bit-upper.false in
    let size = ap (λ x. cond x (2 * (a.self.width - a.i)) 0) same in
    difference_one a.upper a.self.start (literal_bits a.self.bits) a.self.width a.i a.work.now s.1 s.2
    same (omega arith) c.write_bare.ensures c.write_term.ensures
