-- `desugar::operands::drops` meets its contract: an operator is a Sequence or another one.
use mathlib.Core.Path.{◌≡◌}
use borrow.Author.Rules.{rules}
use Rattle.expr.specs.Kinds.{kind_number}
use Rattle.desugar.proofs.Closing.{drops_no, drops_larger, drops_single}
use Rattle.desugar.proofs.operands.drops.Goals as goal

pub returns-then-ne : goal.returns-then-ne
returns-then-ne c =
    let other : kind_number c.args.kind ≡ 11 → ⊥ = search rules in
    λ o d is numbers. drops_no o d is numbers other

pub returns-then-core-ne3 : goal.returns-then-core-ne3
returns-then-core-ne3 c =
    let sequence : kind_number c.args.kind ≡ 11 = search rules in
    λ o d is numbers. drops_larger o d is numbers sequence c.if-core-ne3.true

pub returns : goal.returns
returns c =
    let sequence : kind_number c.args.kind ≡ 11 = search rules in
    λ o d is numbers. drops_single o d is numbers sequence c.if-core-ne3.false
