-- `desugar::between::Values::size` meets its contract: equal bounds, and one `returns` for each case of `between_case_size` with others.
use mathlib.Core.Path.{◌∙◌, ap, refl, sym}
use Prim.Native.Nat.{◌+◌}
use borrow.Author.Tests.{eq-eqb, ne_eqb}
use Rattle.literals.specs.Results.{literal_bits}
use Rattle.desugar.specs.Costs.{chain_size}
use Rattle.desugar.specs.LeafWords.{stretch}
use Rattle.desugar.proofs.BetweenWords.{between_size_by, counted_size}
use Rattle.desugar.proofs.Chains.{length_stretch}
use Rattle.desugar.proofs.between.Values.size.Goals as goal

pub returns-then-is_single : goal.returns-then-is_single
returns-then-is_single c =
    let v = c.args.self in
    c.chain_size.ensures
    ∙ ap chain_size (sym (length_stretch (literal_bits v.low) 0 v.width))
    ∙ between_size_by v c.if-is_single.ensures

pub returns-in-true-true : goal.returns-in-true-true
returns-in-true-true c =
    counted_size c.args.self c.if-is_single.ensures refl c.of_bound-lower.ensures c.of_bound-upper.ensures
    (eq-eqb _ _ c.in-true-true.is-0) (eq-eqb _ _ c.in-true-true.is-1)

pub returns-in-true-false : goal.returns-in-true-false
returns-in-true-false c =
    let v = c.args.self in
    let high = literal_bits v.high in
    c.bound_size.ensures (stretch high 0 v.width) (length_stretch high 0 v.width) c.of_bound-upper.ensures
    ∙ counted_size v c.if-is_single.ensures refl c.of_bound-lower.ensures c.of_bound-upper.ensures
    (eq-eqb _ _ c.in-true-false.is-0) (ne_eqb _ _ c.in-true-false.is-1)

pub returns-in-false-true : goal.returns-in-false-true
returns-in-false-true c =
    let v = c.args.self in
    let low = literal_bits v.low in
    c.bound_size-in-false-true.ensures (stretch low 0 v.width) (length_stretch low 0 v.width) c.of_bound-lower.ensures
    ∙ counted_size v c.if-is_single.ensures refl c.of_bound-lower.ensures c.of_bound-upper.ensures
    (ne_eqb _ _ c.in-false-true.is-0) (eq-eqb _ _ c.in-false-true.is-1)

pub returns-in-false-false : goal.returns-in-false-false
returns-in-false-false c =
    let v = c.args.self in
    let low = literal_bits v.low in
    let high = literal_bits v.high in
    let lower = c.bound_size-in-false-false.ensures (stretch low 0 v.width) (length_stretch low 0 v.width) c.of_bound-lower.ensures in
    let upper = c.bound_size-in-false-false-2.ensures (stretch high 0 v.width) (length_stretch high 0 v.width) c.of_bound-upper.ensures in
    (λ i. 1 + lower i + upper i)
    ∙ counted_size v c.if-is_single.ensures refl c.of_bound-lower.ensures c.of_bound-upper.ensures
    (ne_eqb _ _ c.in-false-false.is-0) (ne_eqb _ _ c.in-false-false.is-1)
