-- `desugar::between::Values::write` meets its contract: one `returns` for each case of `between_case`.
use mathlib.Core.Path.{◌∙◌, ap, refl}
use mathlib.Core.Bool.{false, true}
use native.Mathlib.Omega.{arith}
use lib.Seq.{sets}
use Rattle.literals.specs.Results.{literal_bits}
use Rattle.expr.specs.Terms.{Intersect, Test}
use Rattle.desugar.specs.LeafWords.{stretch}
use Rattle.desugar.specs.Leaves.{bound}
use Rattle.desugar.specs.Memory.{words}
use Rattle.desugar.proofs.BetweenWords.{between_is, between_size_is, both_words}
use Rattle.desugar.proofs.BoundWords.{size_bound}
use Rattle.desugar.proofs.Chains.{length_stretch}
use Rattle.desugar.proofs.between.Values.write.Goals as goal

pub write_chain-requires : goal.write_chain-requires
write_chain-requires c =
    let a = c.args in
    let size = between_size_is a.self c.if-is_single.ensures refl refl in
    let long = length_stretch (literal_bits a.self.low) 0 a.self.width in
    omega arith

pub returns-then-is_single : goal.returns-then-is_single
returns-then-is_single c =
    let a = c.args in
    let case = between_is a.self c.if-is_single.ensures refl refl a.start in
    c.write_chain.ensures Intersect Test (record { operator_is = refl; atom_is = λ s b. refl }) ∙ ap (λ core. sets a.work.now a.at (words core)) case

pub returns-in-true-true : goal.returns-in-true-true
returns-in-true-true c =
    let a = c.args in
    let case = between_is a.self c.if-is_single.ensures c.in-true-true.ensures c.in-true-true.ensures' a.start in
    c.write_bare.ensures ∙ ap (λ core. sets a.work.now a.at (words core)) case

pub write-requires : goal.write-requires
write-requires c =
    let a = c.args in
    let size = between_size_is a.self c.if-is_single.ensures c.in-true-false.ensures c.in-true-false.ensures' in
    omega arith

pub returns-in-true-false : goal.returns-in-true-false
returns-in-true-false c =
    let a = c.args in
    let case = between_is a.self c.if-is_single.ensures c.in-true-false.ensures c.in-true-false.ensures' a.start in
    c.write.ensures.written ∙ ap (λ core. sets a.work.now a.at (words core)) case

pub write-requires-in-false-true : goal.write-requires-in-false-true
write-requires-in-false-true c =
    let a = c.args in
    let size = between_size_is a.self c.if-is_single.ensures c.in-false-true.ensures c.in-false-true.ensures' in
    omega arith

pub returns-in-false-true : goal.returns-in-false-true
returns-in-false-true c =
    let a = c.args in
    let case = between_is a.self c.if-is_single.ensures c.in-false-true.ensures c.in-false-true.ensures' a.start in
    c.write-in-false-true.ensures.written ∙ ap (λ core. sets a.work.now a.at (words core)) case

pub write-behind-requires : goal.write-behind-requires
write-behind-requires c =
    let a = c.args in
    let size = between_size_is a.self c.if-is_single.ensures c.in-false-false.ensures c.in-false-false.ensures' in
    omega arith

pub write-requires-in-false-false : goal.write-requires-in-false-false
write-requires-in-false-false c =
    let a = c.args in
    let size = between_size_is a.self c.if-is_single.ensures c.in-false-false.ensures c.in-false-false.ensures' in
    omega (arith, c.write-behind.ensures.behind)

pub returns-in-false-false : goal.returns-in-false-false
returns-in-false-false c =
    let a = c.args in
    let low = stretch (literal_bits a.self.low) 0 a.self.width in
    let high = stretch (literal_bits a.self.high) 0 a.self.width in
    let case = between_is a.self c.if-is_single.ensures c.in-false-false.ensures c.in-false-false.ensures' a.start in
    let first = c.write-behind.ensures in
    both_words (bound false a.start low) (bound true a.start high) a.work.now a.at (omega (arith, first.behind, size_bound false a.start low))
    c.write_bare-in-false-false.ensures first.written c.write-in-false-false.ensures.written
    ∙ ap (λ core. sets a.work.now a.at (words core)) case
