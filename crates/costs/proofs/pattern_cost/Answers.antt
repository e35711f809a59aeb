-- `costs::pattern_cost` meets its contract: what is out of form of the lent pattern, then the cost of the match.
use mathlib.Core.Path.{◌∙◌}
use mathlib.Core.Bool.{cond}
use native.Mathlib.Omega.{arith}
use lib.Dec.{leb}
use Rattle.literals.specs.Results.{literal_bits}
use Rattle.expr.proofs.KindNumbers.{pattern_small}
use Rattle.desugar.specs.Costs.{cost}
use Rattle.costs.specs.Results.{pattern_with}
use Rattle.costs.proofs.Lent.{literal_kept, literal_whole, lent_both}
use Rattle.costs.proofs.pattern_cost.Goals as goal

pub match_cost-requires : goal.match_cost-requires
match_cost-requires c =
    let a = c.args in (
      literal_whole a.a.now a.a_bits c.in_ok-first.first c.in_ok-first.ensures,
      literal_whole a.b.now c.second_bits.result c.in_ok-second.second c.in_ok-second.ensures,
    )

pub returns : goal.returns
returns c =
    let a = c.args in
    let first = c.in_ok-first.first in
    let second = c.in_ok-second.second in
    let named = c.in_ok-pattern.ensures in
    lent_both a.start a.end a.pattern a.number a.a.now a.a_bits a.b.now a.b_bits
    (omega (arith, named, pattern_small c.in_ok-pattern.pattern))
    (c.second_bits.ensures ∙ λ i. cond (leb 2 (named i)) a.b_bits 0)
    (literal_kept a.a.now a.a_bits first c.in_ok-first.ensures)
    (literal_kept a.b.now c.second_bits.result second c.in_ok-second.ensures)
    (c.match_cost.ensures ∙ λ i. cost (pattern_with (named i) a.number (literal_bits first) (literal_bits second)) a.start a.end 0)
