-- `desugar::by_number::use_size` meets its contract: the n fields from 0 up.
use mathlib.Core.Path.{◌≡◌, ◌∙◌}
use Prim.Native.Nat.{◌-◌}
use native.Mathlib.Omega.{arith}
use Rattle.literals.specs.Results.{literal_bits}
use Rattle.expr.specs.Terms.{size}
use Rattle.desugar.specs.Leaves.{use_core}
use Rattle.desugar.specs.WalkWords.{where_of, use_of}
use Rattle.desugar.specs.RangedWords.{numbered, record_in}
use Rattle.desugar.proofs.Numbered.{kept_from_none}
use Rattle.desugar.proofs.RuleLaws.{range_kept}
use Rattle.desugar.proofs.by_number.use_size.Goals as goal

pub invariant_of-judged : goal.invariant_of-judged
invariant_of-judged c =
    let a = c.args in
    let r = numbered a.kind a.pattern a.number (literal_bits a.a) (literal_bits a.b) in
    let h = record_in c.by_number.result in
    let kept = range_kept (where_of h) (use_of h) 0 a.n (c.by_number.ensures.rule (0, a.n) 0 ∙ kept_from_none (where_of r) (use_of r) a.n 0 c.requires.kept) in
    record { ordered = kept.0; kept = kept.1 }

pub returns : goal.returns
returns c =
    let all : c.args.n - 0 ≡ c.args.n = omega arith in
    λ start. c.size.ensures start ∙ (λ j. size (use_core (c.by_number.ensures.same j) start (all j)))
