-- `ranged::ranged` meets its contract.
use mathlib.Core.Path.{◌∙◌, ap, sym}
use Prim.Native.Nat.{◌+◌}
use Rattle.expr.specs.Terms.{Use}
use Rattle.expr.specs.Results.{record_of}
use Rattle.desugar.specs.Meter.{left}
use Rattle.desugar.specs.WalkWords.{where_of, use_of}
use Rattle.desugar.specs.RangedWords.{use_drawn}
use Rattle.desugar.proofs.Frames.{bound_same}
use Rattle.desugar.proofs.LeafSteps.{range_stops, range_drawn, same_walk}
use Rattle.desugar.proofs.ranged.ranged.Goals as goal

pub judged_range-requires : goal.judged_range-requires
judged_range-requires c = c.requires.inside

pub use_core-requires : goal.use_core-requires
use_core-requires c =
    let a = c.args in
    let h = record_of a.s.now a.head in
    let f = c.in-Ok.fields in
    let ρ = c.requires.env in (
      record {
        rule = c.use_in.ensures.rule (f.start, f.end) 0 ∙ (range_drawn ρ (where_of h) (use_of h) 0 (left a.spot.allowance) (sym (c.in-Ok.ensures ρ 0 (bound_same ρ c.within.ensures.0 c.within.ensures.1 c.requires.bound)))).0;
      },
      record { low = c.requires.low; room = c.requires.room },
    )

pub returns-in-Err : goal.returns-in-Err
returns-in-Err c =
    let a = c.args in
    let h = record_of a.s.now a.head in
    λ ρ b. rw c.at.ensures (range_stops ρ (where_of h) (use_of h) a.spot.place (left a.spot.allowance) (sym (c.in-Err.ensures ρ a.spot.place (bound_same ρ c.within.ensures.0 c.within.ensures.1 b))))

pub returns-in-Ok : goal.returns-in-Ok
returns-in-Ok c =
    let a = c.args in
    let h = record_of a.s.now a.head in
    let f = c.in-Ok.fields in
    λ ρ b.
    same_walk a.spot.at (a.spot.place + 1) a.spot.top a.spot.allowance 0 a.work.now c.use_core.new.work c.use_core.result
    ((range_drawn ρ (where_of h) (use_of h) a.spot.place (left a.spot.allowance) (sym (c.in-Ok.ensures ρ a.spot.place (bound_same ρ c.within.ensures.0 c.within.ensures.1 b)))).1
    ∙ ap (λ (u : Use). use_drawn u (f.start, f.end) a.spot.place (left a.spot.allowance)) (sym c.use_in.ensures.same))
    c.use_core.ensures
