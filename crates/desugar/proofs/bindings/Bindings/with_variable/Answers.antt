-- `bindings::Bindings::with_variable` meets its contract.
use mathlib.Core.Path.{refl}
use native.Mathlib.Omega.{arith}
use Rattle.desugar.proofs.Frames.{framed_kept, framed, framed_bound, lies_kept}
use Rattle.desugar.specs.declared.bindings.FrameKind.TheVariants.{Variable}
use Rattle.desugar.proofs.bindings.Bindings.with_variable.Goals as goal

pub returns : goal.returns
returns c =
    let a = c.args in
    let p = c.requires in
    let xs = a.work.now in
    let w = c.write.ensures in
    let last = a.self.last in
    let kept = framed_kept xs _ last a.top _ Variable a.name a.core.at a.core.count p.0 refl w in record {
      ends = (refl, kept);
      bound = λ env core b lies. (
        record {
          at = a.core.at;
          count = a.core.count;
          frame = framed xs _ last a.top _ Variable a.name a.core.at a.core.count p.0 refl w;
          lies = lies_kept kept p.1 lies;
          below = omega (arith, p.1);
        },
        framed_bound xs _ last a.top _ Variable a.name a.core.at a.core.count p.0 refl w env b,
      );
    }
