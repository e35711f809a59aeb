-- `bindings::Bindings::with_alias` meets its contract.
use mathlib.Core.Path.{refl}
use Rattle.desugar.proofs.Frames.{framed_kept, framed, framed_bound}
use Rattle.desugar.specs.declared.bindings.FrameKind.TheVariants.{Alias}
use Rattle.desugar.proofs.bindings.Bindings.with_alias.Goals as goal

pub returns : goal.returns
returns c =
    let a = c.args in
    let xs = a.work.now in
    let w = c.write.ensures in
    let last = a.self.last in record {
      ends = (refl, framed_kept xs _ last a.top _ Alias a.name a.fields.start a.fields.end c.requires refl w);
      bound = λ env b. (
        framed xs _ last a.top _ Alias a.name a.fields.start a.fields.end c.requires refl w,
        framed_bound xs _ last a.top _ Alias a.name a.fields.start a.fields.end c.requires refl w env b,
      );
    }
