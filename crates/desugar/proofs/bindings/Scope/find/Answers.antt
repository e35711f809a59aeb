-- `bindings::Scope::find` meets its contract.
use mathlib.Core.Path.{sym, subst, ◌∙◌}
use Prim.Native.Nat.{◌<◌}
use native.Mathlib.Omega.{arith}
use Rattle.desugar.specs.BindingWords.{AnyBound}
use Rattle.desugar.proofs.Frames.{Passed, any_frame, outer_bound, passed_then, ends_here, ends_none}
use Rattle.desugar.proofs.bindings.Scope.find.Goals as goal

pub read-frame-requires : goal.read-frame-requires
read-frame-requires c =
    let f = any_frame c.loop-last.invariant.1 (omega arith) in
    (f.0, f.1)

pub returns-then-binds : goal.returns-then-binds
returns-then-binds c =
    let a = c.args in
    let l = c.loop-last in
    let frame = c.read-frame.ensures in
    let some : 0 < l.last = omega arith in
    let f = any_frame l.invariant.1 some in record {
      inside = (f.0, l.invariant.0, f.1);
      ends = λ env b.
          let p = l.invariant.2 env b in
          p.gives _ (ends_here a.self.work.now a.name l.last some frame.kinds frame.numbers.0 a.kind p.env p.bound (sym c.binds.ensures ∙ c.if-binds.true));
    }

pub loop-last-smaller : goal.loop-last-smaller
loop-last-smaller c =
    let f = any_frame c.loop-last.invariant.1 (omega arith) in
    omega (arith, f.2, c.read-frame.ensures.numbers.3)

pub loop-last-preserved : goal.loop-last-preserved
loop-last-preserved c =
    let a = c.args in
    let xs = a.self.work.now in
    let l = c.loop-last in
    let frame = c.read-frame.ensures in
    let some : 0 < l.last = omega arith in
    let f = any_frame l.invariant.1 some in
    let outer = sym frame.numbers.3 in (
      omega (arith, l.invariant.0, f.2, outer),
      subst (λ n. ∥ AnyBound xs n ∥₁) outer (outer_bound l.invariant.1 some),
      λ env b. subst (λ n. Passed xs a.kind a.name env n) outer
          (passed_then xs a.name l.last some frame.kinds frame.numbers.0 (l.invariant.2 env b) (sym c.binds.ensures ∙ c.if-binds.false)),
    )

pub returns : goal.returns
returns c =
    let l = c.loop-last in record {
      inside = tt;
      ends = λ env b.
          let p = l.invariant.2 env b in
          p.gives _ (ends_none c.args.self.work.now c.args.kind c.args.name p.env (omega arith) p.bound);
    }
