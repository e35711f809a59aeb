-- `desugar::compute_subrange` meets its contract: its four tests are the definition's four, in its order.
use mathlib.Core.Path.{◌≡◌}
use Prim.Native.Nat.{ℕ, ◌+◌, ◌^◌, ◌≤◌, ◌<◌}
use borrow.Author.Tests.{lt-ltb, le-ltb, le-leb, lt-leb}
use Rattle.expr.specs.Answers.{ok, refuse}
use Rattle.desugar.specs.Bindings.{compute_subrange}
use Rattle.desugar.proofs.compute_subrange.Goals as goal

module _ (a b s e : ℕ) where
  start-over : 2 ^ 32 ≤ a + s → refuse 28 0 ≡ compute_subrange a b s e
  start-over h = rw (le-ltb (a + s) (2 ^ 32) h)

  end-over : a + s < 2 ^ 32 → 2 ^ 32 ≤ a + e → refuse 28 0 ≡ compute_subrange a b s e
  end-over f h = rw (lt-ltb (a + s) (2 ^ 32) f, le-ltb (a + e) (2 ^ 32) h)

  backwards : a + s < 2 ^ 32 → a + e < 2 ^ 32 → e < s → refuse 28 0 ≡ compute_subrange a b s e
  backwards f g h = rw (lt-ltb (a + s) (2 ^ 32) f, lt-ltb (a + e) (2 ^ 32) g, lt-leb s e h)

  beyond : a + s < 2 ^ 32 → a + e < 2 ^ 32 → s ≤ e → b < a + e → refuse 28 0 ≡ compute_subrange a b s e
  beyond f g h k = rw (lt-ltb (a + s) (2 ^ 32) f, lt-ltb (a + e) (2 ^ 32) g, le-leb s e h, lt-leb (a + e) b k)

  within : a + s < 2 ^ 32 → a + e < 2 ^ 32 → s ≤ e → a + e ≤ b → ok (a + s, a + e) ≡ compute_subrange a b s e
  within f g h k = rw (lt-ltb (a + s) (2 ^ 32) f, lt-ltb (a + e) (2 ^ 32) g, le-leb s e h, le-leb (a + e) b k)

pub returns-then-actual_start-ge4294967296 : goal.returns-then-actual_start-ge4294967296
returns-then-actual_start-ge4294967296 c = start-over _ _ _ _ c.if-actual_start-ge4294967296.true

pub returns-then-actual_end-ge4294967296 : goal.returns-then-actual_end-ge4294967296
returns-then-actual_end-ge4294967296 c = end-over _ _ _ _ c.if-actual_start-ge4294967296.false c.if-actual_end-ge4294967296.true

pub returns-then-sub_end-sub_start : goal.returns-then-sub_end-sub_start
returns-then-sub_end-sub_start c = backwards _ _ _ _ c.if-actual_start-ge4294967296.false c.if-actual_end-ge4294967296.false c.if-sub_end-sub_start.true

pub returns-then-alias_end-actual_end : goal.returns-then-alias_end-actual_end
returns-then-alias_end-actual_end c = beyond _ _ _ _ c.if-actual_start-ge4294967296.false c.if-actual_end-ge4294967296.false c.if-sub_end-sub_start.false c.if-alias_end-actual_end.true

pub returns : goal.returns
returns c = within _ _ _ _ c.if-actual_start-ge4294967296.false c.if-actual_end-ge4294967296.false c.if-sub_end-sub_start.false c.if-alias_end-actual_end.false
