-- A refusal of desugaring stands at a record of the term.
use mathlib.Core.Bool.{Bool, true, false, cond, ◌&&◌}
use mathlib.Core.Option.{Option, none, some}
use mathlib.Core.List.{◌∷◌}
use Prim.Native.Nat.{ℕ, ◌+◌, ◌-◌, ◌≤◌, ◌<◌}
use native.Mathlib.Omega.{arith}
use lib.Dec.{leb, eqb}
use lib.ListN.{length}
use Rattle.literals.specs.Bits.{Bits, value_of}
use Rattle.literals.specs.Patterns.{Cidr, Exact, IpRange, Pattern, Wildcard}
use Rattle.expr.specs.Answers.{Answer, need, ok, refuse}
use Rattle.expr.specs.Terms.{Alias, Assigns, Binary, Core, Direct, Expr, IfThenElse, Let, LetBitRange, Matches, Plain, Ranged, Sequence, TestNegation, Tests, Unary, Union, Use, Var, Where, leaf, one, records, size, two}
use Rattle.expr.proofs.Places.{Placed, placed_then, placed_need}
use Rattle.desugar.specs.Bindings.{Env, variable, range, find_range, lookup_alias, lookup_variable}
use Rattle.desugar.specs.Desugar.{desugar}
use Rattle.desugar.specs.Leaves.{use_core}
use Rattle.desugar.specs.Meter.{Draws, Meter, left, spent, lift, drawing, ◌>>=◌}
use Rattle.desugar.specs.Negation.{is_test, join, join_draw, negate}
use Rattle.desugar.specs.Rules.{bound_variable, known_range, literal_rule, max_range_bits, pattern_rule, range_rule, use_rule}

-- what a record's own rules and draw answer stands at its place
module _ (n at : ℕ) (h : at < n) where
  literal_placed : (w : Where) (a : Bits) (m : ℕ) → Placed n (literal_rule w a m at)
  literal_placed (Direct s e) a m = placed_need n (eqb (length a) m) 16 at h
  literal_placed (Alias x) a m = placed_need n (leb (length a) m) 15 at h

  pattern_placed : (p : Pattern) (m : ℕ) → Placed n (pattern_rule p m at)
  pattern_placed (Exact a) m = placed_need n (leb (length a) m) 15 at h
  pattern_placed (Cidr a k) m = placed_then n (need (leb k m) 17 at) _ (placed_need n (leb k m) 17 at h) (λ _. placed_need n (eqb (length a) m) 18 at h)
  pattern_placed (Wildcard a b) m = placed_need n (eqb (length a) m && eqb (length b) m) 19 at h
  pattern_placed (IpRange a b) m =
      let fits : Bool = leb m max_range_bits && leb (length a) m && leb (length b) m in
      placed_then n (need fits 20 at) _ (placed_need n fits 20 at h) (λ _. placed_need n (leb (value_of a) (value_of b)) 21 at h)

  use_placed : (w : Where) (u : Use) (m : ℕ) → Placed n (use_rule w u m at)
  use_placed w (Assigns a) m = literal_placed w a m
  use_placed w (Tests a) m = literal_placed w a m
  use_placed w (Matches p) m = pattern_placed p m

  pub rule_placed : (w : Where) (u : Use) (r : ℕ × ℕ) → Placed n (range_rule w u r at)
  rule_placed w u r = placed_then n (need (leb r.0 r.1) 14 at) _ (placed_need n (leb r.0 r.1) 14 at h) (λ _. use_placed w u (r.1 - r.0))

  pub range_placed : (o : Option (ℕ × ℕ)) → Placed n (known_range o at)
  range_placed (some r) = tt
  range_placed none = h

  pub variable_placed : {A : Type 0} (o : Option A) (r : Option (ℕ × ℕ)) → Placed n (bound_variable o r at)
  variable_placed (some v) r = tt
  variable_placed none (some r) = h
  variable_placed none none = h

abbrev Steady : {A : Type 0} → ℕ → Draws A → Type 0
Steady n m = (k : Meter) → Placed n (m k)

module _ (n : ℕ) where
  steady_then : {A B : Type 0} (m : Draws A) (f : A → Draws B) → Steady n m → ((a : A) → Steady n (f a)) → Steady n (m >>= f)
  steady_then m f h g k = placed_then n (m k) (λ r. f r.0 r.1) (h k) (λ r. g r.0 r.1)

  steady_lift : {A : Type 0} (x : Answer A) → Placed n x → Steady n (lift x)
  steady_lift (ok a) h k = tt
  steady_lift (refuse r at) h k = h

  steady_draw : {A : Type 0} (d at : ℕ) (a : A) → at < n → Steady n (drawing d at a)
  steady_draw {A} d at a h (spent ds) = tt
  steady_draw {A} d at a h (left k) = go (leb d k)
    where
      go : (b : Bool) → Placed {A = A × Meter} n (cond b (ok (a, left (k - d))) (refuse 24 at))
      go true = tt
      go false = h

  -- of a term whose records end at or before n
  pub desugar_placed : (env : Env Core) (e : Expr) (at : ℕ) → at + records e ≤ n → Steady n (desugar env e at)
  desugar_placed env (Plain a) at h = steady_draw 1 at (leaf a) (omega arith)
  desugar_placed env (Unary o e) at h =
      steady_then (desugar env e (at + 1)) _ (desugar_placed env e (at + 1) (omega arith)) (λ c. steady_draw 1 at (one o c) (omega arith))
  desugar_placed env (Binary o a b) at h =
      steady_then (desugar env a (at + 1)) _ (desugar_placed env a (at + 1) (omega arith)) (λ c.
      steady_then (desugar env b (at + 1 + records a)) _ (desugar_placed env b (at + 1 + records a) (omega arith)) (λ d.
      steady_draw (join_draw o c d) at (join o c d) (omega arith)))
  desugar_placed env (TestNegation e) at h =
      steady_then (desugar env e (at + 1)) _ (desugar_placed env e (at + 1) (omega arith)) (λ c.
      steady_then (lift (need (is_test c) 22 at)) _ (steady_lift (need (is_test c) 22 at) (placed_need n (is_test c) 22 at (omega arith))) (λ _.
      steady_draw (size (negate c)) at (negate c) (omega arith)))
  desugar_placed env (IfThenElse c t e) at h =
      steady_then (desugar env c (at + 1)) _ (desugar_placed env c (at + 1) (omega arith)) (λ c'.
      steady_then (desugar env t (at + 1 + records c)) _ (desugar_placed env t (at + 1 + records c) (omega arith)) (λ t'.
      steady_then (desugar env e (at + 1 + records c + records t)) _ (desugar_placed env e (at + 1 + records c + records t) (omega arith)) (λ e'.
      steady_then (lift (need (is_test c') 23 at)) _ (steady_lift (need (is_test c') 23 at) (placed_need n (is_test c') 23 at (omega arith))) (λ _.
      steady_draw (size (negate c') + 3) at (two Union (two Sequence c' t') (two Sequence (negate c') e')) (omega arith)))))
  desugar_placed env (Let x d b) at h =
      steady_then (desugar env d (at + 1)) _ (desugar_placed env d (at + 1) (omega arith)) (λ c.
      desugar_placed (variable x c ∷ env) b (at + 1 + records d) (omega arith))
  desugar_placed env (LetBitRange x s e b) at h = desugar_placed (range x s e ∷ env) b (at + 1) (omega arith)
  desugar_placed env (Var x) at h =
      let v : Answer Core = bound_variable (lookup_variable env x) (lookup_alias env x) at in
      steady_then (lift v) _ (steady_lift v (variable_placed n at (omega arith) (lookup_variable env x) (lookup_alias env x))) (λ c. steady_draw (size c) at c (omega arith))
  desugar_placed env (Ranged w u) at h =
      steady_then (lift (known_range (find_range env w) at)) _ (steady_lift (known_range (find_range env w) at) (range_placed n at (omega arith) (find_range env w))) (λ r.
      steady_then (lift (range_rule w u r at)) _ (steady_lift (range_rule w u r at) (rule_placed n at (omega arith) w u r)) (λ _.
      steady_draw (size (use_core u r.0 (r.1 - r.0))) at (use_core u r.0 (r.1 - r.0)) (omega arith)))
