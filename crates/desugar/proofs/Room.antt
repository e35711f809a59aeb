-- A core is never larger than what was drawn to make it: so an allowance bounds the work memory too.
use mathlib.Core.Path.{◌≡◌, refl, ap, ◌∙◌}
use mathlib.Core.Bool.{Bool, true, false, cond, ◌||◌}
use mathlib.Core.List.{List, [], ◌∷◌, ◌++◌, append_assoc}
use Prim.Native.Nat.{ℕ, ◌+◌, ◌-◌, ◌≤◌}
use native.Mathlib.Nat.{add-zero}
use native.Mathlib.Omega.{arith}
use Rattle.expr.specs.Answers.{Answer, and_then, need, ok, refuse}
use Rattle.expr.specs.Terms.{Binary, Core, Difference, Expr, IfThenElse, Intersect, Let, LetBitRange, LtlUntil, Op2, Plain, Ranged, Sequence, TestNegation, Unary, Union, Var, Xor, leaf, one, records, size, two}
use Rattle.desugar.specs.Bindings.{Env, find_range, lookup_alias, lookup_variable, range, variable}
use Rattle.desugar.specs.Desugar.{desugar}
use Rattle.desugar.specs.Leaves.{use_core}
use Rattle.desugar.specs.Meter.{Draws, Meter, ◌>>=◌, drawing, drawn, lift, spent}
use Rattle.desugar.specs.Negation.{is_one, is_test, join, join_draw, negate}
use Rattle.desugar.specs.Rules.{bound_variable, known_range, range_rule}
use Rattle.desugar.proofs.Limit.{drawn_append}

-- P holds of a result and the sum of the draws made for it, if there is a result; k are the draws before
pub data Weighed {A : Type 0} (P : A → ℕ → Type 0) (k : List (ℕ × ℕ)) : Answer (A × Meter) → Type 0 where
  weighed : (a : A) (ds t : List (ℕ × ℕ)) → t ≡ k ++ ds → P a (drawn ds) → Weighed P k (ok (a, spent t))
  declined : (r at : ℕ) → Weighed P k (refuse r at)

abbrev pub Weighs : {A : Type 0} → (A → ℕ → Type 0) → Draws A → Type 0
Weighs P m = (k : List (ℕ × ℕ)) → Weighed P k (m (spent k))

further : {A : Type 0} (Q : A → ℕ → Type 0) (ds : List (ℕ × ℕ)) {k t : List (ℕ × ℕ)} {x : Answer (A × Meter)}
    → t ≡ k ++ ds → Weighed (λ b d. Q b (drawn ds + d)) t x → Weighed Q k x
further Q ds {k} e (weighed b es u f q) = weighed b (ds ++ es) u (f ∙ ap (λ t. t ++ es) e ∙ append_assoc k ds es) (rw (drawn_append ds es) q)
further Q ds e (declined r at) = declined r at

bind_weighed : {A B : Type 0} (P : A → ℕ → Type 0) (Q : B → ℕ → Type 0) {k : List (ℕ × ℕ)} {x : Answer (A × Meter)} (h : A → Draws B)
    → Weighed P k x → ((a : A) (d : ℕ) → P a d → Weighs (λ b d'. Q b (d + d')) (h a)) → Weighed Q k (and_then x (λ r. h r.0 r.1))
bind_weighed P Q h (weighed a ds t e p) g = further Q ds e (g a (drawn ds) p t)
bind_weighed P Q h (declined r at) g = declined r at

bind_weighs : {A B : Type 0} (P : A → ℕ → Type 0) (Q : B → ℕ → Type 0) (m : Draws A) (h : A → Draws B)
    → Weighs P m → ((a : A) (d : ℕ) → P a d → Weighs (λ b d'. Q b (d + d')) (h a)) → Weighs Q (m >>= h)
bind_weighs P Q m h w g k = bind_weighed P Q h (w k) g

-- a step that draws nothing, then the rest
lift_weighs : {A B : Type 0} (Q : B → ℕ → Type 0) (x : Answer A) (h : A → Draws B) → ((a : A) → Weighs Q (h a)) → Weighs Q (lift x >>= h)
lift_weighs Q (ok a) h g k = g a k
lift_weighs Q (refuse r at) h g k = declined r at

draw_weighs : {A : Type 0} (Q : A → ℕ → Type 0) (n at : ℕ) (a : A) → Q a n → Weighs Q (drawing n at a)
draw_weighs Q n at a q k = weighed a ((n, at) ∷ []) (k ++ (n, at) ∷ []) refl (rw (add-zero n) q)

size_of_sequence : (a b : Core) (x y : Bool) → size (cond x b (cond y a (two Sequence a b))) ≤ size a + size b + cond (x || y) 0 1
size_of_sequence a b true y = omega arith
size_of_sequence a b false true = omega arith
size_of_sequence a b false false = omega arith

size_of_join : (o : Op2) (a b : Core) → size (join o a b) ≤ size a + size b + join_draw o a b
size_of_join Union a b = omega arith
size_of_join Intersect a b = omega arith
size_of_join Xor a b = omega arith
size_of_join Difference a b = omega arith
size_of_join Sequence a b = size_of_sequence a b (is_one a) (is_one b)
size_of_join LtlUntil a b = omega arith

-- an operator draws 1 for the node that it makes; a Sequence that drops a One gives its other operand, and draws nothing
pub data Joined (o : Op2) (a b : Core) : Core → ℕ → Type 0 where
  node : (o ≡ Sequence → (is_one a ≡ false) × (is_one b ≡ false)) → Joined o a b (two o a b) 1
  left_dropped_fact : o ≡ Sequence → is_one a ≡ true → Joined o a b b 0
  right_dropped_fact : o ≡ Sequence → is_one a ≡ false → is_one b ≡ true → Joined o a b a 0

pub join_draws : (o : Op2) (a b : Core) → Joined o a b (join o a b) (join_draw o a b)
join_draws Union a b = node (λ e. let z : ◌≡◌ {A = ℕ} 0 1 = cc in absurd (omega arith))
join_draws Intersect a b = node (λ e. let z : ◌≡◌ {A = ℕ} 0 1 = cc in absurd (omega arith))
join_draws Xor a b = node (λ e. let z : ◌≡◌ {A = ℕ} 0 1 = cc in absurd (omega arith))
join_draws Difference a b = node (λ e. let z : ◌≡◌ {A = ℕ} 0 1 = cc in absurd (omega arith))
join_draws Sequence a b = go (is_one a) (is_one b) refl refl
  where
    go : (x y : Bool) → is_one a ≡ x → is_one b ≡ y → Joined Sequence a b (cond x b (cond y a (two Sequence a b))) (cond (x || y) 0 1)
    go true y p q = left_dropped_fact refl p
    go false true p q = right_dropped_fact refl p q
    go false false p q = node (λ e. (p, q))
join_draws LtlUntil a b = node (λ e. let z : ◌≡◌ {A = ℕ} 0 1 = cc in absurd (omega arith))

abbrev pub Fits : Core → ℕ → Type 0
Fits c d = size c ≤ d

more_drawn : (i : ℕ) (k : List (ℕ × ℕ)) {x : Answer (Core × Meter)} → Weighed Fits k x → Weighed (λ c n. Fits c (i + n)) k x
more_drawn i k (weighed a ds t e p) = weighed a ds t e (omega arith)
more_drawn i k (declined r at) = declined r at

weaker : (i : ℕ) (m : Draws Core) → Weighs Fits m → Weighs (λ c n. Fits c (i + n)) m
weaker i m w k = more_drawn i k (w k)

-- the core that desugaring gives is no larger than the sum of the draws made for it
pub desugar_fits : (env : Env Core) (e : Expr) (at : ℕ) → Weighs Fits (desugar env e at)
desugar_fits env (Plain a) at = draw_weighs Fits 1 at (leaf a) (omega arith)
desugar_fits env (Unary o e) at =
    bind_weighs Fits Fits (desugar env e (at + 1)) _ (desugar_fits env e (at + 1)) (λ c d p.
    draw_weighs (λ b d'. Fits b (d + d')) 1 at (one o c) (omega arith))
desugar_fits env (Binary o a b) at =
    bind_weighs Fits Fits (desugar env a (at + 1)) _ (desugar_fits env a (at + 1)) (λ c i p.
    bind_weighs Fits (λ x j. Fits x (i + j)) (desugar env b (at + 1 + records a)) _ (desugar_fits env b (at + 1 + records a)) (λ d j q.
    draw_weighs (λ x n. Fits x (i + (j + n))) (join_draw o c d) at (join o c d) (omega (arith, size_of_join o c d))))
desugar_fits env (TestNegation e) at =
    bind_weighs Fits Fits (desugar env e (at + 1)) _ (desugar_fits env e (at + 1)) (λ c d p.
    lift_weighs (λ x n. Fits x (d + n)) (need (is_test c) 22 at) _ (λ _.
    draw_weighs (λ x n. Fits x (d + n)) (size (negate c)) at (negate c) (omega arith)))
desugar_fits env (IfThenElse c t e) at =
    bind_weighs Fits Fits (desugar env c (at + 1)) _ (desugar_fits env c (at + 1)) (λ c' i p.
    bind_weighs Fits (λ x n. Fits x (i + n)) (desugar env t (at + 1 + records c)) _ (desugar_fits env t (at + 1 + records c)) (λ t' j q.
    bind_weighs Fits (λ x n. Fits x (i + (j + n))) (desugar env e (at + 1 + records c + records t)) _ (desugar_fits env e (at + 1 + records c + records t)) (λ e' l r.
    lift_weighs (λ x n. Fits x (i + (j + (l + n)))) (need (is_test c') 23 at) _ (λ _.
    draw_weighs (λ x n. Fits x (i + (j + (l + n)))) (size (negate c') + 3) at (two Union (two Sequence c' t') (two Sequence (negate c') e')) (omega arith)))))
desugar_fits env (Let x d b) at =
    bind_weighs Fits Fits (desugar env d (at + 1)) _ (desugar_fits env d (at + 1)) (λ c i p.
    weaker i (desugar (variable x c ∷ env) b (at + 1 + records d)) (desugar_fits (variable x c ∷ env) b (at + 1 + records d)))
desugar_fits env (LetBitRange x s e b) at = desugar_fits (range x s e ∷ env) b (at + 1)
desugar_fits env (Var x) at = lift_weighs Fits (bound_variable (lookup_variable env x) (lookup_alias env x) at) _ (λ c. draw_weighs Fits (size c) at c (omega arith))
desugar_fits env (Ranged w u) at =
    lift_weighs Fits (known_range (find_range env w) at) _ (λ r.
    lift_weighs Fits (range_rule w u r at) _ (λ _.
    draw_weighs Fits (size (use_core u r.0 (r.1 - r.0))) at (use_core u r.0 (r.1 - r.0)) (omega arith)))
