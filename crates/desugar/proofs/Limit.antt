-- What a limit changes: with enough of an allowance nothing, and with less the answer is 24 at the first draw beyond it.
use mathlib.Core.Path.{◌≡◌, refl, sym, ap, subst, ◌∙◌}
use mathlib.Core.Bool.{Bool, true, false, cond}
use mathlib.Core.List.{List, [], ◌∷◌, ◌++◌, append_assoc, append-nil}
use Prim.Native.Nat.{ℕ, ◌+◌, ◌-◌, ◌≤◌, ◌<◌}
use native.Mathlib.Nat.{add-zero, sub-zero}
use native.Mathlib.Decide.{dec_lt}
use native.Mathlib.Omega.{arith}
use lib.Dec.{leb}
use Rattle.literals.proofs.Logic.{false_of, leb_is}
use Rattle.expr.specs.Answers.{Answer, and_then, map_answer, need, ok, refuse}
use Rattle.expr.specs.Terms.{Binary, Core, Expr, IfThenElse, Let, LetBitRange, Plain, Ranged, Sequence, TestNegation, Unary, Union, Var, leaf, one, records, size, two}
use Rattle.desugar.specs.Bindings.{Env, find_range, lookup_alias, lookup_variable, range, variable}
use Rattle.desugar.specs.Claims.{Limit}
use Rattle.desugar.specs.Desugar.{desugar}
use Rattle.desugar.specs.Leaves.{use_core}
use Rattle.desugar.specs.Meter.{Draws, Meter, ◌>>=◌, drawing, drawn, left, lift, overdrawn, spent}
use Rattle.desugar.specs.Negation.{is_test, join, join_draw, negate}
use Rattle.desugar.specs.Rules.{bound_variable, known_range, range_rule}

-- ## Lists of draws, each with its place

pub drawn_append : (ds es : List (ℕ × ℕ)) → drawn (ds ++ es) ≡ drawn ds + drawn es
drawn_append [] es = omega arith
drawn_append (d ∷ ds) es = rw (drawn_append ds es) (omega arith)

-- too little for the first draws, or only for those after them
overdrawn_first : (n : ℕ) (ds es : List (ℕ × ℕ)) → n < drawn ds → overdrawn n (ds ++ es) ≡ overdrawn n ds
overdrawn_first n [] es p = absurd (omega arith)
overdrawn_first n (d ∷ ds) es p = go (leb d.0 n) refl (overdrawn_first (n - d.0) ds es)
  where
    go : (b : Bool) → leb d.0 n ≡ b → (n - d.0 < drawn ds → overdrawn (n - d.0) (ds ++ es) ≡ overdrawn (n - d.0) ds)
        → cond b (overdrawn (n - d.0) (ds ++ es)) d.1 ≡ cond b (overdrawn (n - d.0) ds) d.1
    go true e f = let q : d.0 ≤ n = (leb_is d.0 n).0 e in f (omega arith)
    go false e f = refl

overdrawn_after : (n : ℕ) (ds es : List (ℕ × ℕ)) → drawn ds ≤ n → overdrawn n (ds ++ es) ≡ overdrawn (n - drawn ds) es
overdrawn_after n [] es p = rw (sub-zero n)
overdrawn_after n (d ∷ ds) es p =
    let q : n - d.0 - drawn ds ≡ n - (d.0 + drawn ds) = omega arith in
    rw ((leb_is d.0 n).1 (omega arith)) (overdrawn_after (n - d.0) ds es (omega arith) ∙ ap (λ m. overdrawn m es) q)

-- ## What each step draws

-- the draws of a step, up to its result or to the rule that fails. An allowance of their sum is enough, and any below it is refused by
-- 24 at the first draw beyond it
pub data Costs {A : Type 0} (m : Draws A) : Type 0 where
  gives : (a : A) (ds : List (ℕ × ℕ))
      → ((k : List (ℕ × ℕ)) → m (spent k) ≡ ok (a, spent (k ++ ds)))
      → ((n : ℕ) → drawn ds ≤ n → m (left n) ≡ ok (a, left (n - drawn ds)))
      → ((n : ℕ) → n < drawn ds → m (left n) ≡ refuse 24 (overdrawn n ds))
      → Costs m
  stops : (r at : ℕ) (ds : List (ℕ × ℕ))
      → ((k : List (ℕ × ℕ)) → m (spent k) ≡ refuse r at)
      → ((n : ℕ) → drawn ds ≤ n → m (left n) ≡ refuse r at)
      → ((n : ℕ) → n < drawn ds → m (left n) ≡ refuse 24 (overdrawn n ds))
      → Costs m

module _ {A B : Type 0} (m : Draws A) (h : A → Draws B) where
  -- the bind at a meter at which the first step is known
  after_ok : (k : Meter) {a : A} {k' : Meter} → m k ≡ ok (a, k') → (m >>= h) k ≡ h a k'
  after_ok k e = ap (λ (x : Answer (A × Meter)). and_then x (λ r. h r.0 r.1)) e

  after_refusal : (k : Meter) {r at : ℕ} → m k ≡ refuse r at → (m >>= h) k ≡ refuse r at
  after_refusal k e = ap (λ (x : Answer (A × Meter)). and_then x (λ r. h r.0 r.1)) e

  bind_costs : Costs m → ((a : A) → Costs (h a)) → Costs (m >>= h)
  bind_costs (gives a ds s e l) c = go (c a)
    where
      -- too little for the first step, or for what comes after it
      short : (es : List (ℕ × ℕ)) → ((n : ℕ) → n < drawn es → h a (left n) ≡ refuse 24 (overdrawn n es))
          → (n : ℕ) → n < drawn (ds ++ es) → (m >>= h) (left n) ≡ refuse 24 (overdrawn n (ds ++ es))
      short es l' n p = pick (dec_lt n (drawn ds))
        where
          pick : Dec (n < drawn ds) → (m >>= h) (left n) ≡ refuse 24 (overdrawn n (ds ++ es))
          pick (yes q) = rw (overdrawn_first n ds es q) (after_refusal (left n) (l n q))
          pick (no q) =
              let q' : drawn ds ≤ n = omega arith in
              let r : n - drawn ds < drawn es = omega (arith, drawn_append ds es) in
              rw (overdrawn_after n ds es q') (after_ok (left n) (e n q') ∙ l' (n - drawn ds) r)

      go : Costs (h a) → Costs (m >>= h)
      go (gives b es s' e' l') =
          gives b (ds ++ es)
          (λ k. after_ok (spent k) (s k) ∙ s' (k ++ ds) ∙ ap (λ t. ok (b, spent t)) (append_assoc k ds es))
          (λ n p. let t : drawn (ds ++ es) ≡ drawn ds + drawn es = drawn_append ds es in
          let q : n - drawn ds - drawn es ≡ n - drawn (ds ++ es) = omega arith in
          after_ok (left n) (e n (omega arith)) ∙ e' (n - drawn ds) (omega arith) ∙ ap (λ t. ok (b, left t)) q)
          (short es l')
      go (stops r at es s' e' l') =
          stops r at (ds ++ es)
          (λ k. after_ok (spent k) (s k) ∙ s' (k ++ ds))
          (λ n p. let t : drawn (ds ++ es) ≡ drawn ds + drawn es = drawn_append ds es in
          after_ok (left n) (e n (omega arith)) ∙ e' (n - drawn ds) (omega arith))
          (short es l')
  bind_costs (stops r at ds s e l) c =
      stops r at ds (λ k. after_refusal (spent k) (s k)) (λ n p. after_refusal (left n) (e n p)) (λ n p. after_refusal (left n) (l n p))

lift_costs : {A : Type 0} (x : Answer A) → Costs (lift x)
lift_costs (ok a) = gives a [] (λ k. rw (append-nil k)) (λ n p. rw (sub-zero n)) (λ n p. absurd (omega arith))
lift_costs (refuse r at) = stops r at [] (λ k. refl) (λ n p. refl) (λ n p. absurd (omega arith))

draw_costs : {A : Type 0} (d at : ℕ) (a : A) → Costs (drawing d at a)
draw_costs d at a =
    gives a ((d, at) ∷ [])
    (λ k. refl)
    (λ n p. rw (add-zero d, (leb_is d n).1 (omega arith)))
    (λ n p. rw (false_of (leb d n) (λ e. absurd (omega (arith, (leb_is d n).0 e)))))

pub desugar_costs : (env : Env Core) (e : Expr) (at : ℕ) → Costs (desugar env e at)
desugar_costs env (Plain a) at = draw_costs 1 at (leaf a)
desugar_costs env (Unary o e) at = bind_costs (desugar env e (at + 1)) _ (desugar_costs env e (at + 1)) (λ c. draw_costs 1 at (one o c))
desugar_costs env (Binary o a b) at =
    bind_costs (desugar env a (at + 1)) _ (desugar_costs env a (at + 1)) (λ c.
    bind_costs (desugar env b (at + 1 + records a)) _ (desugar_costs env b (at + 1 + records a)) (λ d.
    draw_costs (join_draw o c d) at (join o c d)))
desugar_costs env (TestNegation e) at =
    bind_costs (desugar env e (at + 1)) _ (desugar_costs env e (at + 1)) (λ c.
    bind_costs (lift (need (is_test c) 22 at)) _ (lift_costs (need (is_test c) 22 at)) (λ _.
    draw_costs (size (negate c)) at (negate c)))
desugar_costs env (IfThenElse c t e) at =
    bind_costs (desugar env c (at + 1)) _ (desugar_costs env c (at + 1)) (λ c'.
    bind_costs (desugar env t (at + 1 + records c)) _ (desugar_costs env t (at + 1 + records c)) (λ t'.
    bind_costs (desugar env e (at + 1 + records c + records t)) _ (desugar_costs env e (at + 1 + records c + records t)) (λ e'.
    bind_costs (lift (need (is_test c') 23 at)) _ (lift_costs (need (is_test c') 23 at)) (λ _.
    draw_costs (size (negate c') + 3) at (two Union (two Sequence c' t') (two Sequence (negate c') e'))))))
desugar_costs env (Let x d b) at =
    bind_costs (desugar env d (at + 1)) _ (desugar_costs env d (at + 1)) (λ c. desugar_costs (variable x c ∷ env) b (at + 1 + records d))
desugar_costs env (LetBitRange x s e b) at = desugar_costs (range x s e ∷ env) b (at + 1)
desugar_costs env (Var x) at = bind_costs (lift (bound_variable (lookup_variable env x) (lookup_alias env x) at)) _ (lift_costs (bound_variable (lookup_variable env x) (lookup_alias env x) at)) (λ c. draw_costs (size c) at c)
desugar_costs env (Ranged w u) at =
    bind_costs (lift (known_range (find_range env w) at)) _ (lift_costs (known_range (find_range env w) at)) (λ r.
    bind_costs (lift (range_rule w u r at)) _ (lift_costs (range_rule w u r at)) (λ _.
    draw_costs (size (use_core u r.0 (r.1 - r.0))) at (use_core u r.0 (r.1 - r.0))))

-- ## The limit as a threshold

ok_pair : {a b : Core} {x y : Meter} → ◌≡◌ {A = Answer (Core × Meter)} (ok (a, x)) (ok (b, y)) → (a ≡ b) × (x ≡ y)
ok_pair {a} {b} {x} {y} e = let p : ◌≡◌ {A = Core × Meter} (a, x) (b, y) = cc in (ap (λ r. r.0) p, ap (λ r. r.1) p)

same_spent : (ds es : List (ℕ × ℕ)) → spent ds ≡ spent es → ds ≡ es
same_spent ds es e = cc

same_left : (a b : ℕ) → left a ≡ left b → a ≡ b
same_left a b e = cc

apart : {r at : ℕ} {x : Core × Meter} → ◌≡◌ {A = Answer (Core × Meter)} (refuse r at) (ok x) → ⊥
apart e = let z : ◌≡◌ {A = ℕ} 0 1 = cc in absurd (omega arith)

-- the draws of a step
abbrev pub draws_of : {A : Type 0} {m : Draws A} → Costs m → List (ℕ × ℕ)
draws_of (gives a ds s g l) = ds
draws_of (stops r p ds s g l) = ds

module _ (env : Env Core) (e : Expr) (at : ℕ) where
  abbrev first : Answer (Core × Meter) → Answer Core
  first x = map_answer (λ r. r.0) x

  pub limit_of : (k : Costs (desugar env e at)) → Limit env e at (draws_of k)
  limit_of (gives a ds s g l) =
      record {
        total = λ k t c h. same_spent t (k ++ ds) (ok_pair (sym h ∙ s k)).1;
        taken = λ n m c h. pick n m c h (dec_lt n (drawn ds));
        enough = λ n k p. ap first (g n p) ∙ sym (ap first (s k));
        short = l;
      }
    where
      pick : (n m : ℕ) (c : Core) → desugar env e at (left n) ≡ ok (c, left m) → Dec (n < drawn ds) → n ≡ m + drawn ds
      pick n m c h (yes q) = absurd (apart (sym (l n q) ∙ h))
      pick n m c h (no q) =
          let z : m ≡ n - drawn ds = same_left m (n - drawn ds) (ok_pair (sym h ∙ g n (omega arith))).1 in
          omega arith
  limit_of (stops r p ds s g l) =
      record {
        total = λ k t c h. absurd (apart (sym (s k) ∙ h));
        taken = λ n m c h. absurd (pick n m c h (dec_lt n (drawn ds)));
        enough = λ n k q. ap first (g n q) ∙ sym (ap first (s k));
        short = l;
      }
    where
      pick : (n m : ℕ) (c : Core) → desugar env e at (left n) ≡ ok (c, left m) → Dec (n < drawn ds) → ⊥
      pick n m c h (yes q) = apart (sym (l n q) ∙ h)
      pick n m c h (no q) = apart (sym (g n (omega arith)) ∙ h)

  pub limit : (ds : List (ℕ × ℕ)) × Limit env e at ds
  limit = (draws_of (desugar_costs env e at), limit_of (desugar_costs env e at))

-- with enough of an allowance, a core that is made without limit is made, and its draws are taken
pub limited : (env : Env Core) (e : Expr) (at : ℕ) (c : Core) (ds : List (ℕ × ℕ)) → desugar env e at (spent []) ≡ ok (c, spent ds)
    → (n : ℕ) → drawn ds ≤ n → desugar env e at (left n) ≡ ok (c, left (n - drawn ds))
limited env e at c ds h n p = go (desugar_costs env e at)
  where
    go : Costs (desugar env e at) → desugar env e at (left n) ≡ ok (c, left (n - drawn ds))
    go (gives a es s g l) =
        let k = ok_pair (sym h ∙ s []) in
        let same : ds ≡ es = same_spent ds es k.1 in
        rw (k.0, same) (g n (subst (λ d. drawn d ≤ n) same p))
    go (stops r q es s g l) = absurd (apart (sym (s []) ∙ h))
