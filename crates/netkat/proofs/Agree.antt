-- Desugaring without limit and the check agree: the same refusal at the same place, or a core that is a test exactly where the
-- written term is one.
use mathlib.Core.Path.{◌≡◌, refl}
use mathlib.Core.Bool.{◌||◌}
use mathlib.Core.Option.{Option, none, some}
use mathlib.Core.List.{List, [], ◌∷◌, ◌++◌}
use Prim.Native.Nat.{ℕ, ◌+◌, ◌-◌}
use lib.Dec.{eqb}
use Rattle.expr.specs.Answers.{Answer, and_then, ok, refuse}
use Rattle.expr.specs.Operations.{is_test_use}
use Rattle.expr.specs.Terms.{Binary, Core, Expr, IfThenElse, Let, LetBitRange, Plain, Ranged, Sequence, TestNegation, Unary, Union, Use, Var, Where, leaf, one, records, size, two}
use Rattle.desugar.specs.Bindings.{Env, find_range, lookup_alias, lookup_variable, range, variable}
use Rattle.desugar.specs.Desugar.{desugar}
use Rattle.desugar.specs.Leaves.{use_core}
use Rattle.desugar.specs.Meter.{Draws, Meter, ◌>>=◌, drawing, lift, spent}
use Rattle.desugar.specs.Negation.{is_test, join, join_draw, negate}
use Rattle.desugar.specs.Rules.{bound_variable, known_range, range_rule}
use Rattle.desugar.proofs.Decides.{Decides, fails, holds, need_decides, range_decides}
use Rattle.desugar.proofs.EnvLaws.{find_range_map, lookup_alias_map, lookup_variable_map, map_env, map_option}
use Rattle.desugar.proofs.Sorts.{test_of_join, test_of_negate, test_of_use}
use Rattle.netkat.specs.CheckWords.{check_walk}

-- a result with the draws made beside what f sees of it, or one refusal beside itself
pub data Seen {A B : Type 0} (f : A → B) : Answer (A × Meter) → Answer B → Type 0 where
  seen : (a : A) (k : List (ℕ × ℕ)) → Seen f (ok (a, spent k)) (ok (f a))
  refused : (r at : ℕ) → Seen f (refuse r at) (refuse r at)

-- whatever was drawn before
abbrev pub Sees : {A B : Type 0} → (A → B) → Draws A → Answer B → Type 0
Sees f m b = (k : List (ℕ × ℕ)) → Seen f (m (spent k)) b

bind_seen : {A B C D : Type 0} {f : A → B} {g : C → D} {x : Answer (A × Meter)} {y : Answer B} (h : A → Draws C) (h' : B → Answer D)
    → Seen f x y → ((a : A) → Sees g (h a) (h' (f a))) → Seen g (and_then x (λ r. h r.0 r.1)) (and_then y h')
bind_seen h h' (seen a k) s = s a k
bind_seen h h' (refused r at) s = refused r at

bind_sees : {A B C D : Type 0} {f : A → B} {g : C → D} (m : Draws A) {y : Answer B} (h : A → Draws C) (h' : B → Answer D)
    → Sees f m y → ((a : A) → Sees g (h a) (h' (f a))) → Sees g (m >>= h) (and_then y h')
bind_sees m h h' s t k = bind_seen h h' (s k) t

draw_sees : {A B : Type 0} (f : A → B) (n at : ℕ) (a : A) {b : B} → f a ≡ b → Sees f (drawing n at a) (ok b)
draw_sees f n at a e k = rw (← e) (seen a (k ++ (n, at) ∷ []))

-- after a rule, which is known to hold from there on
rule_sees : {P : Type 0} {C D : Type 0} {g : C → D} {x : Answer (Unit {0})} (h : Draws C) (h' : Answer D)
    → Decides P tt x → (P → Sees g h h') → Sees g (lift x >>= (λ _. h)) (and_then x (λ _. h'))
rule_sees h h' (holds p) s k = s p k
rule_sees h h' (fails r at n) s k = refused r at

variable_sees : (o : Option Core) (r : Option (ℕ × ℕ)) (at : ℕ)
    → Sees is_test (lift (bound_variable o r at) >>= (λ c. drawing (size c) at c)) (bound_variable (map_option is_test o) r at)
variable_sees (some c) r at k = seen c (k ++ (size c, at) ∷ [])
variable_sees none (some r) at k = refused 13 at
variable_sees none none at k = refused 12 at

range_sees : (w : Where) (u : Use) (o : Option (ℕ × ℕ)) (at : ℕ)
    → Sees is_test
    (lift (known_range o at) >>= (λ r. lift (range_rule w u r at) >>= λ _. drawing (size (use_core u r.0 (r.1 - r.0))) at (use_core u r.0 (r.1 - r.0))))
    (and_then (known_range o at) (λ r. and_then (range_rule w u r at) (λ _. ok ((is_test_use u || eqb r.0 r.1)))))
range_sees w u (some r) at =
    rule_sees _ _ (range_decides w u r at) (λ h. draw_sees is_test _ at (use_core u r.0 (r.1 - r.0)) (test_of_use w u r h))
range_sees w u none at = λ k. refused 11 at

pub agree : (env : Env Core) (e : Expr) (at : ℕ) → Sees is_test (desugar env e at) (check_walk (map_env is_test env) e at)
agree env (Plain a) at = draw_sees is_test 1 at (leaf a) refl
agree env (Unary o e) at = bind_sees (desugar env e (at + 1)) _ _ (agree env e (at + 1)) (λ c. draw_sees is_test 1 at (one o c) refl)
agree env (Binary o a b) at =
    bind_sees (desugar env a (at + 1)) _ _ (agree env a (at + 1)) (λ c.
    bind_sees (desugar env b (at + 1 + records a)) _ _ (agree env b (at + 1 + records a)) (λ d.
    draw_sees is_test (join_draw o c d) at (join o c d) (test_of_join o c d)))
agree env (TestNegation e) at =
    bind_sees (desugar env e (at + 1)) _ _ (agree env e (at + 1)) (λ c.
    rule_sees _ _ (need_decides (is_test c) 22 at) (λ h. draw_sees is_test (size (negate c)) at (negate c) (test_of_negate c h)))
agree env (IfThenElse c t e) at =
    bind_sees (desugar env c (at + 1)) _ _ (agree env c (at + 1)) (λ c'.
    bind_sees (desugar env t (at + 1 + records c)) _ _ (agree env t (at + 1 + records c)) (λ t'.
    bind_sees (desugar env e (at + 1 + records c + records t)) _ _ (agree env e (at + 1 + records c + records t)) (λ e'.
    rule_sees _ _ (need_decides (is_test c') 23 at) (λ h.
    draw_sees is_test (size (negate c') + 3) at (two Union (two Sequence c' t') (two Sequence (negate c') e')) (rw (h, test_of_negate c' h))))))
agree env (Let x d b) at = bind_sees (desugar env d (at + 1)) _ _ (agree env d (at + 1)) (λ c. agree (variable x c ∷ env) b (at + 1 + records d))
agree env (LetBitRange x s e b) at = agree (range x s e ∷ env) b (at + 1)
agree env (Var x) at =
    rw (lookup_variable_map is_test env x, lookup_alias_map is_test env x) (variable_sees (lookup_variable env x) (lookup_alias env x) at)
agree env (Ranged w u) at = rw (find_range_map is_test env w) (range_sees w u (find_range env w) at)
