-- Check as one walk follows the points in walking order: it gives what Check gives.
use mathlib.Core.Path.{◌≡◌, refl, sym, ap, ◌∙◌}
use mathlib.Core.Bool.{Bool, true, false, ◌&&◌, ◌||◌}
use mathlib.Core.Option.{Option, none, some, get_or}
use mathlib.Core.List.{List, [], ◌∷◌, ◌++◌}
use Prim.Native.Nat.{ℕ, ◌+◌}
use lib.Dec.{eqb}
use Rattle.expr.specs.Answers.{Answer, and_then, map_answer, need, ok, refuse}
use Rattle.expr.specs.Operations.{is_test_use}
use Rattle.expr.specs.Terms.{Binary, Expr, IfThenElse, Let, LetBitRange, Plain, Ranged, TestNegation, Unary, Use, Var, Where, records}
use Rattle.desugar.specs.Bindings.{find_range, lookup_alias, lookup_variable, range, variable}
use Rattle.desugar.specs.Rules.{bound_variable, known_range, range_rule}
use Rattle.netkat.specs.Check.{check, first_failure, rule_at, sorts, test_range, test_sort}
use Rattle.netkat.specs.CheckWords.{check_walk}
use Rattle.netkat.specs.Points.{Point, Scope, point, walk}

then_assoc : {A B C : Type 0} (x : Answer A) (f : A → Answer B) (g : B → Answer C) → and_then (and_then x f) g ≡ and_then x (λ a. and_then (f a) g)
then_assoc (ok a) f g = refl
then_assoc (refuse r at) f g = refl

-- the rules of ps, then those of qs
pub first_failure_append : {A : Type 0} (ps qs : List Point) (a : Answer A)
    → and_then (first_failure (ps ++ qs)) (λ _. a) ≡ and_then (first_failure ps) (λ _. and_then (first_failure qs) (λ _. a))
first_failure_append [] qs a = refl
first_failure_append (p ∷ ps) qs a =
    then_assoc (rule_at p) (λ _. first_failure (ps ++ qs)) (λ _. a)
    ∙ ap (λ (y : Answer _). and_then (rule_at p) (λ _. y)) (first_failure_append ps qs a)
    ∙ sym (then_assoc (rule_at p) (λ _. first_failure ps) (λ _. and_then (first_failure qs) (λ _. a)))

-- the first failure along ps, and else b
record Follows {A : Type 0} (x : Answer A) (ps : List Point) (b : Answer A) : Type 0 where
  equation : x ≡ and_then (first_failure ps) (λ _. b)

-- a child, whose check is its rules and its sort, and then the rest
child : {A B : Type 0} {x : Answer A} {ps : List Point} {s : A} (f : A → Answer B) {qs : List Point} {b : Answer B}
    → Follows x ps (ok s) → Follows (f s) qs b → Follows (and_then x f) (ps ++ qs) b
child {ps = ps} {s = s} f {qs = qs} {b = b} e h =
    record {
      equation =
          ap (λ y. and_then y f) e.equation ∙ then_assoc (first_failure ps) (λ _. ok s) f
          ∙ ap (λ (y : Answer _). and_then (first_failure ps) (λ _. y)) h.equation ∙ sym (first_failure_append ps qs b);
    }

-- the binder's own record comes last, and has no rule
binder : {A : Type 0} {x : Answer A} {ps : List Point} {b : Answer A} (p : Point) → rule_at p ≡ ok tt → Follows x ps b → Follows x (ps ++ p ∷ []) b
binder {ps = ps} {b = b} p e h =
    record {
      equation =
          h.equation ∙ ap (λ (y : Answer (Unit {0})). and_then (first_failure ps) (λ _. and_then (and_then y (λ _. ok (tt {0}))) (λ _. b))) (sym e)
          ∙ sym (first_failure_append ps (p ∷ []) b);
    }

-- the node's own rule, which comes last
own : {B : Type 0} (p : Point) (R : Answer (Unit {0})) (b : Answer B) → rule_at p ≡ R → Follows (and_then R (λ _. b)) (p ∷ []) b
own p R b e = record { equation = ap (λ (y : Answer (Unit {0})). and_then y (λ _. b)) (sym e) ∙ sym (then_assoc (rule_at p) (λ _. ok (tt {0})) (λ _. b)) }

own_range : (w : Where) (u : Use) (o : Option (ℕ × ℕ)) (at : ℕ)
    → and_then (known_range o at) (λ r. and_then (range_rule w u r at) (λ _. ok ((is_test_use u || eqb r.0 r.1))))
    ≡ and_then (and_then (and_then (known_range o at) (λ r. range_rule w u r at)) (λ _. ok (tt {0}))) (λ _. ok (test_range u o))
own_range w u (some r) at = sym (then_assoc (range_rule w u r at) (λ _. ok (tt {0})) (λ _. ok ((is_test_use u || eqb r.0 r.1))))
own_range w u none at = refl

own_variable : (o : Option Bool) (r : Option (ℕ × ℕ)) (at : ℕ)
    → bound_variable o r at ≡ and_then (and_then (map_answer (λ _. tt {0}) (bound_variable o r at)) (λ _. ok (tt {0}))) (λ _. ok (get_or o false))
own_variable (some s) r at = refl
own_variable none (some r) at = refl
own_variable none none at = refl

check_follows : (sc : Scope) (e : Expr) (at : ℕ) → Follows (check_walk (sorts sc) e at) (walk sc e at) (ok (test_sort (sorts sc) e))
check_follows sc (Plain a) at = record { equation = refl }
check_follows sc (Unary o e) at = child _ (check_follows sc e (at + 1)) (record { equation = refl })
check_follows sc (Binary o a b) at =
    child _ (check_follows sc a (at + 1)) (child _ (check_follows sc b (at + 1 + records a)) (record { equation = refl }))
check_follows sc (TestNegation e) at =
    child _ (check_follows sc e (at + 1)) (own (point sc (TestNegation e) at) (need (test_sort (sorts sc) e) 22 at) (ok true) refl)
check_follows sc (IfThenElse c t e) at =
    child _ (check_follows sc c (at + 1))
    (child _ (check_follows sc t (at + 1 + records c))
    (child _ (check_follows sc e (at + 1 + records c + records t))
    (own (point sc (IfThenElse c t e) at) (need (test_sort (sorts sc) c) 23 at) (ok (test_sort (sorts sc) t && test_sort (sorts sc) e)) refl)))
check_follows sc (Let x d b) at =
    child _ (check_follows sc d (at + 1))
    (binder (point sc (Let x d b) at) refl (check_follows (variable x (d, at + 1) ∷ sc) b (at + 1 + records d)))
check_follows sc (LetBitRange x s e b) at = binder (point sc (LetBitRange x s e b) at) refl (check_follows (range x s e ∷ sc) b (at + 1))
check_follows sc (Var x) at = record { equation = own_variable (lookup_variable (sorts sc) x) (lookup_alias (sorts sc) x) at }
check_follows sc (Ranged w u) at = record { equation = own_range w u (find_range (sorts sc) w) at }

-- the walk gives what Check gives
pub check_is_walk : (sc : Scope) (e : Expr) (at : ℕ) → check_walk (sorts sc) e at ≡ check sc e at
check_is_walk sc e at = (check_follows sc e at).equation
