-- Desugaring at a point, beside the rules at its records and the written meaning.
use mathlib.Core.Path.{◌≡◌, refl, sym, ap, subst, ◌∙◌}
use mathlib.Core.Logic.Iff
use mathlib.Core.Logic.{◌↔◌}
use mathlib.Core.Bool.{Bool}
use mathlib.Core.List.{List, [], ◌∷◌, ◌++◌}
use Prim.Native.Nat.{ℕ}
use native.Mathlib.Omega.{arith}
use Rattle.expr.specs.Answers.{Answer, and_then, map_answer, ok, refuse}
use Rattle.expr.specs.Terms.{Core, Expr}
use Rattle.desugar.specs.Bindings.{Env, range, variable}
use Rattle.desugar.specs.Desugar.{desugar}
use Rattle.desugar.specs.Meter.{Meter, spent}
use Rattle.desugar.specs.Negation.{is_test}
use Rattle.desugar.specs.Packets.{OneStep, Others, Relation, core_means, means}
use Rattle.desugar.proofs.EnvLaws.{map_env}
use Rattle.desugar.proofs.Sound.{EnvMeans, IfOk, desugar_means, nothing, ranges, variables}
use Rattle.desugar.proofs.Tests.{◌≈◌}
use Rattle.netkat.specs.Check.{RulesHold, check, first_failure, sorts, test_sort}
use Rattle.netkat.specs.Points.{Point, Scope, cores, definitions, desugar_at, meanings, means_at, one_steps, walk}
use Rattle.netkat.proofs.Agree.{Seen, agree, refused, seen}
use Rattle.netkat.proofs.CheckWalk.{check_is_walk, first_failure_append}
use Rattle.netkat.proofs.Rules.{behind_rule, none_fails, rules_append, same_refusal, then_same}

-- ## The cores of the variables around

-- the cores of the variables around a point: made where the rules hold at each record of each definition, else refused by the first
-- that fails
data Cored (sc : Scope) : Answer (Env Core) → Type 0 where
  made : (env : Env Core) → first_failure (definitions sc) ≡ ok tt → map_env is_test env ≡ sorts sc → Cored sc (ok env)
  failed : (r at : ℕ) → first_failure (definitions sc) ≡ refuse r at → Cored sc (refuse r at)

-- the rules of the definitions around, then those of the records that follow
around : {A : Type 0} (ps qs : List Point) (a : Answer A) {x : Answer (Unit {0})} → first_failure ps ≡ x
    → and_then (first_failure (ps ++ qs)) (λ _. a) ≡ and_then x (λ _. and_then (first_failure qs) (λ _. a))
around ps qs a e = first_failure_append ps qs a ∙ ap (λ (y : Answer (Unit {0})). and_then y (λ _. and_then (first_failure qs) (λ _. a))) e

pub refusal_of : {A : Type 0} (s : A) {r at : ℕ} (x : Answer (Unit {0})) → and_then x (λ _. ok s) ≡ refuse r at → x ≡ refuse r at
refusal_of s (ok t) e = let z : ◌≡◌ {A = ℕ} 0 1 = cc in absurd (omega arith)
refusal_of s (refuse q p) e = same_refusal e

-- desugaring under cores that have the sorts of the variables around goes as Check does
pub seen_at : (sc : Scope) (env : Env Core) (e : Expr) (at : ℕ) → map_env is_test env ≡ sorts sc → Seen is_test (desugar env e at (spent [])) (check sc e at)
seen_at sc env e at s = rw (s, check_is_walk sc e at) at (agree env e at [])

cored : (sc : Scope) → Cored sc (cores sc)
cored [] = made [] refl refl
cored (range x s e ∷ sc) = go (cored sc)
  where
    go : {y : Answer (Env Core)} → Cored sc y → Cored (range x s e ∷ sc) (and_then y λ env. ok (range x s e ∷ env))
    go (made env f q) = made (range x s e ∷ env) f (λ i. range x s e ∷ q i)
    go (failed r at f) = failed r at f
cored (variable x d ∷ sc) = go (cored sc)
  where
    both : {y : Answer (Unit {0})} → first_failure (definitions sc) ≡ y
        → first_failure (definitions sc ++ walk sc d.0 d.1) ≡ and_then y (λ _. first_failure (walk sc d.0 d.1))
    both {y} f =
        sym (then_same (first_failure (definitions sc ++ walk sc d.0 d.1)))
        ∙ around (definitions sc) (walk sc d.0 d.1) (ok (tt {0})) f
        ∙ ap (λ (z : Answer (Unit {0})). and_then y (λ _. z)) (then_same (first_failure (walk sc d.0 d.1)))

    own : (env : Env Core) → first_failure (definitions sc) ≡ ok tt → map_env is_test env ≡ sorts sc
        → {y : Answer (Core × Meter)} {z : Answer Bool} → Seen is_test y z → z ≡ check sc d.0 d.1
        → Cored (variable x d ∷ sc) (and_then y λ r. ok (variable x r.0 ∷ env))
    own env f q (seen c k) e =
        let h : (first_failure (walk sc d.0 d.1) ≡ ok tt) × (is_test c ≡ test_sort (sorts sc) d.0) =
        behind_rule (first_failure (walk sc d.0 d.1)) (sym e) in
        made (variable x c ∷ env) (both f ∙ h.0) (λ i. variable x (h.1 i) ∷ q i)
    own env f q (refused r at) e = failed r at (both f ∙ refusal_of (test_sort (sorts sc) d.0) (first_failure (walk sc d.0 d.1)) (sym e))

    go : {y : Answer (Env Core)} → Cored sc y
        → Cored (variable x d ∷ sc) (and_then y λ env. and_then (desugar env d.0 d.1 (spent [])) λ r. ok (variable x r.0 ∷ env))
    go (made env f q) = own env f q (seen_at sc env d.0 d.1 q) refl
    go (failed r at f) = failed r at (both f)

-- ## The answer at a point

pub seen_answer : {x : Answer (Core × Meter)} {y : Answer Bool} → Seen is_test x y → map_answer is_test (map_answer (λ r. r.0) x) ≡ y
seen_answer (seen a k) = refl
seen_answer (refused r at) = refl

-- refused by the first rule that fails, of the definitions around and then of the subterm's own records; else a core that is a test
-- exactly where the subterm is of that sort
pub desugar_at_answers : (sc : Scope) (e : Expr) (at : ℕ)
    → map_answer is_test (desugar_at sc e at) ≡ and_then (first_failure (definitions sc ++ walk sc e at)) (λ _. ok (test_sort (sorts sc) e))
desugar_at_answers sc e at = go (cored sc)
  where
    go : {y : Answer (Env Core)} → Cored sc y
        → map_answer is_test (and_then y λ env. map_answer (λ r. r.0) (desugar env e at (spent [])))
        ≡ and_then (first_failure (definitions sc ++ walk sc e at)) (λ _. ok (test_sort (sorts sc) e))
    go (made env f q) = seen_answer (seen_at sc env e at q) ∙ sym (around (definitions sc) (walk sc e at) (ok (test_sort (sorts sc) e)) f)
    go (failed r p f) = sym (around (definitions sc) (walk sc e at) (ok (test_sort (sorts sc) e)) f)

-- it succeeds exactly where the definitions around pass and the rules hold at each record of the subterm
pub desugar_at_succeeds : (sc : Scope) (e : Expr) (at : ℕ)
    → ((c : Core) × (desugar_at sc e at ≡ ok c)) ↔ (RulesHold (definitions sc) × RulesHold (walk sc e at))
desugar_at_succeeds sc e at = Iff.trans (
  (λ h. (behind_rule (first_failure ps) (sym (desugar_at_answers sc e at) ∙ ap (map_answer is_test) h.1)).0),
  (λ h. back (desugar_at sc e at) refl
      (desugar_at_answers sc e at ∙ ap (λ (y : Answer (Unit {0})). and_then y (λ _. ok (test_sort (sorts sc) e))) h)),
)
    (Iff.trans (none_fails ps) (rules_append (definitions sc) (walk sc e at)))
  where
    ps : List Point
    ps = definitions sc ++ walk sc e at

    back : (x : Answer Core) → desugar_at sc e at ≡ x → map_answer is_test x ≡ ok (test_sort (sorts sc) e) → (c : Core) × (desugar_at sc e at ≡ ok c)
    back (ok c) p q = (c, p)
    back (refuse r at) p q = let z : ◌≡◌ {A = ℕ} 0 1 = cc in absurd (omega arith)

-- ## The meaning at a point

pub then_ok : {A B : Type 0} (x : Answer A) (f : A → Answer B) (b : B) → and_then x f ≡ ok b → (a : A) × (x ≡ ok a) × (f a ≡ ok b)
then_ok (ok a) f b h = (a, refl, h)
then_ok (refuse r at) f b h = let z : ◌≡◌ {A = ℕ} 0 1 = cc in absurd (omega arith)

module _ (others : Others) where
  core_means_fact : (cs : Env Core) (Rs : Env Relation) (Ps : Env (Type 0)) (e : Expr) (at : ℕ) (r : Core × Meter) → EnvMeans others cs Rs Ps
      → desugar cs e at (spent []) ≡ ok r → OneStep Ps e → core_means others r.0 ≈ means others Rs e
  core_means_fact cs Rs Ps e at r hs h =
      subst (IfOk (λ c. OneStep Ps e → core_means others c ≈ means others Rs e)) h (desugar_means others hs e at (spent []))

  cores_mean : (sc : Scope) (env : Env Core) → cores sc ≡ ok env → EnvMeans others env (meanings others sc) (one_steps sc)
  cores_mean [] env h = let e : env ≡ [] = cc in rw e nothing
  cores_mean (range x s e ∷ sc) env h =
      let k = then_ok (cores sc) (λ env. ok (range x s e ∷ env)) env h in
      let q : env ≡ range x s e ∷ k.0 = cc k.2 in
      rw q (ranges (cores_mean sc k.0 k.1))
  cores_mean (variable x d ∷ sc) env h =
      let k = then_ok (cores sc) (λ env. and_then (desugar env d.0 d.1 (spent [])) λ r. ok (variable x r.0 ∷ env)) env h in
      let l = then_ok (desugar k.0 d.0 d.1 (spent [])) (λ r. ok (variable x r.0 ∷ k.0)) env k.2 in
      let q : env ≡ variable x l.0.0 ∷ k.0 = cc l.2 in
      let hs : EnvMeans others k.0 (meanings others sc) (one_steps sc) = cores_mean sc k.0 k.1 in
      rw q (variables (core_means_fact k.0 (meanings others sc) (one_steps sc) d.0 d.1 l.0 hs l.1) hs)

  -- where it succeeds, the core relates the packets that the written subterm relates
  pub desugar_at_means : (sc : Scope) (e : Expr) (at : ℕ) → OneStep (one_steps sc) e → (c : Core) → desugar_at sc e at ≡ ok c
      → core_means others c ≈ means_at others sc e
  desugar_at_means sc e at o c h =
      let k = then_ok (cores sc) (λ env. map_answer (λ r. r.0) (desugar env e at (spent []))) c h in
      go (desugar k.0 e at (spent [])) refl (cores_mean sc k.0 k.1) k.2
    where
      go : {env : Env Core} (x : Answer (Core × Meter)) → desugar env e at (spent []) ≡ x → EnvMeans others env (meanings others sc) (one_steps sc)
          → map_answer (λ r. r.0) x ≡ ok c → core_means others c ≈ means_at others sc e
      go {env} (ok r) p hs q = let z : r.0 ≡ c = cc in rw (← z) (core_means_fact env (meanings others sc) (one_steps sc) e at r hs p o)
      go (refuse r at) p hs q = let z : ◌≡◌ {A = ℕ} 0 1 = cc in absurd (omega arith)
