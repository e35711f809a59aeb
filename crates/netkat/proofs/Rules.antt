-- Where the rules hold at every record, Check succeeds, and nowhere else.
use mathlib.Core.Path.{◌≡◌, refl, ap, ◌∙◌}
use mathlib.Core.Logic.{◌⊎◌, inl, inr, ◌↔◌}
use mathlib.Core.Bool.{Bool}
use mathlib.Core.List.Memᴰ
use mathlib.Core.List.{List, [], ◌∷◌, ◌++◌, Memᴰ}
use Prim.Native.Nat.{ℕ}
use native.Mathlib.Omega.{arith}
use Rattle.expr.specs.Answers.{Answer, and_then, ok, refuse}
use Rattle.expr.specs.Terms.{Expr}
use Rattle.netkat.specs.Check.{RulesHold, check, first_failure, rule_at, sorts, test_sort}
use Rattle.netkat.specs.Points.{Point, Scope, walk}

-- the same number and place, as an answer of another kind
pub same_refusal : {A B : Type 0} {q m k p : ℕ} → ◌≡◌ {A = Answer A} (refuse q m) (refuse k p) → ◌≡◌ {A = Answer B} (refuse q m) (refuse k p)
same_refusal {A} {B} {q} {m} {k} {p} e = let a : q ≡ k = cc in let b : m ≡ p = cc in λ i. refuse (a i) (b i)

pub then_same : {A : Type 0} (x : Answer A) → and_then x (λ a. ok a) ≡ x
then_same (ok a) = refl
then_same (refuse r at) = refl

-- the first failure is none exactly where no rule fails
pub none_fails : (ps : List Point) → (first_failure ps ≡ ok tt) ↔ RulesHold ps
none_fails [] = ((λ e p m. absurd (Memᴰ.not-nil m)), (λ h. refl))
none_fails (q ∷ ps) = (
  there (rule_at q) refl (none_fails ps).0,
  λ h. ap (λ (y : Answer (Unit {0})). and_then y (λ _. first_failure ps)) (h q (Memᴰ.head refl)) ∙ (none_fails ps).1 (λ p m. h p (Memᴰ.tail m)),
)
  where
    there : (x : Answer (Unit {0})) → rule_at q ≡ x → (first_failure ps ≡ ok tt → RulesHold ps)
        → and_then x (λ _. first_failure ps) ≡ ok tt → RulesHold (q ∷ ps)
    there (ok t) e f k p m = pick (Memᴰ.cases_cons m)
      where
        pick : (p ≡ q) ⊎ Memᴰ p ps → rule_at p ≡ ok tt
        pick (inl z) = ap rule_at z ∙ e
        pick (inr n) = f k p n
    there (refuse r at) e f k p m = let z : ◌≡◌ {A = ℕ} 0 1 = cc in absurd (omega arith)

-- the rules of two lists of records
pub rules_append : (ps qs : List Point) → RulesHold (ps ++ qs) ↔ (RulesHold ps × RulesHold qs)
rules_append ps qs = (
  (λ h. ((λ p m. h p (Memᴰ.append_left qs m)), (λ p m. h p (Memᴰ.append_right ps m)))),
  (λ h p m. pick h p (Memᴰ.append_cases ps m)),
)
  where
    pick : RulesHold ps × RulesHold qs → (p : Point) → Memᴰ p ps ⊎ Memᴰ p qs → rule_at p ≡ ok tt
    pick h p (inl m) = h.0 p m
    pick h p (inr m) = h.1 p m

-- an answer behind a rule is a success exactly where the rule holds
pub behind_rule : {A : Type 0} {a b : A} (x : Answer (Unit {0})) → and_then x (λ _. ok a) ≡ ok b → (x ≡ ok tt) × (b ≡ a)
behind_rule (ok t) e = (refl, cc)
behind_rule (refuse r at) e = let z : ◌≡◌ {A = ℕ} 0 1 = cc in absurd (omega arith)

-- Check succeeds exactly where the rules hold at each record, and then says whether the term is a test
pub check_succeeds : (sc : Scope) (e : Expr) (at : ℕ) → (check sc e at ≡ ok (test_sort (sorts sc) e)) ↔ RulesHold (walk sc e at)
check_succeeds sc e at = (
  (λ h. (none_fails (walk sc e at)).0 (behind_rule (first_failure (walk sc e at)) h).0),
  (λ h. ap (λ (y : Answer (Unit {0})). and_then y (λ _. ok (test_sort (sorts sc) e))) ((none_fails (walk sc e at)).1 h)),
)

-- and gives nothing else
pub check_sort : (sc : Scope) (e : Expr) (at : ℕ) (s : Bool) → check sc e at ≡ ok s → s ≡ test_sort (sorts sc) e
check_sort sc e at s h = (behind_rule (first_failure (walk sc e at)) h).1
