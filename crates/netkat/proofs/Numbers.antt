-- Which numbers refusals have.
use mathlib.Core.Path.{sym, subst}
use mathlib.Core.Bool.{Bool, true, false, ◌&&◌}
use mathlib.Core.Option.{Option, none, some}
use mathlib.Core.List.{List, [], ◌∷◌, ◌++◌}
use Prim.Native.Nat.{ℕ, ◌-◌, ◌≤◌}
use native.Mathlib.Omega.{arith}
use lib.Dec.{leb, eqb}
use lib.ListN.{length}
use Rattle.literals.specs.Bits.{Bits, value_of}
use Rattle.literals.specs.Patterns.{Cidr, Exact, IpRange, Pattern, Wildcard}
use Rattle.expr.specs.Answers.{Answer, and_then, map_answer, need, ok, refuse}
use Rattle.expr.specs.Terms.{Alias, Assigns, Binary, Direct, Expr, IfThenElse, Let, LetBitRange, Matches, Plain, Ranged, TestNegation, Tests, Unary, Use, Var, Where}
use Rattle.desugar.specs.Bindings.{Env, find_range, lookup_alias, lookup_variable}
use Rattle.desugar.specs.Negation.{is_test}
use Rattle.desugar.specs.Rules.{bound_variable, known_range, literal_rule, max_range_bits, pattern_rule, range_rule, use_rule}
use Rattle.netkat.specs.Check.{first_failure, record_rule, rule_at, sorts, test_sort}
use Rattle.netkat.specs.Points.{Point, Scope, definitions, desugar_at, walk}
use Rattle.netkat.proofs.AtPoint.{desugar_at_answers}

-- a refusal's number is one from m to n
abbrev pub Numbered : {A : Type 0} → ℕ → ℕ → Answer A → Type 0
Numbered m n (ok a) = Unit {0}
Numbered m n (refuse r at) = (m ≤ r) × (r ≤ n)

module _ (m n : ℕ) where
  numbered_then : {A B : Type 0} (x : Answer A) (f : A → Answer B) → Numbered m n x → ((a : A) → Numbered m n (f a)) → Numbered m n (and_then x f)
  numbered_then (ok a) f h k = k a
  numbered_then (refuse r at) f h k = h

  numbered_map : {A B : Type 0} (f : A → B) (x : Answer A) → Numbered m n x → Numbered m n (map_answer f x)
  numbered_map f (ok a) h = tt
  numbered_map f (refuse r at) h = h

  numbered_need : (b : Bool) (r at : ℕ) → m ≤ r → r ≤ n → Numbered m n (need b r at)
  numbered_need true r at h k = tt
  numbered_need false r at h k = (h, k)

abbrev Rule : {A : Type 0} → Answer A → Type 0
Rule x = Numbered 11 23 x

literal_numbers : (w : Where) (a : Bits) (n at : ℕ) → Rule (literal_rule w a n at)
literal_numbers (Direct s e) a n at = numbered_need 11 23 (eqb (length a) n) 16 at (omega arith) (omega arith)
literal_numbers (Alias x) a n at = numbered_need 11 23 (leb (length a) n) 15 at (omega arith) (omega arith)

pattern_numbers : (m : Pattern) (n at : ℕ) → Rule (pattern_rule m n at)
pattern_numbers (Exact a) n at = numbered_need 11 23 (leb (length a) n) 15 at (omega arith) (omega arith)
pattern_numbers (Cidr a k) n at =
    numbered_then 11 23 (need (leb k n) 17 at) _ (numbered_need 11 23 (leb k n) 17 at (omega arith) (omega arith)) (λ _.
    numbered_need 11 23 (eqb (length a) n) 18 at (omega arith) (omega arith))
pattern_numbers (Wildcard a m) n at = numbered_need 11 23 (eqb (length a) n && eqb (length m) n) 19 at (omega arith) (omega arith)
pattern_numbers (IpRange a b) n at =
    let fits : Bool = leb n max_range_bits && leb (length a) n && leb (length b) n in
    numbered_then 11 23 (need fits 20 at) _ (numbered_need 11 23 fits 20 at (omega arith) (omega arith)) (λ _.
    numbered_need 11 23 (leb (value_of a) (value_of b)) 21 at (omega arith) (omega arith))

use_numbers : (w : Where) (u : Use) (n at : ℕ) → Rule (use_rule w u n at)
use_numbers w (Assigns a) n at = literal_numbers w a n at
use_numbers w (Tests a) n at = literal_numbers w a n at
use_numbers w (Matches m) n at = pattern_numbers m n at

range_numbers : (w : Where) (u : Use) (o : Option (ℕ × ℕ)) (at : ℕ) → Rule (and_then (known_range o at) λ r. range_rule w u r at)
range_numbers w u (some r) at =
    numbered_then 11 23 (need (leb r.0 r.1) 14 at) _ (numbered_need 11 23 (leb r.0 r.1) 14 at (omega arith) (omega arith)) (λ _. use_numbers w u (r.1 - r.0) at)
range_numbers w u none at = (omega arith, omega arith)

variable_numbers : (o : Option Bool) (r : Option (ℕ × ℕ)) (at : ℕ) → Rule (map_answer (λ _. tt {0}) (bound_variable o r at))
variable_numbers (some s) r at = tt
variable_numbers none (some r) at = (omega arith, omega arith)
variable_numbers none none at = (omega arith, omega arith)

record_numbers : (env : Env Bool) (e : Expr) (at : ℕ) → Rule (record_rule env e at)
record_numbers env (Plain a) at = tt
record_numbers env (Unary o e) at = tt
record_numbers env (Binary o a b) at = tt
record_numbers env (TestNegation e) at = numbered_need 11 23 (test_sort env e) 22 at (omega arith) (omega arith)
record_numbers env (IfThenElse c t e) at = numbered_need 11 23 (test_sort env c) 23 at (omega arith) (omega arith)
record_numbers env (Let x d b) at = tt
record_numbers env (LetBitRange x s e b) at = tt
record_numbers env (Var x) at = variable_numbers (lookup_variable env x) (lookup_alias env x) at
record_numbers env (Ranged w u) at = range_numbers w u (find_range env w) at

pub failure_numbers : (ps : List Point) → Rule (first_failure ps)
failure_numbers [] = tt
failure_numbers (p ∷ ps) =
    numbered_then 11 23 (rule_at p) (λ _. first_failure ps) (record_numbers (sorts p.scope) p.term p.place) (λ _. failure_numbers ps)

unmapped : {A B : Type 0} (f : A → B) (x : Answer A) → Rule (map_answer f x) → Rule x
unmapped f (ok a) h = tt
unmapped f (refuse r at) h = h

-- desugaring at a point is refused by a rule, 11 to 23, or not at all
pub desugar_at_numbers : (sc : Scope) (e : Expr) (at : ℕ) → Numbered 11 23 (desugar_at sc e at)
desugar_at_numbers sc e at =
    unmapped is_test (desugar_at sc e at)
    (subst (λ (y : Answer Bool). Numbered 11 23 y) (sym (desugar_at_answers sc e at))
    (numbered_then 11 23 (first_failure (definitions sc ++ walk sc e at)) (λ _. ok (test_sort (sorts sc) e))
    (failure_numbers (definitions sc ++ walk sc e at)) (λ _. tt)))
