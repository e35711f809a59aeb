-- The check: rules 11 to 23 by the written term alone (document 01, "Test sort" and "Check").
use mathlib.Core.{Path.◌≡◌, Bool.Bool, Bool.true, Bool.false, Bool.◌&&◌, Bool.◌||◌, Option.Option, Option.none, Option.some, Option.get_or, List.List, List.[], List.◌∷◌, List.Memᴰ}
use Rattle.std.specs.Prelude.{ℕ}
use lib.{Dec.eqb}
use Rattle.expr.specs.{Answers.Answer, Answers.ok, Answers.and_then, Answers.map_answer, Answers.need, Terms.Use, Terms.Expr, Terms.Plain, Terms.Unary, Terms.Binary, Terms.TestNegation, Terms.IfThenElse, Terms.Let, Terms.LetBitRange, Terms.Var, Terms.Ranged, Terms.atom_kind, Terms.op2_kind, Terms.test_kind, Form.decode, Operations.is_test_use}
use Rattle.desugar.specs.{Bindings.Env, Bindings.variable, Bindings.range, Bindings.lookup_variable, Bindings.lookup_alias, Bindings.find_range, Rules.known_range, Rules.bound_variable, Rules.range_rule}
use Rattle.netkat.specs.{Points.Scope, Points.Point, Points.walk}

-- "tests, matches .. are tests; so is a range or alias assignment of width 0"
abbrev pub test_range : Use → Option (ℕ × ℕ) → Bool
test_range u (some r) = is_test_use u || eqb r.0 r.1
test_range u none = is_test_use u

-- "Test sort: Zero, One, tests, matches and negations are tests; ..": given which variables around are tests
abbrev pub test_sort : Env Bool → Expr → Bool
test_sort env (Plain a) = test_kind (atom_kind a)
test_sort env (Unary o e) = false
test_sort env (Binary o a b) = test_kind (op2_kind o) && (test_sort env a && test_sort env b)
test_sort env (TestNegation e) = true
test_sort env (IfThenElse c t e) = test_sort env t && test_sort env e
test_sort env (Let x d b) = test_sort (variable x (test_sort env d) ∷ env) b
test_sort env (LetBitRange x s e b) = test_sort (range x s e ∷ env) b
test_sort env (Var x) = get_or (lookup_variable env x) false
test_sort env (Ranged w u) = test_range u (find_range env w)

-- which variables around a point are tests
abbrev pub sorts : Scope → Env Bool
sorts [] = []
sorts (variable x d ∷ sc) = variable x (test_sort (sorts sc) d.0) ∷ sorts sc
sorts (range x s e ∷ sc) = range x s e ∷ sorts sc

-- a record's own rules. "22 negation of a non-test. 23 if-condition not a test."
abbrev pub record_rule : Env Bool → Expr → ℕ → Answer (Unit {0})
record_rule env (Plain a) at = ok tt
record_rule env (Unary o e) at = ok tt
record_rule env (Binary o a b) at = ok tt
record_rule env (TestNegation e) at = need (test_sort env e) 22 at
record_rule env (IfThenElse c t e) at = need (test_sort env c) 23 at
record_rule env (Let x d b) at = ok tt
record_rule env (LetBitRange x s e b) at = ok tt
record_rule env (Var x) at = map_answer (λ _. tt {0}) (bound_variable (lookup_variable env x) (lookup_alias env x) at)
record_rule env (Ranged w u) at = and_then (known_range (find_range env w) at) λ r. range_rule w u r at

-- "A rule at a record is judged under the bindings around that record and by the test sort above."
abbrev pub rule_at : Point → Answer (Unit {0})
rule_at p = record_rule (sorts p.scope) p.term p.place

-- rules 11 to 23 hold at each of the records. "A definition passes if rules 11 to 23 hold at each of its records."
abbrev pub RulesHold : List Point → Type 0
RulesHold ps = (p : Point) → Memᴰ p ps → rule_at p ≡ ok tt

-- "where one of 11 to 23 first fails"
abbrev pub first_failure : List Point → Answer (Unit {0})
first_failure [] = ok tt
first_failure (p ∷ ps) = and_then (rule_at p) λ _. first_failure ps

-- "The check goes by this sort of the written term and makes no core": the first rule that fails, or whether the term is a test
abbrev pub check : Scope → Expr → ℕ → Answer Bool
check sc e at = and_then (first_failure (walk sc e at)) λ _. ok (test_sort (sorts sc) e)

-- "Check (added): form, then the rules 11 to 23 below. Success says whether the term is a test."
abbrev pub check_bytes : List ℕ → Answer Bool
check_bytes bs = and_then (decode bs) λ e. check [] e 0
