-- Check in code: the words of the contracts of src/check.rt.
use mathlib.Core.{Path.◌≡◌, Bool.Bool, Bool.true, Bool.false, Bool.◌&&◌, Bool.◌||◌, List.List, List.[], List.◌∷◌}
use Rattle.std.specs.Prelude.{ℕ, ◌+◌, ◌*◌, ◌^◌, ◌≤◌, ◌<◌, Result, Ok, Err}
use lib.{Dec.eqb, ListN.length, ListN.drop}
use Rattle.expr.specs.{Answers.Answer, Answers.ok, Answers.refuse, Answers.and_then, Answers.need, Terms.Zero, Terms.Top, Terms.Core, Terms.leaf, Terms.Expr, Terms.Plain, Terms.Unary, Terms.Binary, Terms.TestNegation, Terms.IfThenElse, Terms.Let, Terms.LetBitRange, Terms.Var, Terms.Ranged, Terms.atom_kind, Terms.op2_kind, Terms.test_kind, Terms.records, Terms.depth, Form.decode, Form.encode, Form.max_depth, Replaced.encode_all, Operations.is_test_use}
use Rattle.refusals.specs.Refusals.{number_of}
use Rattle.refusals.specs.declared.Refused.{Refused}
use Rattle.desugar.specs.{Bindings.Env, Bindings.variable, Bindings.range, Bindings.lookup_variable, Bindings.lookup_alias, Bindings.find_range, Rules.known_range, Rules.bound_variable, Rules.range_rule, Memory.Kept, BindingWords.Bound, WalkWords.TermAt, WalkWords.TermsAt}
use Rattle.netkat.specs.declared.check.Sorted.{Sorted}
use Rattle.netkat.specs.declared.check.Spot.{Spot}

-- ## Check as one walk

-- the children from left to right, then the node's own rules, under which variables around are tests: the first rule that fails, or
-- whether the term is a test. It makes no list of points; that it gives what `check` gives is proved in proofs/CheckWalk.antt
abbrev pub check_walk : Env Bool → Expr → ℕ → Answer Bool
check_walk env (Plain a) at = ok (test_kind (atom_kind a))
check_walk env (Unary o e) at = and_then (check_walk env e (at + 1)) λ _. ok false
check_walk env (Binary o a b) at =
    and_then (check_walk env a (at + 1)) λ s.
    and_then (check_walk env b (at + 1 + records a)) λ t.
    ok (test_kind (op2_kind o) && (s && t))
check_walk env (TestNegation e) at =
    and_then (check_walk env e (at + 1)) λ s.
    and_then (need s 22 at) λ _.
    ok true
check_walk env (IfThenElse c t e) at =
    and_then (check_walk env c (at + 1)) λ s.
    and_then (check_walk env t (at + 1 + records c)) λ s₁.
    and_then (check_walk env e (at + 1 + records c + records t)) λ s₂.
    and_then (need s 23 at) λ _.
    ok (s₁ && s₂)
check_walk env (Let x d b) at =
    and_then (check_walk env d (at + 1)) λ s.
    check_walk (variable x s ∷ env) b (at + 1 + records d)
check_walk env (LetBitRange x s e b) at = check_walk (range x s e ∷ env) b (at + 1)
check_walk env (Var x) at = bound_variable (lookup_variable env x) (lookup_alias env x) at
check_walk env (Ranged w u) at =
    and_then (known_range (find_range env w) at) λ r.
    and_then (range_rule w u r at) λ _.
    ok (is_test_use u || eqb r.0 r.1)

-- ## Bindings

-- whether a variable is a test is kept as a core of one record: Zero, which is a test, or Top, which is none
abbrev pub sort_kind : Bool → ℕ
sort_kind true = 0
sort_kind false = 2

abbrev pub sort_core : Bool → Core
sort_core true = leaf Zero
sort_core false = leaf Top

-- the bindings as they lie in memory
abbrev pub flags : Env Bool → Env Core
flags [] = []
flags (variable x s ∷ env) = variable x (sort_core s) ∷ flags env
flags (range x s e ∷ env) = range x s e ∷ flags env

-- below the top lie the bindings; above it there is room for a variable at each level: the record of its sort and its frame
pub record Frames (xs : List ℕ) (last top levels : ℕ) (env : Env Bool) : Type 0 where
  pub bound : Bound xs last (flags env)
  pub below : last ≤ top
  pub room : top + 8 * levels ≤ length xs
  pub small : top + 8 * levels < 2 ^ 32

-- ## What is asked

-- of a term that begins at a byte
pub record CheckReady (s : List ℕ) (at levels place last top : ℕ) (xs : List ℕ) : Type 0 where
  pub term : Expr
  pub env : Env Bool
  pub start : at ≤ length s
  pub text : TermAt (drop at s) levels place term
  pub frames : Frames xs last top levels env

-- of a whole term: it has good form and at most so many levels, and their bindings have room
pub record CheckRoom (s : List ℕ) (levels : ℕ) (xs : List ℕ) : Type 0 where
  pub term : Expr
  pub reads : decode s ≡ ok term
  pub deep : depth term ≤ levels
  pub few : levels ≤ max_depth
  pub room : 8 * levels ≤ length xs

-- of a term's children, behind its record, which has the index place
pub record CheckOne (s : List ℕ) (from levels place last top : ℕ) (xs : List ℕ) : Type 0 where
  pub first : Expr
  pub env : Env Bool
  pub text : TermsAt s from levels (place + 1) (first ∷ [])
  pub frames : Frames xs last top (levels + 1) env

pub record CheckTwo (s : List ℕ) (from levels place last top : ℕ) (xs : List ℕ) : Type 0 where
  pub first : Expr
  pub second : Expr
  pub env : Env Bool
  pub text : TermsAt s from levels (place + 1) (first ∷ second ∷ [])
  pub frames : Frames xs last top (levels + 1) env

pub record CheckThree (s : List ℕ) (from levels place last top : ℕ) (xs : List ℕ) : Type 0 where
  pub first : Expr
  pub second : Expr
  pub third : Expr
  pub env : Env Bool
  pub text : TermsAt s from levels (place + 1) (first ∷ second ∷ third ∷ [])
  pub frames : Frames xs last top (levels + 1) env

-- ## What is answered

-- a walk found a sort: x is its definition's answer. Nothing below the top has changed
pub record SortedAs (x : Answer Bool) (used next top : ℕ) (xs xs' : List ℕ) (w : Sorted) : Type 0 where
  pub is : x ≡ ok w.test
  pub used_is : w.used ≡ used
  pub next_is : w.next ≡ next
  pub kept : Kept top xs xs'

-- r is the definition's answer x: the index of the byte behind the term, the index of the record behind it, and the sort; or the refusal
abbrev pub CheckedAs : Answer Bool → (used next top : ℕ) → (xs xs' : List ℕ) → Result Sorted Refused → Type 0
CheckedAs x used next top xs xs' (Ok w) = SortedAs x used next top xs xs' w
CheckedAs x used next top xs xs' (Err e) = x ≡ refuse (number_of e.refusal) e.place

-- the same by the spot that the check stands at
abbrev pub AtTerm : List ℕ → Spot → List ℕ → Type 0
AtTerm s w = CheckReady s w.at w.left w.place w.env.last w.top

abbrev pub AtOne : List ℕ → Spot → List ℕ → Type 0
AtOne s w = CheckOne s w.at w.left w.place w.env.last w.top

abbrev pub AtTwo : List ℕ → Spot → List ℕ → Type 0
AtTwo s w = CheckTwo s w.at w.left w.place w.env.last w.top

abbrev pub AtThree : List ℕ → Spot → List ℕ → Type 0
AtThree s w = CheckThree s w.at w.left w.place w.env.last w.top

-- of a term
abbrev pub TermSorted : {s xs : List ℕ} {at levels place last top : ℕ} → CheckReady s at levels place last top xs → List ℕ → Result Sorted Refused → Type 0
TermSorted {s} {xs} {at} {levels} {place} {last} {top} q =
    CheckedAs (check_walk q.env q.term place) (at + length (encode q.term)) (place + records q.term) top xs

-- of a node f with its children
abbrev pub OneSorted : {s xs : List ℕ} {from levels place last top : ℕ} → CheckOne s from levels place last top xs → (Expr → Expr) → List ℕ → Result Sorted Refused → Type 0
OneSorted {s} {xs} {from} {levels} {place} {last} {top} q f =
    CheckedAs (check_walk q.env (f q.first) place) (from + length (encode q.first)) (place + 1 + records q.first) top xs

abbrev pub TwoSorted : {s xs : List ℕ} {from levels place last top : ℕ} → CheckTwo s from levels place last top xs → (Expr → Expr → Expr) → List ℕ → Result Sorted Refused → Type 0
TwoSorted {s} {xs} {from} {levels} {place} {last} {top} q f =
    CheckedAs (check_walk q.env (f q.first q.second) place) (from + length (encode_all (q.first ∷ q.second ∷ [])))
    (place + 1 + records q.first + records q.second) top xs

abbrev pub ThreeSorted : {s xs : List ℕ} {from levels place last top : ℕ} → CheckThree s from levels place last top xs → (Expr → Expr → Expr → Expr) → List ℕ → Result Sorted Refused → Type 0
ThreeSorted {s} {xs} {from} {levels} {place} {last} {top} q f =
    CheckedAs (check_walk q.env (f q.first q.second q.third) place) (from + length (encode_all (q.first ∷ q.second ∷ q.third ∷ [])))
    (place + 1 + records q.first + records q.second + records q.third) top xs
