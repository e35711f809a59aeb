-- The walk of src/check.rt: room for bindings, and what it found.
use mathlib.Core.Path.{◌≡◌, sym, ap, subst, ◌∙◌}
use mathlib.Core.Bool.{Bool}
use mathlib.Core.List.{List, ◌∷◌}
use Prim.Native.Nat.{ℕ, ◌+◌, ◌*◌, ◌≤◌}
use native.Mathlib.Omega.{arith}
use lib.ListN.{length}
use Rattle.std.specs.Prelude.{Result, Ok, Err}
use Rattle.std.specs.Result.{IsErrAnd}
use Rattle.refusals.specs.Refusals.{number_of}
use Rattle.refusals.specs.declared.Refused.{Refused}
use Rattle.refusals.proofs.Exits.{err_is}
use Rattle.expr.specs.Answers.{Answer, and_then, ok, refuse}
use Rattle.expr.specs.Form.{encode}
use Rattle.expr.specs.Terms.{Expr, records}
use Rattle.desugar.specs.Bindings.{Env}
use Rattle.desugar.specs.Memory.{Kept}
use Rattle.desugar.specs.WalkWords.{TermsAt}
use Rattle.desugar.proofs.Regions.{kept_less, kept_then}
use Rattle.desugar.proofs.Frames.{bound_kept}
use Rattle.desugar.proofs.WalkLaws.{first_behind, then_ok}
use Rattle.netkat.specs.CheckWords.{check_walk, flags, Frames, CheckReady, SortedAs, CheckedAs}
use Rattle.netkat.specs.declared.check.Sorted.{Sorted}

-- ## Room for bindings

-- the bindings stay below what changes, and the room above is as large as before
pub frames_moved : {xs ys : List ℕ} {last top levels n top' levels' : ℕ} {env : Env Bool} → Frames xs last top levels env
    → Kept n xs ys → last ≤ n → last ≤ top' → top' + 8 * levels' ≤ top + 8 * levels → Frames ys last top' levels' env
frames_moved {env = env} k kept low below fits =
    record {
      bound = bound_kept (flags env) kept low k.bound;
      below = below;
      room = omega (arith, k.room, kept.long, fits);
      small = omega (arith, k.small, fits);
    }

-- what is asked of the first of some terms
abbrev pub ready_first : {s xs : List ℕ} {from l last top : ℕ} {env : Env Bool} (place : ℕ) (e : Expr) (es : List Expr)
    → TermsAt s from l place (e ∷ es) → Frames xs last top l env → CheckReady s from l place last top xs
ready_first {env = env} place e es t k = record { term = e; env = env; start = t.start; text = first_behind e es t; frames = k }

-- ## What a walk found

-- the contract of a walk over one term
abbrev pub Visited : List ℕ → (at levels place last top : ℕ) → (xs xs' : List ℕ) → Result Sorted Refused → Type 0
Visited s at levels place last top xs xs' r =
    (q : CheckReady s at levels place last top xs)
    → CheckedAs (check_walk q.env q.term place) (at + length (encode q.term)) (place + records q.term) top xs xs' r

module _ {s xs : List ℕ} {at levels place last top : ℕ} (xs' : List ℕ) (q : CheckReady s at levels place last top xs) where
  pub found : {w : Sorted} → Visited s at levels place last top xs xs' (Ok w)
      → SortedAs (check_walk q.env q.term place) (at + length (encode q.term)) (place + records q.term) top xs xs' w
  found v = v q

  pub stopped : (e : Refused) → Visited s at levels place last top xs xs' (Err e) → check_walk q.env q.term place ≡ refuse (number_of e.refusal) e.place
  stopped e v = v q

-- a refusal that is passed on
pub passed_on : {x : Answer Bool} (used next top : ℕ) (xs xs' : List ℕ) (r : Result Sorted Refused) (e : Refused)
    → IsErrAnd r (λ y. y ≡ e) → x ≡ refuse (number_of e.refusal) e.place → CheckedAs x used next top xs xs' r
passed_on {x} used next top xs xs' r e is k = subst (CheckedAs x used next top xs xs') (sym (err_is r is)) k

-- go on from a child's answer x, and the index behind the child, with the rest f of the walk
pub go_on_fact : {x : Answer Bool} {used next top : ℕ} {xs ys : List ℕ} {w : Sorted} (f : Bool → ℕ → Answer Bool) → SortedAs x used next top xs ys w
    → and_then x (λ s. f s next) ≡ f w.test w.next
go_on_fact {w = w} f c = then_ok (λ s. f s _) c.is ∙ ap (f w.test) (sym c.next_is)

-- from what was found of the last child to what is found of the whole, whose sort is b
pub last_found : {x y : Answer Bool} {used used₁ next next₁ top top₁ : ℕ} {xs xs₁ ys : List ℕ} {w : Sorted} {b : Bool}
    → x ≡ ok b → used₁ ≡ used → next₁ ≡ next → top ≤ top₁ → Kept top xs xs₁ → SortedAs y used₁ next₁ top₁ xs₁ ys w
    → SortedAs x used next top xs ys (record { used = w.used; next = w.next; test = b })
last_found e used next low kept c =
    record {
      is = e;
      used_is = c.used_is ∙ used;
      next_is = c.next_is ∙ next;
      kept = kept_then kept (kept_less low c.kept);
    }
