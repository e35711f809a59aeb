-- Laws of the walk: terms in bytes, room on the stack, and the core that a walk ends with.
use mathlib.Core.Path.{◌≡◌, refl, sym, ap, subst, ◌∙◌}
use mathlib.Core.List.{List, ◌∷◌, ◌++◌, append_assoc}
use Prim.Native.Nat.{ℕ, ◌+◌, ◌*◌, ◌≤◌}
use native.Mathlib.Omega.{arith}
use lib.ListN.{length, drop, length-append, length-drop}
use lib.Seq.{drop_at, drop-drop}
use Rattle.std.specs.Result.{IsErrAnd}
use Rattle.refusals.proofs.Exits.{err_is}
use Rattle.refusals.specs.Refusals.{number_of}
use Rattle.refusals.specs.declared.Refusal.{Refusal}
use Rattle.std.specs.Prelude.{Result, Ok, Err}
use Rattle.refusals.specs.declared.Refused.{Refused}
use Rattle.desugar.specs.declared.memory.Region.{Region}
use Rattle.desugar.specs.declared.operands.Walked.{Walked}
use Rattle.expr.specs.Answers.{Answer, ok, refuse, and_then}
use Rattle.expr.specs.Terms.{Core, Expr, records}
use Rattle.expr.specs.Form.{encode}
use Rattle.expr.specs.Replaced.{encode_all}
use Rattle.expr.specs.Results.{RecordFound}
use Rattle.expr.specs.declared.records.Head.{Head}
use Rattle.expr.proofs.HeadOf.{Headed, headed, not_refused}
use Rattle.expr.proofs.Slices.{part, part_is}
use Rattle.desugar.specs.Bindings.{Env}
use Rattle.desugar.specs.Meter.{Meter, left}
use Rattle.desugar.specs.Desugar.{desugar}
use Rattle.desugar.specs.Memory.{Kept, Lies}
use Rattle.desugar.specs.WalkWords.{TermAt, TermsAt, Stack, WalkedCore, WalkedAs, Ready}
use Rattle.desugar.proofs.Regions.{kept_then, kept_less, lies_at}
use Rattle.desugar.proofs.Frames.{bound_kept}
pub use Rattle.desugar.proofs.RecordBytes.{lies_inside}

-- ## Terms one behind the other

-- the term at a byte is at the front of what `&s[at..]` holds
abbrev pub in_part : (s : List ℕ) (at : ℕ) {levels place : ℕ} {e : Expr} → TermAt (drop at s) levels place e → TermAt (part at s) levels place e
in_part s at t = record { more = t.more; bytes = part_is at s ∙ t.bytes; fits = t.fits; deep = t.deep; low = t.low }

-- the record that was read there is the term's first, and no refusal
pub text_head : (s : List ℕ) (at : ℕ) {levels place : ℕ} {e : Expr} (t : TermAt (drop at s) levels place e) {h : Head}
    → RecordFound (drop at s) (Ok h) → Headed (part at s) e t.more h
text_head s at {e = e} t {h} f = headed e t.more (in_part s at t).bytes t.fits (subst (λ l. RecordFound l (Ok h)) (sym (part_is at s)) f)

pub text_read : (s : List ℕ) (at : ℕ) {levels place : ℕ} {e : Expr} (t : TermAt (drop at s) levels place e) {r : Refusal}
    → RecordFound (drop at s) (Err r) → ⊥
text_read s at {e = e} t f = not_refused e t.more t.bytes t.fits f

module _ {s : List ℕ} {from levels place : ℕ} (e : Expr) (es : List Expr) (t : TermsAt s from levels place (e ∷ es)) where
  behind : drop from s ≡ encode e ++ (encode_all es ++ t.more)
  behind = t.bytes ∙ append_assoc (encode e) (encode_all es) t.more

  pub first_behind : TermAt (drop from s) levels place e
  first_behind =
      record {
        more = encode_all es ++ t.more;
        bytes = behind;
        fits = t.fits.0;
        deep = omega (arith, t.deep);
        low = omega (arith, t.low);
      }

  used_inside : from + length (encode e) ≤ length s
  used_inside = omega (arith, t.start, length-drop from s, ap length behind, length-append (encode e) (encode_all es ++ t.more))

  pub rest_at : {next place' : ℕ} → next ≡ from + length (encode e) → place' ≡ place + records e → TermsAt s next levels place' es
  rest_at {next} {place'} n p =
      record {
        more = t.more;
        start = omega (arith, n, used_inside);
        bytes =
            ap (λ k. drop k s) n ∙ sym (drop-drop (length (encode e)) from s) ∙ ap (drop (length (encode e))) behind
            ∙ drop_at (encode e) (encode_all es ++ t.more) (length (encode e)) refl;
        fits = t.fits.1;
        deep = omega (arith, t.deep);
        low = omega (arith, t.low, p);
      }

-- ## Room on the stack

-- the bindings stay below what changes, and the room above is as large as before
pub stack_moved : {xs ys : List ℕ} {last top a levels n top' a' levels' : ℕ} {env : Env Core} → Stack xs last top a levels env
    → Kept n xs ys → last ≤ n → last ≤ top' → top' + 8 * a' + 12 * levels' ≤ top + 8 * a + 12 * levels → Stack ys last top' a' levels' env
stack_moved {env = env} k kept low below fits =
    record {
      bound = bound_kept env kept low k.bound;
      below = below;
      room = omega (arith, k.room, kept.long, fits);
      small = omega (arith, k.small, fits);
    }

-- what is asked of the first of some terms
abbrev pub ready_first : {s xs : List ℕ} {from levels place last top a : ℕ} {env : Env Core} (e : Expr) (es : List Expr)
    → TermsAt s from levels place (e ∷ es) → Stack xs last top a levels env → Ready s from levels place last top a xs
ready_first {env = env} e es t k = record { term = e; env = env; start = t.start; text = first_behind e es t; stack = k }

-- ## What a walk ends with

-- the contract of a walk over one term
abbrev pub Visited : List ℕ → (at levels place last top a : ℕ) → (xs xs' : List ℕ) → Result Walked Refused → Type 0
Visited s at levels place last top a xs xs' r =
    (q : Ready s at levels place last top a xs)
    → WalkedAs (desugar q.env q.term place (left a)) (at + length (encode q.term)) (place + records q.term) top a levels xs xs' r

module _ {s xs : List ℕ} {at levels place last top a : ℕ} (xs' : List ℕ) (q : Ready s at levels place last top a xs) where
  pub walked : {w : Walked} → Visited s at levels place last top a xs xs' (Ok w)
      → WalkedCore (desugar q.env q.term place (left a)) (at + length (encode q.term)) (place + records q.term) top a levels xs xs' w
  walked v = v q

  pub stopped : (r : Refused) → Visited s at levels place last top a xs xs' (Err r) → desugar q.env q.term place (left a) ≡ refuse (number_of r.refusal) r.place
  stopped r v = v q

-- a refusal that is passed on
pub passed_on : {x : Answer (Core × Meter)} (used next top a levels : ℕ) (xs xs' : List ℕ) (r : Result Walked Refused) (e : Refused)
    → IsErrAnd r (λ y. y ≡ e) → x ≡ refuse (number_of e.refusal) e.place → WalkedAs x used next top a levels xs xs' r
passed_on {x} used next top a levels xs xs' r e is k = subst (WalkedAs x used next top a levels xs xs') (sym (err_is r is)) k

-- the same answer, seen from a lower top with more room and more of an allowance
pub wider : (x y : Answer (Core × Meter)) (u u₁ n n₁ top top₁ a a₁ l l₁ : ℕ) (xs xs₁ ys : List ℕ) (r : Result Walked Refused)
    → x ≡ y → u₁ ≡ u → n₁ ≡ n → top ≤ top₁ → top₁ + 3 * a₁ + 12 * l₁ ≤ top + 3 * a + 12 * l → a₁ ≤ a → Kept top xs xs₁
    → WalkedAs y u₁ n₁ top₁ a₁ l₁ xs₁ ys r → WalkedAs x u n top a l xs ys r
wider x y u u₁ n n₁ top top₁ a a₁ l l₁ xs xs₁ ys (Ok w) e used next above reach drawn kept c =
    record {
      core = c.core;
      is = e ∙ c.is;
      used_is = c.used_is ∙ used;
      next_is = c.next_is ∙ next;
      lies = c.lies;
      kept = kept_then kept (kept_less above c.kept);
      above = omega (arith, c.above, above);
      reach = omega (arith, c.reach, reach);
      drawn = omega (arith, c.drawn, drawn);
    }
wider x y u u₁ n n₁ top top₁ a a₁ l l₁ xs xs₁ ys (Err k) e used next above reach drawn kept c = e ∙ c

-- an operand's answer x, and its core settled in a region at an index
pub record Settled (x : Answer (Core × Meter)) (used next at a : ℕ) (xs xs' : List ℕ) (w : Walked) (r : Region) : Type 0 where
  pub core : Core
  pub is : x ≡ ok (core, left w.left)
  pub used_is : w.used ≡ used
  pub next_is : w.next ≡ next
  pub at_is : r.at ≡ at
  pub lies : Lies xs' r.at r.count core
  pub kept : Kept at xs xs'
  pub drawn : r.count + w.left ≤ a

pub settled : {x : Answer (Core × Meter)} {used next top a levels : ℕ} {xs xs₁ xs₂ : List ℕ} {w : Walked} {r : Region}
    → WalkedCore x used next top a levels xs xs₁ w → (r.at ≡ top) × (r.count ≡ w.core.count)
    → Kept top xs₁ xs₂ → ((c : Core) → Lies xs₁ w.core.at w.core.count c → Lies xs₂ top w.core.count c) → Settled x used next top a xs xs₂ w r
settled {top} {xs} {xs₂} c place kept moves =
    record {
      core = c.core;
      is = c.is;
      used_is = c.used_is;
      next_is = c.next_is;
      at_is = place.0;
      lies = lies_at (sym place.0) (sym place.1) (moves c.core c.lies);
      kept = kept_then c.kept kept;
      drawn = omega (arith, c.drawn, place.1);
    }

-- go on from an answer that is known
pub then_ok : {A B : Type 0} {x : Answer A} {a : A} (f : A → Answer B) → x ≡ ok a → and_then x f ≡ f a
then_ok f e = ap (λ y. and_then y f) e

pub then_refused : {A B : Type 0} {x : Answer A} {n p : ℕ} (f : A → Answer B) → x ≡ refuse n p → and_then x f ≡ refuse n p
then_refused f e = ap (λ y. and_then y f) e
