-- Scans over the records of a term: what is left of it is a list of terms, and reading a record puts a term's children in its place.
use mathlib.Core.Path.{◌≡◌, refl, sym, ap, subst, ◌∙◌}
use mathlib.Core.List.{List, [], ◌∷◌, ◌++◌, append_assoc, append-nil}
use Prim.Native.Nat.{ℕ, ◌+◌, ◌≤◌, ◌<◌}
use native.Mathlib.Omega.{arith}
use lib.ListN.{length, drop, length-drop}
use lib.Seq.{drop-drop}
use Rattle.std.specs.Prelude.{Result, Ok, Err}
use Rattle.refusals.specs.Refusals.{number_of}
use Rattle.refusals.specs.declared.Refusal.{Refusal}
use Rattle.refusals.specs.declared.Refused.{Refused}
use Rattle.literals.specs.Bits.{Bytes}
use Rattle.literals.specs.Reading.{got}
use Rattle.literals.specs.Patterns.{Pattern, Exact, Cidr, Wildcard, IpRange}
use Rattle.expr.specs.Answers.{Answer, ok, refuse}
use Rattle.expr.specs.Terms.{Expr}
use Rattle.expr.specs.Records.{read_record, write_record}
use Rattle.expr.specs.Form.{match_record, decode, encode}
use Rattle.expr.specs.Results.{RecordFound, record_of, form_answer, shape_of, Term}
use Rattle.expr.specs.declared.records.Head.{Head}
use Rattle.expr.specs.declared.form.Taken.{Taken}
use Rattle.expr.proofs.RecordForm.{record_codec}
use Rattle.expr.proofs.TermShape.{own, kids, encode_all, records_all, FitAll, encode_is, fits_is}
use Rattle.expr.proofs.NodeForm.{own_node}
use Rattle.expr.proofs.FormTheorem.{decode_only}
use Rattle.expr.proofs.Slices.{part, part_is}

-- ## Lists of terms

encode_append : (es fs : List Expr) → encode_all (es ++ fs) ≡ encode_all es ++ encode_all fs
encode_append [] fs = refl
encode_append (e ∷ es) fs = ap (λ (l : List ℕ). encode e ++ l) (encode_append es fs) ∙ sym (append_assoc (encode e) (encode_all es) (encode_all fs))

-- the first term's own record, and behind it its children and the other terms
opened : (e : Expr) (es : List Expr) → encode_all (e ∷ es) ≡ write_record (own e) ++ encode_all (kids e ++ es)
opened e es =
    ap (λ (l : List ℕ). l ++ encode_all es) (encode_is e) ∙ append_assoc (write_record (own e)) (encode_all (kids e)) (encode_all es)
    ∙ ap (λ (l : List ℕ). write_record (own e) ++ l) (sym (encode_append (kids e) es))

pub records_append : (es fs : List Expr) → records_all (es ++ fs) ≡ records_all es + records_all fs
records_append [] fs = omega arith
records_append (e ∷ es) fs = omega (arith, records_append es fs)

fits_append : (es fs : List Expr) → FitAll es → FitAll fs → FitAll (es ++ fs)
fits_append [] fs f g = g
fits_append (e ∷ es) fs f g = (f.0, fits_append es fs f.1 g)

-- ## The record of a match

pub match_kind : (k x s e : ℕ) (p : Pattern) → (match_record k x s e p).kind ≡ k
match_kind k x s e (Exact a) = refl
match_kind k x s e (Cidr a n) = refl
match_kind k x s e (Wildcard a m) = refl
match_kind k x s e (IpRange a b) = refl

pub match_end : (k x s e : ℕ) (p : Pattern) → (match_record k x s e p).end ≡ e
match_end k x s e (Exact a) = refl
match_end k x s e (Cidr a n) = refl
match_end k x s e (Wildcard a m) = refl
match_end k x s e (IpRange a b) = refl

-- ## What form says

good_is : (s : List ℕ) (u n : ℕ) (x : Answer Expr) → ok (u, n) ≡ shape_of s x → (e : Expr) × (x ≡ ok e)
good_is s u n (ok e) h = (e, refl)
good_is s u n (refuse r p) h = let z : ◌≡◌ {A = ℕ} 0 1 = cc in absurd (omega arith)

refused_is : (s : List ℕ) (r p : ℕ) (x : Answer Expr) → refuse r p ≡ shape_of s x → x ≡ refuse r p
refused_is s r p (ok e) h = let z : ◌≡◌ {A = ℕ} 0 1 = cc in absurd (omega arith)
refused_is s r p (refuse r' p') h = cc

module _ (s : List ℕ) where
  pub formed_good : {t : Taken} → form_answer (Ok t) ≡ shape_of s (decode s) → Term s
  formed_good {t} h = good_is s t.used t.next (decode s) h

  pub formed_refused : (r : Refused) → form_answer (Err r) ≡ shape_of s (decode s) → decode s ≡ refuse (number_of r.refusal) r.place
  formed_refused r h = refused_is s (number_of r.refusal) r.place (decode s) h

-- ## What is left of a term

-- the bytes from a place on are these terms
pub record Left (s : List ℕ) (at : ℕ) (es : List Expr) : Type 0 where
  pub inside : at ≤ length s
  pub bytes : drop at s ≡ encode_all es
  pub fits : FitAll es

pub left_start : (s : List ℕ) (e : Expr) → Bytes s → decode s ≡ ok e → Left s 0 (e ∷ [])
left_start s e b d =
    let known = decode_only s e b d in
    record { inside = omega arith; bytes = known.1 ∙ sym (append-nil (encode e)); fits = (known.0.fits, tt) }

-- at the end no term is left
pub left_none : {s : List ℕ} {at : ℕ} (es : List Expr) → Left s at es → length s ≤ at → es ≡ []
left_none [] l h = refl
left_none {s} {at} (e ∷ es) l h = absurd (omega (arith, ap length (l.bytes ∙ opened e es), length-drop at s))

-- before the end a term is left, whose own record is read, and behind it stand the children and the other terms
record Reading (s : List ℕ) (at : ℕ) (es : List Expr) : Type 0 where
  first : Expr
  others : List Expr
  are : es ≡ first ∷ others
  reads : read_record (drop at s) ≡ got (own first) (encode_all (kids first ++ others))
  fits : FitAll (kids first ++ others)

reading : {s : List ℕ} {at : ℕ} (es : List Expr) → Left s at es → at < length s → Reading s at es
reading {s} {at} [] l h = absurd (omega (arith, ap length l.bytes, length-drop at s))
reading {s} {at} (e ∷ es) l h =
    let parts = (fits_is e).0 l.fits.0 in
    record {
      first = e;
      others = es;
      are = refl;
      reads = ap read_record (l.bytes ∙ opened e es) ∙ record_codec.forward (own e) (encode_all (kids e ++ es)) ((own_node e).0 parts.0);
      fits = fits_append (kids e) es parts.1 l.fits.1;
    }

found : (s : List ℕ) (at : ℕ) {r : Result Head Refusal} → RecordFound (part at s) r → RecordFound (drop at s) r
found s at {r} f = subst (λ (l : List ℕ). RecordFound l r) (part_is at s) f

-- before the end no record is refused
pub never_refused : {s : List ℕ} {at : ℕ} {es : List Expr} → Left s at es → at < length s → {e : Refusal} → RecordFound (part at s) (Err e) → ⊥
never_refused {s} {at} {es} l lt f =
    let z : ◌≡◌ {A = ℕ} 0 1 = cc ((found s at f).answer, (reading es l lt).reads) in
    absurd (omega arith)

-- the head h that is found is the first term's own record, and behind it the scan goes on
pub record Step (s : List ℕ) (at : ℕ) (es : List Expr) (h : Head) : Type 0 where
  pub first : Expr
  pub others : List Expr
  pub are : es ≡ first ∷ others
  pub own_is : record_of (drop at s) h ≡ own first
  pub more : at < at + h.size
  pub left : Left s (at + h.size) (kids first ++ others)

pub step : {s : List ℕ} {at : ℕ} {es : List Expr} → Left s at es → at < length s → {h : Head} → RecordFound (part at s) (Ok h) → Step s at es h
step {s} {at} {es} l lt {h} f =
    let r = reading es l lt in
    let g = found s at f in
    let same : got (record_of (drop at s) h) (drop h.size (drop at s)) ≡ got (own r.first) (encode_all (kids r.first ++ r.others)) =
    g.answer ∙ r.reads in
    record {
      first = r.first;
      others = r.others;
      are = r.are;
      own_is = cc;
      more = omega (arith, g.inside.0);
      left =
          record {
            inside = omega (arith, g.inside.1, length-drop at s);
            bytes = sym (drop-drop h.size at s) ∙ cc;
            fits = r.fits;
          };
    }
