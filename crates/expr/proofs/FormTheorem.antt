-- Form accepts exactly the writings of the terms within the limits.
use mathlib.Core.Path.{◌≡◌, refl, sym, ap, subst, ◌∙◌}
use mathlib.Core.Logic.{◌↔◌}
use mathlib.Core.Bool.{Bool, true, false, cond}
use mathlib.Core.List.{List, [], ◌∷◌, ◌++◌, append-nil}
use Prim.Native.Nat.{ℕ, zero, suc, ◌≤◌}
use native.Mathlib.Omega.{arith}
use lib.ListN.{length}
use Rattle.literals.specs.Bits.{Bits, Bytes, value_of, bytes_of}
use Rattle.literals.specs.Reading.{max_literal, bytes_for, write_literal}
use Rattle.literals.proofs.Bits.{value_below}
use Rattle.literals.proofs.Bytes.{bytes_append, bytes_of_bytes, pack_is}
use Rattle.expr.specs.Answers.{Answer, ok, and_then}
use Rattle.expr.specs.Terms.{Expr, depth}
use Rattle.expr.specs.Records.{Record, stands, write_number, write_record}
use Rattle.expr.specs.Form.{max_depth, Parsed, parse, whole_term, decode, encode, RecordFits, Fits, Within}
use Rattle.expr.proofs.RecordForm.{standing}
use Rattle.expr.proofs.TermShape.{own, kids, encode_all, depth_all, FitAll, encode_is, depth_is, fits_is}
use Rattle.expr.proofs.TermForm.{parse_forward, IfOk, ok_then, Back, parse_back}

-- ## Decoding

-- what is within the limits is decoded from its writing
pub decode_encode : (e : Expr) → Within e → decode (encode e) ≡ ok e
decode_encode e w =
    ap (λ (x : Answer Parsed). and_then x (λ r. whole_term r r.rest))
    (ap (parse max_depth 0) (sym (append-nil (encode e))) ∙ parse_forward max_depth 0 e [] w.fits w.deep (omega (arith, w.count)))

abbrev Decoded : List ℕ → Expr → Type 0
Decoded bs e = Within e × (bs ≡ encode e)

whole_back : (bs : List ℕ) (r : Parsed) (rest : List ℕ) → r.rest ≡ rest → Back max_depth 0 bs r → IfOk (Decoded bs) (whole_term r rest)
whole_back bs r [] e b = (
  record { count = omega (arith, b.next, b.count); deep = b.deep; fits = b.fits },
  b.bytes ∙ ap (λ (cs : List ℕ). encode r.term ++ cs) e ∙ append-nil (encode r.term),
)
whole_back bs r (c ∷ cs) e b = tt

-- what is decoded is within the limits, and its writing is what was decoded
pub decode_only : (bs : List ℕ) (e : Expr) → Bytes bs → decode bs ≡ ok e → Within e × (bs ≡ encode e)
decode_only bs e b h =
    subst (IfOk (Decoded bs)) h
    (ok_then (Back max_depth 0 bs) (Decoded bs) (parse max_depth 0 bs) (λ r. whole_term r r.rest) (parse_back max_depth 0 bs b)
    (λ r k. whole_back bs r r.rest refl k))

pub form_exact : (bs : List ℕ) (e : Expr) → Bytes bs → (decode bs ≡ ok e) ↔ (Within e × (bs ≡ encode e))
form_exact bs e b = (decode_only bs e b, (λ h. ap decode h.1 ∙ decode_encode e h.0))

-- ## Writings are bytes

-- bytes, as a record: antt finds the list that it is said of
record OfBytes (bs : List ℕ) : Type 0 where
  bytes : Bytes bs

infixl 20 ◌then◌
◌then◌ : {a b : List ℕ} → OfBytes a → OfBytes b → OfBytes (a ++ b)
◌then◌ {a} {b} p q = record { bytes = bytes_append a b p.bytes q.bytes }

number : (n v : ℕ) → OfBytes (write_number n v)
number n v = record { bytes = go (stands v) }
  where
    go : (b : Bool) → Bytes (cond b (bytes_of n v) [])
    go true = bytes_of_bytes n v
    go false = tt

literal : (a : Bits) → length a ≤ max_literal → OfBytes (write_literal a)
literal [] h = record { bytes = tt }
literal (b ∷ a) h =
    let n : ℕ = bytes_for (length (b ∷ a)) in
    record { bytes = (omega arith, subst Bytes (sym (pack_is n (b ∷ a))) (bytes_of_bytes n (value_of (b ∷ a)))) }

record_bytes_fact : (h : Record) → RecordFits h → Bytes (write_record h)
record_bytes_fact h f =
    let fields =
    number 1 h.kind then number 2 h.name then number 4 h.start then number 4 h.end then number 1 h.pattern then number 1 h.number
    then literal h.lit_a f.lit_a then literal h.lit_b f.lit_b in
    (value_below (standing h), fields.bytes)

deep_bytes : (d : ℕ) (e : Expr) → depth e ≤ d → Fits e → Bytes (encode e)
deep_bytes zero e deep fits = absurd (omega (arith, depth_is e))
deep_bytes (suc d) e deep fits =
    let parts = (fits_is e).0 fits in
    subst Bytes (sym (encode_is e))
    (bytes_append (write_record (own e)) (encode_all (kids e)) (record_bytes_fact (own e) parts.0)
    (all (kids e) (omega (arith, depth_is e)) parts.1 (deep_bytes d)))
  where
    all : (es : List Expr) → depth_all es ≤ d → FitAll es → ((e : Expr) → depth e ≤ d → Fits e → Bytes (encode e)) → Bytes (encode_all es)
    all [] deep fits each = tt
    all (e ∷ es) deep fits each = bytes_append (encode e) (encode_all es) (each e (omega arith) fits.0) (all es (omega arith) fits.1 each)

-- a term that fits is written in bytes
pub bytes_of_encode : (e : Expr) → Fits e → Bytes (encode e)
bytes_of_encode e fits = deep_bytes (depth e) e (omega arith) fits
