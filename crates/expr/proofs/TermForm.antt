-- Reading a term accepts exactly the writings of terms within the limits.
use mathlib.Core.Path.{◌≡◌, refl, sym, ap, subst, ◌∙◌}
use mathlib.Core.Bool.{Bool, true, false}
use mathlib.Core.List.{List, [], ◌∷◌, ◌++◌, append_assoc}
use Prim.Native.Nat.{ℕ, zero, suc, ◌+◌, ◌≤◌, ◌<◌}
use native.Mathlib.Nat.{add-zero}
use native.Mathlib.Omega.{arith}
use lib.Dec.{ltb}
use Rattle.literals.specs.Bits.{Bytes}
use Rattle.literals.specs.Reading.{Read, got, fault}
use Rattle.literals.proofs.Logic.{leb_is}
use Rattle.literals.proofs.Codec.{IfGot, Wrote}
use Rattle.expr.specs.Answers.{Answer, ok, refuse, and_then, need}
use Rattle.expr.specs.Terms.{Expr, records, depth}
use Rattle.expr.specs.Records.{Record, read_record, write_record}
use Rattle.expr.specs.Form.{max_records, Node, node0, node1, node2, node3, node_of, Parsed, parsed, children, node_at, parse, encode, RecordFits, Fits}
use Rattle.expr.proofs.RecordForm.{Legal, record_codec}
use Rattle.expr.proofs.TermShape.{own, kids, encode_all, records_all, depth_all, FitAll, encode_is, records_is, depth_is, fits_is}
use Rattle.expr.proofs.NodeForm.{Fill, fill0, fill1, fill2, fill3, own_node, Writes, node_writes}

-- ## What is written is read

-- reading d deep gives back the terms that are not deeper
abbrev Forward : ℕ → Type 0
Forward d =
    (at : ℕ) (e : Expr) (rest : List ℕ) → Fits e → depth e ≤ d → at + records e ≤ max_records
    → parse d at (encode e ++ rest) ≡ parsed e (at + records e) rest

-- a child, and then the rest
child_reads : {A : Type 0} (d : ℕ) → Forward d → (at : ℕ) (e : Expr) (es : List Expr) (rest : List ℕ) (f : Parsed → Answer A) {z : Answer A}
    → Fits e → depth e ≤ d → at + records e ≤ max_records
    → f (record { term = e; next = at + records e; rest = encode_all es ++ rest }) ≡ z → and_then (parse d at (encode_all (e ∷ es) ++ rest)) f ≡ z
child_reads d forward at e es rest f fits deep count k =
    ap (λ (bs : List ℕ). and_then (parse d at bs) f) (append_assoc (encode e) (encode_all es) rest)
    ∙ ap (λ (x : Answer Parsed). and_then x f) (forward at e (encode_all es ++ rest) fits deep count) ∙ k

children_read : (d : ℕ) → Forward d → {n : Node} {es : List Expr} {e : Expr} → Fill n es e → (at : ℕ) (rest : List ℕ) → FitAll es → depth_all es ≤ d
    → at + records_all es ≤ max_records → children (parse d) n at (encode_all es ++ rest) ≡ parsed e (at + records_all es) rest
children_read d forward (fill0 {e}) at rest fits deep count = ap (λ n. parsed e n rest) (sym (add-zero at))
children_read d forward (fill1 {f} {a}) at rest fits deep count =
    child_reads d forward at a [] rest _ fits.0 (omega arith) (omega arith) (ap (λ n. parsed (f a) n rest) (omega arith))
children_read d forward (fill2 {f} {a} {b}) at rest fits deep count =
    child_reads d forward at a (b ∷ []) rest _ fits.0 (omega arith) (omega arith)
    (child_reads d forward (at + records a) b [] rest _ fits.1.0 (omega arith) (omega arith) (ap (λ n. parsed (f a b) n rest) (omega arith)))
children_read d forward (fill3 {f} {a} {b} {c}) at rest fits deep count =
    child_reads d forward at a (b ∷ c ∷ []) rest _ fits.0 (omega arith) (omega arith)
    (child_reads d forward (at + records a) b (c ∷ []) rest _ fits.1.0 (omega arith) (omega arith)
    (child_reads d forward (at + records a + records b) c [] rest _ fits.1.1.0 (omega arith) (omega arith)
    (ap (λ n. parsed (f a b c) n rest) (omega arith))))

pub parse_forward : (d : ℕ) → Forward d
parse_forward zero at e rest fits deep count = absurd (omega (arith, depth_is e))
parse_forward (suc d) at e rest fits deep count =
    let parts = (fits_is e).0 fits in
    let some : ltb at max_records ≡ true = (leb_is (suc at) max_records).1 (omega (arith, records_is e)) in
    let bytes : encode e ++ rest ≡ write_record (own e) ++ (encode_all (kids e) ++ rest) =
    ap (λ (bs : List ℕ). bs ++ rest) (encode_is e) ∙ append_assoc (write_record (own e)) (encode_all (kids e)) rest in
    let read : read_record (encode e ++ rest) ≡ got (own e) (encode_all (kids e) ++ rest) =
    ap read_record bytes ∙ record_codec.forward (own e) (encode_all (kids e) ++ rest) ((own_node e).0 parts.0) in
    rw (some, read)
    (children_read d (parse_forward d) (own_node e).1 (at + 1) rest parts.1 (omega (arith, depth_is e)) (omega (arith, records_is e))
    ∙ ap (λ n. parsed e n rest) (omega (arith, records_is e)))

-- ## What is read was written

abbrev pub IfOk : {A : Type 0} → (A → Type 0) → Answer A → Type 0
IfOk P (ok a) = P a
IfOk P (refuse r at) = Unit {0}

pub ok_then : {A B : Type 0} (P : A → Type 0) (Q : B → Type 0) (x : Answer A) (f : A → Answer B)
    → IfOk P x → ((a : A) → P a → IfOk Q (f a)) → IfOk Q (and_then x f)
ok_then P Q (ok a) f h k = k a h
ok_then P Q (refuse r at) f h k = tt

ok_need : {B : Type 0} (Q : B → Type 0) (b : Bool) (r at : ℕ) (x : Answer B) → (b ≡ true → IfOk Q x) → IfOk Q (and_then (need b r at) (λ _. x))
ok_need Q true r at x k = k refl
ok_need Q false r at x k = tt

-- what reading d deep from the record at on leaves of the bytes bs
pub record Back (d at : ℕ) (bs : List ℕ) (r : Parsed) : Type 0 where
  pub deep : depth r.term ≤ d
  pub next : r.next ≡ at + records r.term
  pub count : r.next ≤ max_records
  pub fits : Fits r.term
  pub bytes : bs ≡ encode r.term ++ r.rest
  pub left : Bytes r.rest

-- the same of a node's children
record BackAll (d at : ℕ) (bs : List ℕ) (es : List Expr) (past : ℕ) (rest : List ℕ) : Type 0 where
  deep : depth_all es ≤ d
  next : past ≡ at + records_all es
  count : at ≤ max_records → past ≤ max_records
  fits : FitAll es
  bytes : bs ≡ encode_all es ++ rest
  left : Bytes rest

no_child : (d at : ℕ) (bs : List ℕ) → Bytes bs → BackAll d at bs [] at bs
no_child d at bs h = record { deep = omega arith; next = omega arith; count = λ k. k; fits = tt; bytes = refl; left = h }

child_back : {d at : ℕ} {bs : List ℕ} {r : Parsed} {es : List Expr} {past : ℕ} {rest : List ℕ}
    → Back d at bs r → BackAll d r.next r.rest es past rest → BackAll d at bs (r.term ∷ es) past rest
child_back {r = r} {es = es} {rest = rest} b c =
    record {
      deep = omega (arith, b.deep, c.deep);
      next = omega (arith, b.next, c.next);
      count = λ k. c.count b.count;
      fits = (b.fits, c.fits);
      bytes = b.bytes ∙ ap (λ (cs : List ℕ). encode r.term ++ cs) c.bytes ∙ sym (append_assoc (encode r.term) (encode_all es) rest);
      left = c.left;
    }

-- a legal record and its children are the term that is made of them
node_back : (d at : ℕ) (bs cs : List ℕ) (h : Record) → Legal h → at < max_records → bs ≡ write_record h ++ cs → (e : Expr) {es : List Expr} {past : ℕ} {rest : List ℕ}
    → (own e ≡ h) × (kids e ≡ es) → BackAll d (at + 1) cs es past rest → Back (suc d) at bs (record { term = e; next = past; rest = rest })
node_back d at bs cs h l some start e {es} {past} {rest} same b =
    let k : BackAll d (at + 1) cs (kids e) past rest = subst (λ fs. BackAll d (at + 1) cs fs past rest) (sym same.1) b in
    record {
      deep = omega (arith, depth_is e, k.deep);
      next = omega (arith, records_is e, k.next);
      count = k.count (omega arith);
      fits = (fits_is e).1 (subst RecordFits (sym same.0) l.fits, k.fits);
      bytes =
          start ∙ (λ i. write_record (sym same.0 i) ++ k.bytes i) ∙ sym (append_assoc (write_record (own e)) (encode_all (kids e)) rest)
          ∙ ap (λ (ds : List ℕ). ds ++ rest) (sym (encode_is e));
      left = k.left;
    }

-- reading d deep leaves of any bytes what it should
abbrev AllBack : ℕ → Type 0
AllBack d = (at : ℕ) (bs : List ℕ) → Bytes bs → IfOk (Back d at bs) (parse d at bs)

module _ (d : ℕ) (back : AllBack d) (at : ℕ) (bs cs : List ℕ) (h : Record) (l : Legal h) (some : at < max_records) (start : bs ≡ write_record h ++ cs) where
  then_child : (n : ℕ) (rest : List ℕ) (f : Parsed → Answer Parsed) → Bytes rest
      → ((r : Parsed) → Back d n rest r → IfOk (Back (suc d) at bs) (f r)) → IfOk (Back (suc d) at bs) (and_then (parse d n rest) f)
  then_child n rest f b k = ok_then (Back d n rest) (Back (suc d) at bs) (parse d n rest) f (back n rest b) k

  children_back : (n : Node) → Writes h n → Bytes cs → IfOk (Back (suc d) at bs) (children (parse d) n (at + 1) cs)
  children_back (node0 e) w b = node_back d at bs cs h l some start e w (no_child d (at + 1) cs b)
  children_back (node1 f) w b =
      then_child (at + 1) cs _ b (λ x p.
      node_back d at bs cs h l some start (f x.term) (w x.term) (child_back p (no_child d x.next x.rest p.left)))
  children_back (node2 f) w b =
      then_child (at + 1) cs _ b (λ x p.
      then_child x.next x.rest _ p.left (λ y q.
      node_back d at bs cs h l some start (f x.term y.term) (w x.term y.term)
      (child_back p (child_back q (no_child d y.next y.rest q.left)))))
  children_back (node3 f) w b =
      then_child (at + 1) cs _ b (λ x p.
      then_child x.next x.rest _ p.left (λ y q.
      then_child y.next y.rest _ q.left (λ z s.
      node_back d at bs cs h l some start (f x.term y.term z.term) (w x.term y.term z.term)
      (child_back p (child_back q (child_back s (no_child d z.next z.rest s.left)))))))

record_then : (d : ℕ) → AllBack d → (at : ℕ) (bs : List ℕ) → at < max_records → (x : Read Record) → IfGot (Wrote Legal write_record bs) x
    → IfOk (Back (suc d) at bs) (node_at (parse d) at x)
record_then d back at bs some (got h cs) w =
    children_back d back at bs cs h w.good some w.bytes (node_of h) (node_writes h w.good) w.left
record_then d back at bs some (fault r) w = tt

pub parse_back : (d : ℕ) → AllBack d
parse_back zero at bs b = ok_need (Back zero at bs) (ltb at max_records) 6 at (refuse 7 at) (λ _. tt)
parse_back (suc d) at bs b =
    ok_need (Back (suc d) at bs) (ltb at max_records) 6 at (node_at (parse d) at (read_record bs))
    (λ some. record_then d (parse_back d) at bs ((leb_is (suc at) max_records).0 some) (read_record bs) (record_codec.back bs b))

pub parse_only : (d at : ℕ) (bs : List ℕ) (r : Parsed) → Bytes bs → parse d at bs ≡ ok r → Back d at bs r
parse_only d at bs r b e = subst (IfOk (Back d at bs)) e (parse_back d at bs b)
