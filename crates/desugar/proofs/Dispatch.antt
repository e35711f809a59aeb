-- The walk over one term: its record says what it is, and what is said of its operands is said of the term.
use mathlib.Core.Path.{◌≡◌, refl, sym, ap, subst, ◌∙◌}
use mathlib.Core.Logic.{◌⊎◌, inl, inr}
use mathlib.Core.List.{List, [], ◌∷◌}
use Prim.Native.Nat.{ℕ, ◌+◌, ◌-◌, ◌≤◌}
use native.Mathlib.Omega.{arith}
use lib.ListN.{length, get_or, drop, length-append, length-drop}
use lib.Seq.{drop-drop}
use Rattle.expr.specs.declared.kind.Kind.{Kind}
use Rattle.expr.specs.declared.kind.Kind.TheVariants as kind
use Rattle.expr.specs.Kinds.{kind_number}
use Rattle.std.specs.Prelude.{Result, Ok}
use Rattle.refusals.specs.declared.Refused.{Refused}
use Rattle.desugar.specs.declared.operands.Walked.{Walked}
use Rattle.expr.specs.Terms.{TestNegation, IfThenElse, Let, LetBitRange, Zero, Op1, Complement, Star, LtlNext, Op2, Union, Intersect, Xor, Difference, Sequence, LtlUntil, Core, Expr, Plain, Unary, Binary, op1_kind, op2_kind, records}
use Rattle.expr.specs.Records.{Record}
use Rattle.expr.specs.Form.{Node, node0, node1, node2, node3, nodes, node_of, encode}
use Rattle.expr.specs.Replaced.{encode_all, records_all}
use Rattle.expr.specs.Results.{record_of, child_count, arity_of, RecordFound}
use Rattle.expr.specs.declared.records.Head.{Head}
use Rattle.expr.proofs.TermShape.{kids, records_is, depth_is, fits_is}
use Rattle.expr.proofs.NodeForm.{Fill, fill0, fill1, fill2, fill3, own_node}
use Rattle.expr.proofs.Arities.{arity_is}
use Rattle.expr.proofs.HeadOf.{Headed}
use Rattle.expr.proofs.Replacing.{length_is}
use Rattle.expr.proofs.Slices.{part, part_is}
use Rattle.desugar.specs.Bindings.{Env}
use Rattle.desugar.specs.Meter.{left}
use Rattle.desugar.specs.Desugar.{desugar}
use Rattle.desugar.specs.BindingWords.{Bound}
use Rattle.desugar.specs.WalkWords.{TermAt, TermsAt, Stack, WalkedAs, Ready, ReadyOne, ReadyTwo, ReadyThree, Operator1, Operator2, LeafReady}
use Rattle.desugar.proofs.Regions.{kept_all}
use Rattle.desugar.proofs.WalkLaws.{in_part, stack_moved, text_head, wider}

-- ## The node of a record, by its kind

node_at_fact : (r : Record) (k : ℕ) → r.kind ≡ k → node_of r ≡ get_or (nodes r) k (node0 (Plain Zero))
node_at_fact r k e = ap (λ n. get_or (nodes r) n (node0 (Plain Zero))) e

pub record UnaryNode (r : Record) : Type 0 where
  pub operator : Operator1 r.kind
  pub node : node_of r ≡ node1 (Unary operator.o)

pub record BinaryNode (r : Record) : Type 0 where
  pub operator : Operator2 r.kind
  pub node : node_of r ≡ node2 (Binary operator.o)

module _ (r : Record) where
  unary_at : (o : Op1) → r.kind ≡ op1_kind o → get_or (nodes r) (op1_kind o) (node0 (Plain Zero)) ≡ node1 (Unary o) → UnaryNode r
  unary_at o e n = record { operator = record { o = o; is = sym e }; node = node_at_fact r (op1_kind o) e ∙ n }

  binary_at : (o : Op2) → r.kind ≡ op2_kind o → get_or (nodes r) (op2_kind o) (node0 (Plain Zero)) ≡ node2 (Binary o) → BinaryNode r
  binary_at o e n = record { operator = record { o = o; is = sym e }; node = node_at_fact r (op2_kind o) e ∙ n }

-- the same by the kind that was read
module _ (s : List ℕ) (h : Head) where
  pub unary_kind : (h.kind ≡ kind.Complement) ⊎ ((h.kind ≡ kind.Star) ⊎ (h.kind ≡ kind.LtlNext)) → UnaryNode (record_of s h)
  unary_kind (inl e) = unary_at (record_of s h) Complement (ap kind_number e) refl
  unary_kind (inr (inl e)) = unary_at (record_of s h) Star (ap kind_number e) refl
  unary_kind (inr (inr e)) = unary_at (record_of s h) LtlNext (ap kind_number e) refl

  pub binary_kind : (h.kind ≡ kind.Union) ⊎ ((h.kind ≡ kind.Intersect) ⊎ ((h.kind ≡ kind.Xor) ⊎ ((h.kind ≡ kind.Difference) ⊎ ((h.kind ≡ kind.Sequence) ⊎ (h.kind ≡ kind.LtlUntil)))))
      → BinaryNode (record_of s h)
  binary_kind (inl e) = binary_at (record_of s h) Union (ap kind_number e) refl
  binary_kind (inr (inl e)) = binary_at (record_of s h) Intersect (ap kind_number e) refl
  binary_kind (inr (inr (inl e))) = binary_at (record_of s h) Xor (ap kind_number e) refl
  binary_kind (inr (inr (inr (inl e)))) = binary_at (record_of s h) Difference (ap kind_number e) refl
  binary_kind (inr (inr (inr (inr (inl e))))) = binary_at (record_of s h) Sequence (ap kind_number e) refl
  binary_kind (inr (inr (inr (inr (inr e))))) = binary_at (record_of s h) LtlUntil (ap kind_number e) refl

  pub negation_kind : h.kind ≡ kind.TestNegation → node_of (record_of s h) ≡ node1 TestNegation
  negation_kind e = node_at_fact (record_of s h) 16 (ap kind_number e)

  pub if_kind : h.kind ≡ kind.IfThenElse → node_of (record_of s h) ≡ node3 IfThenElse
  if_kind e = node_at_fact (record_of s h) 17 (ap kind_number e)

  pub let_kind : h.kind ≡ kind.Let → node_of (record_of s h) ≡ node2 (Let h.name)
  let_kind e = node_at_fact (record_of s h) 18 (ap kind_number e)

  pub alias_kind : h.kind ≡ kind.LetBitRange → node_of (record_of s h) ≡ node1 (LetBitRange h.name h.start h.end)
  alias_kind e = node_at_fact (record_of s h) 19 (ap kind_number e)

-- a kind that has no children is none of these
module _ (k : Kind) (not_Union : k ≡ kind.Union → ⊥) (not_Intersect : k ≡ kind.Intersect → ⊥) (not_Xor : k ≡ kind.Xor → ⊥) (not_Difference : k ≡ kind.Difference → ⊥) (not_Sequence : k ≡ kind.Sequence → ⊥) (not_LtlUntil : k ≡ kind.LtlUntil → ⊥) (not_Complement : k ≡ kind.Complement → ⊥) (not_Star : k ≡ kind.Star → ⊥) (not_LtlNext : k ≡ kind.LtlNext → ⊥) (not_TestNegation : k ≡ kind.TestNegation → ⊥) (not_IfThenElse : k ≡ kind.IfThenElse → ⊥) (not_Let : k ≡ kind.Let → ⊥) (not_LetBitRange : k ≡ kind.LetBitRange → ⊥) where
  pub childless : 0 ≡ arity_of (kind_number k)
  childless = go k refl
    where
      go : (j : Kind) → k ≡ j → 0 ≡ arity_of (kind_number j)
      go kind.Zero e = refl
      go kind.One e = refl
      go kind.Top e = refl
      go kind.Dup e = refl
      go kind.End e = refl
      go kind.Assign e = refl
      go kind.Test e = refl
      go kind.Union e = absurd (not_Union e)
      go kind.Intersect e = absurd (not_Intersect e)
      go kind.Xor e = absurd (not_Xor e)
      go kind.Difference e = absurd (not_Difference e)
      go kind.Sequence e = absurd (not_Sequence e)
      go kind.LtlUntil e = absurd (not_LtlUntil e)
      go kind.Complement e = absurd (not_Complement e)
      go kind.Star e = absurd (not_Star e)
      go kind.LtlNext e = absurd (not_LtlNext e)
      go kind.TestNegation e = absurd (not_TestNegation e)
      go kind.IfThenElse e = absurd (not_IfThenElse e)
      go kind.Let e = absurd (not_Let e)
      go kind.LetBitRange e = absurd (not_LetBitRange e)
      go kind.Var e = refl
      go kind.VarAssign e = refl
      go kind.VarTest e = refl
      go kind.BitRangeAssign e = refl
      go kind.BitRangeTest e = refl
      go kind.BitRangeMatch e = refl
      go kind.VarMatch e = refl

-- ## A node filled with its children

pub fill_none : {n : Node} {es : List Expr} {e : Expr} → Fill n es e → child_count n ≡ 0 → (n ≡ node0 e) × (es ≡ [])
fill_none fill0 h = (refl, refl)
fill_none fill1 h = absurd (omega (arith, h))
fill_none fill2 h = absurd (omega (arith, h))
fill_none fill3 h = absurd (omega (arith, h))

moved : (P : Expr → (used next : ℕ) → Type 0) (e : Expr) {u u' n n' : ℕ} → u ≡ u' → n ≡ n' → P e u n → P e u' n'
moved P e {u} {u'} {n} {n'} i j p = subst (λ m. P e m n') i (subst (λ m. P e u m) j p)

-- what is said of the node with its children, its bytes and the index behind it, is said of the term e, whose record ends at a byte
module _ (s : List ℕ) (from l place : ℕ) (P : Expr → (used next : ℕ) → Type 0) where
  one_filled : {f : Expr → Expr} {es : List Expr} {e : Expr} → Fill (node1 f) es e → TermsAt s from l (place + 1) es
      → from + length (encode_all es) ≡ length (encode e) → 1 + records_all es ≡ records e
      → ((b : Expr) → TermsAt s from l (place + 1) (b ∷ []) → P (f b) (from + length (encode b)) (place + 1 + records b))
      → P e (length (encode e)) (place + records e)
  one_filled (fill1 {f = f} {a = b}) t used next v = moved P (f b) (omega (arith, used, length-append (encode b) [])) (omega (arith, next)) (v b t)

  two_filled : {f : Expr → Expr → Expr} {es : List Expr} {e : Expr} → Fill (node2 f) es e → TermsAt s from l (place + 1) es
      → from + length (encode_all es) ≡ length (encode e) → 1 + records_all es ≡ records e
      → ((b c : Expr) → TermsAt s from l (place + 1) (b ∷ c ∷ []) → P (f b c) (from + length (encode_all (b ∷ c ∷ []))) (place + 1 + records b + records c))
      → P e (length (encode e)) (place + records e)
  two_filled (fill2 {f = f} {a = b} {b = c}) t used next v = moved P (f b c) used (omega (arith, next)) (v b c t)

  three_filled : {f : Expr → Expr → Expr → Expr} {es : List Expr} {e : Expr} → Fill (node3 f) es e → TermsAt s from l (place + 1) es
      → from + length (encode_all es) ≡ length (encode e) → 1 + records_all es ≡ records e
      → ((b c d : Expr) → TermsAt s from l (place + 1) (b ∷ c ∷ d ∷ [])
      → P (f b c d) (from + length (encode_all (b ∷ c ∷ d ∷ []))) (place + 1 + records b + records c + records d))
      → P e (length (encode e)) (place + records e)
  three_filled (fill3 {f = f} {a = b} {b = c} {c = d}) t used next v = moved P (f b c d) used (omega (arith, next)) (v b c d t)

-- ## A term whose record was read

module _ {s : List ℕ} {levels place : ℕ} (e : Expr) (t : TermAt s levels place e) {h : Head} (k : Headed s e t.more h) where
  pub levels_left : 1 ≤ levels
  levels_left = omega (arith, depth_is e, t.deep)

  pub node_filled : {n : Node} → node_of (record_of s h) ≡ n → Fill n (kids e) e
  node_filled i = subst (λ n. Fill n (kids e) e) i (subst (λ r. Fill (node_of r) (kids e) e) (sym k.same) (own_node e).1)

  pub kids_text : TermsAt s h.size (levels - 1) (place + 1) (kids e)
  kids_text =
      record {
        more = t.more;
        start = k.inside;
        bytes = k.behind;
        fits = ((fits_is e).0 t.fits).1;
        deep = omega (arith, depth_is e, t.deep);
        low = omega (arith, records_is e, t.low);
      }

  pub used_is : h.size + length (encode_all (kids e)) ≡ length (encode e)
  used_is = omega (arith, k.size, length_is e)

  -- what is said of its node with the children behind its record is said of the term
  module _ (P : Expr → (used next : ℕ) → Type 0) where
    pub one_kid : {f : Expr → Expr} → node_of (record_of s h) ≡ node1 f
        → ((b : Expr) → TermsAt s h.size (levels - 1) (place + 1) (b ∷ []) → P (f b) (h.size + length (encode b)) (place + 1 + records b))
        → P e (length (encode e)) (place + records e)
    one_kid n = one_filled s h.size (levels - 1) place P (node_filled n) kids_text used_is (sym (records_is e))

    pub two_kids : {f : Expr → Expr → Expr} → node_of (record_of s h) ≡ node2 f
        → ((b c : Expr) → TermsAt s h.size (levels - 1) (place + 1) (b ∷ c ∷ [])
        → P (f b c) (h.size + length (encode_all (b ∷ c ∷ []))) (place + 1 + records b + records c))
        → P e (length (encode e)) (place + records e)
    two_kids n = two_filled s h.size (levels - 1) place P (node_filled n) kids_text used_is (sym (records_is e))

    pub three_kids : {f : Expr → Expr → Expr → Expr} → node_of (record_of s h) ≡ node3 f
        → ((b c d : Expr) → TermsAt s h.size (levels - 1) (place + 1) (b ∷ c ∷ d ∷ [])
        → P (f b c d) (h.size + length (encode_all (b ∷ c ∷ d ∷ []))) (place + 1 + records b + records c + records d))
        → P e (length (encode e)) (place + records e)
    three_kids n = three_filled s h.size (levels - 1) place P (node_filled n) kids_text used_is (sym (records_is e))

  -- a term without children is its record
  pub alone : 0 ≡ arity_of (kind_number h.kind) → (node_of (record_of s h) ≡ node0 e) × (h.size ≡ length (encode e)) × (1 ≡ records e)
  alone none =
      let f = fill_none (node_filled refl) (arity_is (record_of s h) ∙ sym none) in
      (f.0, omega (arith, used_is, ap (λ es. length (encode_all es)) f.1), omega (arith, records_is e, ap records_all f.1))

-- ## The walk over it

-- the terms behind a record of what `&s[at..]` holds are behind it in the whole
pub from_part : {s : List ℕ} {at n l place : ℕ} {es : List Expr} → at ≤ length s → TermsAt (part at s) n l place es → TermsAt s (at + n) l place es
from_part {s} {at} {n} h t =
    record {
      more = t.more;
      start = omega (arith, h, t.start, ap length (part_is at s), length-drop at s);
      bytes = sym (drop-drop n at s) ∙ ap (drop n) (sym (part_is at s)) ∙ t.bytes;
      fits = t.fits;
      deep = t.deep;
      low = t.low;
    }

-- such a record is inside the whole
pub record_inside : (s : List ℕ) (at : ℕ) {e : Expr} {more : List ℕ} {h : Head} → at ≤ length s → Headed (part at s) e more h → at + h.size ≤ length s
record_inside s at low k = omega (arith, low, k.inside, ap length (part_is at s), length-drop at s)

-- h was read there
module _ {s xs : List ℕ} {at levels last top a : ℕ} (place : ℕ) (q : Ready s at levels place last top a xs) {h : Head}
    (found : RecordFound (drop at s) (Ok h)) where
  abbrev k : Headed (part at s) q.term q.text.more h
  k = text_head s at q.text found

  abbrev pub node : Node
  node = node_of (record_of (part at s) h)

  abbrev e : Expr
  e = q.term

  abbrev text : TermAt (part at s) levels place e
  text = in_part s at q.text

  pub some_left : 1 ≤ levels
  some_left = levels_left e text k

  pub kids_stack : Stack xs last top a (levels - 1 + 1) q.env
  kids_stack = stack_moved q.stack (kept_all last xs) (omega arith) q.stack.below (omega (arith, some_left))

  -- what is said, with bytes counted from the term's first
  abbrev WalkedTo : ℕ → List ℕ → Result Walked Refused → Expr → ℕ → ℕ → Type 0
  WalkedTo l ys r e used next = WalkedAs (desugar q.env e place (left a)) (at + used) next top a l xs ys r

  abbrev Term : List ℕ → Result Walked Refused → Type 0
  Term ys r = WalkedTo levels ys r e (length (encode e)) (place + records e)

  deeper : (ys : List ℕ) (r : Result Walked Refused) → WalkedTo (levels - 1 + 1) ys r e (length (encode e)) (place + records e) → Term ys r
  deeper ys r = subst (λ l. WalkedTo l ys r e (length (encode e)) (place + records e)) (omega (arith, some_left))

  -- bytes that are counted from the front, counted from the term's first
  counted : (f : Expr) (ys : List ℕ) (r : Result Walked Refused) (u next : ℕ)
      → WalkedAs (desugar q.env f place (left a)) (at + h.size + u) next top a (levels - 1 + 1) xs ys r → WalkedTo (levels - 1 + 1) ys r f (h.size + u) next
  counted f ys r u next = subst (λ n. WalkedAs (desugar q.env f place (left a)) n next top a (levels - 1 + 1) xs ys r) (omega arith)

  abbrev one_ready : (b : Expr) → TermsAt (part at s) h.size (levels - 1) (place + 1) (b ∷ []) → ReadyOne s (at + h.size) (levels - 1) place last top a xs
  one_ready b t = record { first = b; env = q.env; text = from_part q.start t; stack = kids_stack }

  abbrev two_ready : (b c : Expr) → TermsAt (part at s) h.size (levels - 1) (place + 1) (b ∷ c ∷ []) → ReadyTwo s (at + h.size) (levels - 1) place last top a xs
  two_ready b c t = record { first = b; second = c; env = q.env; text = from_part q.start t; stack = kids_stack }

  abbrev three_ready : (b c d : Expr) → TermsAt (part at s) h.size (levels - 1) (place + 1) (b ∷ c ∷ d ∷ [])
      → ReadyThree s (at + h.size) (levels - 1) place last top a xs
  three_ready b c d t = record { first = b; second = c; third = d; env = q.env; text = from_part q.start t; stack = kids_stack }

  pub one_asked : {f : Expr → Expr} → node ≡ node1 f → ReadyOne s (at + h.size) (levels - 1) place last top a xs
  one_asked n = one_kid e text k (λ _ _ _. ReadyOne s (at + h.size) (levels - 1) place last top a xs) n one_ready

  pub two_asked : {f : Expr → Expr → Expr} → node ≡ node2 f → ReadyTwo s (at + h.size) (levels - 1) place last top a xs
  two_asked n = two_kids e text k (λ _ _ _. ReadyTwo s (at + h.size) (levels - 1) place last top a xs) n two_ready

  pub three_asked : {f : Expr → Expr → Expr → Expr} → node ≡ node3 f → ReadyThree s (at + h.size) (levels - 1) place last top a xs
  three_asked n = three_kids e text k (λ _ _ _. ReadyThree s (at + h.size) (levels - 1) place last top a xs) n three_ready

  pub one_done : {f : Expr → Expr} (ys : List ℕ) (r : Result Walked Refused) → node ≡ node1 f
      → ((p : ReadyOne s (at + h.size) (levels - 1) place last top a xs)
      → WalkedAs (desugar p.env (f p.first) place (left a)) (at + h.size + length (encode p.first)) (place + 1 + records p.first) top a (levels - 1 + 1) xs ys r)
      → Term ys r
  one_done {f} ys r n v =
      deeper ys r (one_kid e text k (WalkedTo (levels - 1 + 1) ys r) n (λ b t.
      counted (f b) ys r (length (encode b)) (place + 1 + records b) (v (one_ready b t))))

  pub two_done : {f : Expr → Expr → Expr} (ys : List ℕ) (r : Result Walked Refused) → node ≡ node2 f
      → ((p : ReadyTwo s (at + h.size) (levels - 1) place last top a xs)
      → WalkedAs (desugar p.env (f p.first p.second) place (left a)) (at + h.size + length (encode_all (p.first ∷ p.second ∷ [])))
      (place + 1 + records p.first + records p.second) top a (levels - 1 + 1) xs ys r)
      → Term ys r
  two_done {f} ys r n v =
      deeper ys r (two_kids e text k (WalkedTo (levels - 1 + 1) ys r) n (λ b c t.
      counted (f b c) ys r (length (encode_all (b ∷ c ∷ []))) (place + 1 + records b + records c) (v (two_ready b c t))))

  pub three_done : {f : Expr → Expr → Expr → Expr} (ys : List ℕ) (r : Result Walked Refused) → node ≡ node3 f
      → ((p : ReadyThree s (at + h.size) (levels - 1) place last top a xs)
      → WalkedAs (desugar p.env (f p.first p.second p.third) place (left a))
      (at + h.size + length (encode_all (p.first ∷ p.second ∷ p.third ∷ [])))
      (place + 1 + records p.first + records p.second + records p.third) top a (levels - 1 + 1) xs ys r)
      → Term ys r
  three_done {f} ys r n v =
      deeper ys r (three_kids e text k (WalkedTo (levels - 1 + 1) ys r) n (λ b c d t.
      counted (f b c d) ys r (length (encode_all (b ∷ c ∷ d ∷ []))) (place + 1 + records b + records c + records d) (v (three_ready b c d t))))

  -- ## A leaf

  pub leaf_ready : LeafReady (part at s) h place last top a xs
  leaf_ready =
      record {
        inside = k.found;
        low = omega (arith, records_is e, q.text.low);
        env = q.env;
        bound = q.stack.bound;
        below = q.stack.below;
        room = omega (arith, q.stack.room);
        small = omega (arith, q.stack.small);
      }

  pub leaf_done : (ys : List ℕ) (r : Result Walked Refused) → 0 ≡ arity_of (kind_number h.kind)
      → ((e : Expr) (env : Env Core) → node ≡ node0 e → Bound xs last env
      → WalkedAs (desugar env e place (left a)) (at + h.size) (place + 1) top a 0 xs ys r)
      → Term ys r
  leaf_done ys r none v =
      let f = alone e text k none in
      wider (desugar q.env e place (left a)) (desugar q.env e place (left a)) (at + length (encode e)) (at + h.size) (place + records e) (place + 1) top top a a levels 0 xs xs ys r
      refl (ap (λ n. at + n) f.1) (omega (arith, f.2)) (omega arith) (omega arith) (omega arith) (kept_all top xs)
      (v e q.env f.0 q.stack.bound)
