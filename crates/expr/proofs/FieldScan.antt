-- The scan for the field count: the highest of what the records need by themselves, or 25 at the first that needs too many.
use mathlib.Core.Path.{◌≡◌, refl, sym, ap, ◌∙◌}
use mathlib.Core.Bool.{Bool, true, false, cond}
use mathlib.Core.List.{List, [], ◌∷◌, ◌++◌}
use Prim.Native.Nat.{ℕ, ◌+◌, ◌^◌, ◌≤◌, max}
use native.Mathlib.Nat.{max-zero}
use native.Mathlib.Omega.{arith}
use lib.Dec.{ltb}
use lib.ListN.{length}
use Rattle.std.specs.Prelude.{Option, Some, None}
use Rattle.expr.specs.Kinds.{kind_number}
use Rattle.expr.specs.Answers.{Answer, ok, refuse, and_then, map_answer, need}
use Rattle.expr.specs.Terms.{Zero, One, Top, Dup, End, Assign, Test, Complement, Star, LtlNext, Union, Intersect, Xor, Difference, Sequence, LtlUntil, Direct, Alias, Assigns, Tests, Matches, Expr, Plain, Unary, Binary, TestNegation, IfThenElse, Let, LetBitRange, Var, Ranged, records}
use Rattle.expr.specs.Records.{Record}
use Rattle.expr.specs.Form.{max_records, decode}
use Rattle.expr.specs.Operations.{num_fields}
use Rattle.expr.specs.Results.{Term, own_fields}
use Rattle.expr.specs.declared.records.Head.{Head}
use Rattle.expr.proofs.TermShape.{own, kids, records_all, records_is}
use Rattle.expr.proofs.FormTheorem.{decode_only}
use Rattle.expr.proofs.Scans.{records_append, match_kind, match_end, Left, left_start, left_none, Step}
use Rattle.expr.proofs.Slices.{Sliced, bytes_each}

-- the count of terms from a place on, where it is m before them
abbrev pub fields_all : List Expr → ℕ → ℕ → Answer ℕ
fields_all [] at m = ok m
fields_all (e ∷ es) at m = and_then (num_fields e at) λ n. fields_all es (at + records e) (max m n)

-- go on with the fields that a record needs by itself
abbrev pub counted : Option ℕ → ℕ → (ℕ → Answer ℕ) → Answer ℕ
counted None at f = refuse 25 at
counted (Some n) at f = f n

abbrev pub record_fields : Record → Option ℕ
record_fields h = own_fields h.kind h.start h.end

-- go on behind an answer, however it came about
after : {A B C : Type 0} (x : Answer A) (f : A → Answer B) (g : B → Answer C) {h : A → Answer C}
    → ((a : A) → and_then (f a) g ≡ h a) → and_then (and_then x f) g ≡ and_then x h
after (ok a) f g k = k a
after (refuse r p) f g k = refl

mapped : {A B C : Type 0} (f : A → B) (x : Answer A) (g : B → Answer C) {h : A → Answer C}
    → ((a : A) → g (f a) ≡ h a) → and_then (map_answer f x) g ≡ and_then x h
mapped f (ok a) g k = k a
mapped f (refuse r p) g k = refl

same_then : {A B : Type 0} (x : Answer A) {f g : A → Answer B} → ((a : A) → f a ≡ g a) → and_then x f ≡ and_then x g
same_then (ok a) k = k a
same_then (refuse r p) k = refl

-- the same terms from the same place and count
from : (es : List Expr) {at at' m m' : ℕ} → at ≡ at' → m ≡ m' → fields_all es at m ≡ fields_all es at' m'
from es p q i = fields_all es (p i) (q i)

-- an Assign or a Test of the field f
field_own : (b : Bool) (f at : ℕ) (g : ℕ → Answer ℕ)
    → and_then (and_then (need b 25 at) λ _. ok (f + 1)) g ≡ counted (cond b (Some (f + 1)) None) at g
field_own true f at g = refl
field_own false f at g = refl

max_three : (m l k n : ℕ) → max m (max (max l k) n) ≡ max (max (max (max m 0) l) k) n
max_three m l k n = rw (max_assoc m (max l k) n, max_assoc m l k, max-zero m)
  where
    max_assoc : (a b c : ℕ) → max a (max b c) ≡ max (max a b) c
    max_assoc a b c = omega arith

-- a term with one child or two, and no fields of its own
one_own : (e : Expr) (es : List Expr) (at m : ℕ)
    → and_then (num_fields e (at + 1)) (λ n. fields_all es (at + (1 + records e)) (max m n)) ≡ fields_all (e ∷ es) (at + 1) (max m 0)
one_own e es at m = same_then (num_fields e (at + 1)) (λ n. from es (omega arith) (omega arith))

two_own : (a b : Expr) (es : List Expr) (at m : ℕ)
    → and_then (and_then (num_fields a (at + 1)) λ k. and_then (num_fields b (at + 1 + records a)) λ n. ok (max k n))
    (λ n. fields_all es (at + (1 + records a + records b)) (max m n)) ≡ fields_all (a ∷ b ∷ es) (at + 1) (max m 0)
two_own a b es at m =
    after (num_fields a (at + 1)) _ _ (λ k. after (num_fields b (at + 1 + records a)) _ _ (λ n. from es (omega arith) (omega arith)))

-- the count of a term is that of its own record, and then of its children
fields_own : (e : Expr) (es : List Expr) (at m : ℕ)
    → fields_all (e ∷ es) at m ≡ counted (record_fields (own e)) at (λ n. fields_all (kids e ++ es) (at + 1) (max m n))
fields_own (Plain Zero) es at m = refl
fields_own (Plain One) es at m = refl
fields_own (Plain Top) es at m = refl
fields_own (Plain Dup) es at m = refl
fields_own (Plain End) es at m = refl
fields_own (Plain (Assign f v)) es at m = field_own (ltb (f + 1) (2 ^ 32)) f at (λ n. fields_all es (at + 1) (max m n))
fields_own (Plain (Test f v)) es at m = field_own (ltb (f + 1) (2 ^ 32)) f at (λ n. fields_all es (at + 1) (max m n))
fields_own (Unary Complement e) es at m = one_own e es at m
fields_own (Unary Star e) es at m = one_own e es at m
fields_own (Unary LtlNext e) es at m = one_own e es at m
fields_own (Binary Union a b) es at m = two_own a b es at m
fields_own (Binary Intersect a b) es at m = two_own a b es at m
fields_own (Binary Xor a b) es at m = two_own a b es at m
fields_own (Binary Difference a b) es at m = two_own a b es at m
fields_own (Binary Sequence a b) es at m = two_own a b es at m
fields_own (Binary LtlUntil a b) es at m = two_own a b es at m
fields_own (TestNegation e) es at m = one_own e es at m
fields_own (IfThenElse c t e) es at m =
    after (num_fields c (at + 1)) _ _ (λ l.
    after (num_fields t (at + 1 + records c)) _ _ (λ k.
    after (num_fields e (at + 1 + records c + records t)) _ _ (λ n. from es (omega arith) (max_three m l k n))))
fields_own (Let x d b) es at m = two_own d b es at m
fields_own (LetBitRange x s e b) es at m = mapped (max e) (num_fields b (at + 1)) _ (λ n. from es (omega arith) (omega arith))
fields_own (Var x) es at m = refl
fields_own (Ranged (Alias x) (Assigns a)) es at m = refl
fields_own (Ranged (Alias x) (Tests a)) es at m = refl
fields_own (Ranged (Alias x) (Matches p)) es at m = rw (match_kind 26 x 0 0 p) refl
fields_own (Ranged (Direct s e) (Assigns a)) es at m = refl
fields_own (Ranged (Direct s e) (Tests a)) es at m = refl
fields_own (Ranged (Direct s e) (Matches p)) es at m = rw (match_kind 25 0 s e p, match_end 25 0 s e p) refl

-- ## The scan

-- the count of a term of good form is that of the terms that are left, from this place and count on
pub record FieldsLeft (s : List ℕ) (at place count : ℕ) : Type 0 where
  pub terms : List Expr
  pub left : Left s at terms
  pub low : place + records_all terms ≤ max_records
  pub answer : (e : Expr) → decode s ≡ ok e → num_fields e 0 ≡ fields_all terms place count

pub fields_start : {s : List ℕ} → Sliced s → Term s → FieldsLeft s 0 0 0
fields_start {s} each t =
    let b = bytes_each s each in
    record {
      terms = t.0 ∷ [];
      left = left_start s t.0 b t.1;
      low = omega (arith, (decode_only s t.0 b t.1).0.count);
      answer = λ e d. let same : e ≡ t.0 = cc in ap (λ x. num_fields x 0) same ∙ whole (num_fields t.0 0);
    }
  where
    whole : (x : Answer ℕ) → x ≡ and_then x (λ n. ok (max 0 n))
    whole (ok n) = ap ok (omega arith)
    whole (refuse r p) = refl

module _ {s : List ℕ} {at place count : ℕ} (l : FieldsLeft s at place count) where
  pub fields_end : length s ≤ at → (e : Expr) → decode s ≡ ok e → ok count ≡ num_fields e 0
  fields_end h e d = sym (l.answer e d ∙ ap (λ es. fields_all es place count) (left_none l.terms l.left h))

  module _ {h : Head} (u : Step s at l.terms h) where
    -- what the record needs by itself says of the answer
    by_fields : {o : Option ℕ} → o ≡ own_fields (kind_number h.kind) h.start h.end → (e : Expr) → decode s ≡ ok e
        → num_fields e 0 ≡ counted o place (λ n. fields_all (kids u.first ++ u.others) (place + 1) (max count n))
    by_fields k e d =
        l.answer e d ∙ ap (λ es. fields_all es place count) u.are ∙ fields_own u.first u.others place count
        ∙ ap (λ o. counted o place (λ n. fields_all (kids u.first ++ u.others) (place + 1) (max count n))) (sym (k ∙ ap record_fields u.own_is))

    pub fields_over : None ≡ own_fields (kind_number h.kind) h.start h.end → (e : Expr) → decode s ≡ ok e → refuse 25 place ≡ num_fields e 0
    fields_over k e d = sym (by_fields k e d)

    pub fields_step : {n more : ℕ} → Some n ≡ own_fields (kind_number h.kind) h.start h.end → more ≡ max count n
        → FieldsLeft s (at + h.size) (place + 1) more
    fields_step k m =
        record {
          terms = kids u.first ++ u.others;
          left = u.left;
          low = omega (arith, l.low, ap records_all u.are, records_is u.first, records_append (kids u.first) u.others);
          answer = λ e d. by_fields k e d ∙ ap (fields_all (kids u.first ++ u.others) (place + 1)) (sym m);
        }
