-- The scan for the test fragment: a term is in it if each record's kind may stand there.
use mathlib.Core.Path.{◌≡◌, refl, sym, ap, ◌∙◌}
use mathlib.Core.Bool.{Bool, true, false, ◌&&◌, and-true, and_assoc}
use mathlib.Core.List.{List, [], ◌∷◌, ◌++◌}
use Prim.Native.Nat.{ℕ, ◌+◌, ◌≤◌}
use lib.ListN.{length}
use Rattle.expr.specs.Kinds.{kind_number}
use Rattle.expr.specs.Answers.{ok}
use Rattle.expr.specs.Terms.{Zero, One, Top, Dup, End, Assign, Test, Complement, Star, LtlNext, Union, Intersect, Xor, Difference, Sequence, LtlUntil, Direct, Alias, Assigns, Tests, Matches, Expr, Plain, Unary, Binary, TestNegation, IfThenElse, Let, LetBitRange, Var, Ranged}
use Rattle.expr.specs.Form.{decode}
use Rattle.expr.specs.Operations.{is_test_fragment}
use Rattle.expr.specs.Results.{Term, fragment_kind, FragmentOf}
use Rattle.expr.specs.declared.records.Head.{Head}
use Rattle.expr.proofs.TermShape.{own, kids}
use Rattle.expr.proofs.Scans.{match_kind, Left, left_start, left_none, Step}
use Rattle.expr.proofs.Slices.{Sliced, bytes_each}

abbrev pub fragment_all : List Expr → Bool
fragment_all [] = true
fragment_all (e ∷ es) = is_test_fragment e && fragment_all es

-- a term is in the fragment if its own record and its children are
fragment_own : (e : Expr) (es : List Expr) → fragment_all (e ∷ es) ≡ (fragment_kind (own e).kind && fragment_all (kids e ++ es))
fragment_own (Plain Zero) es = refl
fragment_own (Plain One) es = refl
fragment_own (Plain Top) es = refl
fragment_own (Plain Dup) es = refl
fragment_own (Plain End) es = refl
fragment_own (Plain (Assign f v)) es = refl
fragment_own (Plain (Test f v)) es = refl
fragment_own (Unary Complement e) es = refl
fragment_own (Unary Star e) es = refl
fragment_own (Unary LtlNext e) es = refl
fragment_own (Binary Union a b) es = and_assoc (is_test_fragment a) (is_test_fragment b) (fragment_all es)
fragment_own (Binary Intersect a b) es = and_assoc (is_test_fragment a) (is_test_fragment b) (fragment_all es)
fragment_own (Binary Xor a b) es = and_assoc (is_test_fragment a) (is_test_fragment b) (fragment_all es)
fragment_own (Binary Difference a b) es = and_assoc (is_test_fragment a) (is_test_fragment b) (fragment_all es)
fragment_own (Binary Sequence a b) es = and_assoc (is_test_fragment a) (is_test_fragment b) (fragment_all es)
fragment_own (Binary LtlUntil a b) es = refl
fragment_own (TestNegation e) es = refl
fragment_own (IfThenElse c t e) es = refl
fragment_own (Let x d b) es = refl
fragment_own (LetBitRange x s e b) es = refl
fragment_own (Var x) es = refl
fragment_own (Ranged (Alias x) (Assigns a)) es = refl
fragment_own (Ranged (Alias x) (Tests a)) es = refl
fragment_own (Ranged (Alias x) (Matches p)) es = rw (match_kind 26 x 0 0 p) refl
fragment_own (Ranged (Direct s e) (Assigns a)) es = refl
fragment_own (Ranged (Direct s e) (Tests a)) es = refl
fragment_own (Ranged (Direct s e) (Matches p)) es = rw (match_kind 25 0 s e p) refl

-- ## The scan

-- a term of good form is in the fragment if the terms that are left are
pub record FragmentLeft (s : List ℕ) (at : ℕ) : Type 0 where
  pub terms : List Expr
  pub left : Left s at terms
  pub answer : (e : Expr) → decode s ≡ ok e → is_test_fragment e ≡ fragment_all terms

pub fragment_start : {s : List ℕ} → Sliced s → Term s → FragmentLeft s 0
fragment_start {s} each t =
    record {
      terms = t.0 ∷ [];
      left = left_start s t.0 (bytes_each s each) t.1;
      answer = λ e d. let same : e ≡ t.0 = cc in ap is_test_fragment same ∙ sym (and-true (is_test_fragment t.0));
    }

module _ {s : List ℕ} {at : ℕ} (l : FragmentLeft s at) where
  pub fragment_end : length s ≤ at → FragmentOf s true
  fragment_end h e d = sym (l.answer e d ∙ ap fragment_all (left_none l.terms l.left h))

  module _ {h : Head} (u : Step s at l.terms h) where
    -- what the kind of the record says of the answer
    by_kind : {b : Bool} → b ≡ fragment_kind (kind_number h.kind) → (e : Expr) → decode s ≡ ok e
        → is_test_fragment e ≡ (b && fragment_all (kids u.first ++ u.others))
    by_kind k e d =
        l.answer e d ∙ ap fragment_all u.are ∙ fragment_own u.first u.others
        ∙ ap (λ c. c && fragment_all (kids u.first ++ u.others)) (sym (k ∙ ap (λ r. fragment_kind r.kind) u.own_is))

    pub fragment_no : false ≡ fragment_kind (kind_number h.kind) → FragmentOf s false
    fragment_no k e d = sym (by_kind k e d)

    pub fragment_step : true ≡ fragment_kind (kind_number h.kind) → FragmentLeft s (at + h.size)
    fragment_step k = record { terms = kids u.first ++ u.others; left = u.left; answer = by_kind k }
