-- A term by its own record and its children.
use mathlib.Core.Path.{◌≡◌, refl, sym, ◌∙◌}
use mathlib.Core.Logic.{◌↔◌}
use mathlib.Core.List.{List, [], ◌∷◌, ◌++◌, append_assoc, append-nil}
use Prim.Native.Nat.{ℕ, ◌+◌}
use native.Mathlib.Omega.{arith}
use Rattle.expr.specs.Terms.{Expr, Plain, Unary, Binary, TestNegation, IfThenElse, Let, LetBitRange, Var, Ranged, op1_kind, op2_kind, records, depth}
use Rattle.expr.specs.Records.{Record, write_record}
pub use Rattle.expr.specs.Replaced.{encode_all, records_all, depth_all, FitAll}
use Rattle.expr.specs.Form.{plain_record, atom_record, name_record, ranged_record, encode, RecordFits, Fits}

abbrev pub own : Expr → Record
own (Plain a) = atom_record a
own (Unary o e) = plain_record (op1_kind o)
own (Binary o a b) = plain_record (op2_kind o)
own (TestNegation e) = plain_record 16
own (IfThenElse c t e) = plain_record 17
own (Let x d b) = name_record 18 x 0 0
own (LetBitRange x s e b) = name_record 19 x s e
own (Var x) = name_record 20 x 0 0
own (Ranged w u) = ranged_record w u

abbrev pub kids : Expr → List Expr
kids (Plain a) = []
kids (Unary o e) = e ∷ []
kids (Binary o a b) = a ∷ b ∷ []
kids (TestNegation e) = e ∷ []
kids (IfThenElse c t e) = c ∷ t ∷ e ∷ []
kids (Let x d b) = d ∷ b ∷ []
kids (LetBitRange x s e b) = b ∷ []
kids (Var x) = []
kids (Ranged w u) = []

behind : (w a b : List ℕ) → w ++ a ++ b ≡ w ++ (a ++ (b ++ []))
behind w a b = simp (append_assoc, append-nil)

pub encode_is : (e : Expr) → encode e ≡ write_record (own e) ++ encode_all (kids e)
encode_is (Plain a) = sym (append-nil (write_record (atom_record a)))
encode_is (Unary o e) = simp append-nil
encode_is (Binary o a b) = behind (write_record (plain_record (op2_kind o))) (encode a) (encode b)
encode_is (TestNegation e) = simp append-nil
encode_is (IfThenElse c t e) =
    behind (write_record (plain_record 17) ++ encode c) (encode t) (encode e)
    ∙ append_assoc (write_record (plain_record 17)) (encode c) (encode t ++ (encode e ++ []))
encode_is (Let x d b) = behind (write_record (name_record 18 x 0 0)) (encode d) (encode b)
encode_is (LetBitRange x s e b) = simp append-nil
encode_is (Var x) = sym (append-nil (write_record (name_record 20 x 0 0)))
encode_is (Ranged w u) = sym (append-nil (write_record (ranged_record w u)))

pub records_is : (e : Expr) → records e ≡ 1 + records_all (kids e)
records_is (Plain a) = refl
records_is (Unary o e) = omega arith
records_is (Binary o a b) = omega arith
records_is (TestNegation e) = omega arith
records_is (IfThenElse c t e) = omega arith
records_is (Let x d b) = omega arith
records_is (LetBitRange x s e b) = omega arith
records_is (Var x) = refl
records_is (Ranged w u) = refl

pub depth_is : (e : Expr) → depth e ≡ 1 + depth_all (kids e)
depth_is (Plain a) = refl
depth_is (Unary o e) = omega arith
depth_is (Binary o a b) = omega arith
depth_is (TestNegation e) = omega arith
depth_is (IfThenElse c t e) = omega arith
depth_is (Let x d b) = omega arith
depth_is (LetBitRange x s e b) = omega arith
depth_is (Var x) = refl
depth_is (Ranged w u) = refl

plain_fits : (k : ℕ) → RecordFits (plain_record k)
plain_fits k =
    record { name = omega arith; start = omega arith; end = omega arith; number = omega arith; lit_a = omega arith; lit_b = omega arith }

pub fits_is : (e : Expr) → Fits e ↔ (RecordFits (own e) × FitAll (kids e))
fits_is (Plain a) = ((λ f. (f, tt)), (λ f. f.0))
fits_is (Unary o e) = ((λ f. (plain_fits (op1_kind o), (f, tt))), (λ f. f.1.0))
fits_is (Binary o a b) = ((λ f. (plain_fits (op2_kind o), (f.0, (f.1, tt)))), (λ f. (f.1.0, f.1.1.0)))
fits_is (TestNegation e) = ((λ f. (plain_fits 16, (f, tt))), (λ f. f.1.0))
fits_is (IfThenElse c t e) = ((λ f. (plain_fits 17, (f.0, (f.1, (f.2, tt))))), (λ f. (f.1.0, f.1.1.0, f.1.1.1.0)))
fits_is (Let x d b) = ((λ f. (f.0, (f.1, (f.2, tt)))), (λ f. (f.0, f.1.0, f.1.1.0)))
fits_is (LetBitRange x s e b) = ((λ f. (f.0, (f.1, tt))), (λ f. (f.0, f.1.0)))
fits_is (Var x) = ((λ f. (f, tt)), (λ f. f.0))
fits_is (Ranged w u) = ((λ f. (f, tt)), (λ f. f.0))
