-- The operations on terms alone: Test fragment, Field count and Substitute (document 01, and src/expr.rs for trees).
use mathlib.Core.{Bool.Bool, Bool.true, Bool.false, Bool.cond, Bool.◌&&◌, List.List}
use Rattle.std.specs.Prelude.{ℕ, ◌+◌, ◌^◌, max}
use lib.{Dec.leb, Dec.ltb, Dec.eqb, ListN.length}
use Rattle.expr.specs.{Answers.Answer, Answers.ok, Answers.refuse, Answers.and_then, Answers.map_answer, Answers.need, Terms.Atom, Terms.Zero, Terms.One, Terms.Top, Terms.Dup, Terms.End, Terms.Assign, Terms.Test, Terms.Name, Terms.Direct, Terms.Alias, Terms.Use, Terms.Assigns, Terms.Tests, Terms.Matches, Terms.Expr, Terms.Plain, Terms.Unary, Terms.Binary, Terms.TestNegation, Terms.IfThenElse, Terms.Let, Terms.LetBitRange, Terms.Var, Terms.Ranged, Terms.atom_kind, Terms.op2_kind, Terms.test_kind, Terms.records, Terms.depth, Form.max_records, Form.max_depth, Form.decode, Form.encode}

-- `Expr::is_test_fragment`
abbrev pub is_test_use : Use → Bool
is_test_use (Assigns a) = false
is_test_use (Tests a) = true
is_test_use (Matches m) = true

abbrev pub is_test_fragment : Expr → Bool
is_test_fragment (Plain a) = test_kind (atom_kind a)
is_test_fragment (Unary o e) = false
is_test_fragment (Binary o a b) = test_kind (op2_kind o) && (is_test_fragment a && is_test_fragment b)
is_test_fragment (TestNegation e) = is_test_fragment e
is_test_fragment (IfThenElse c t e) = false
is_test_fragment (Let x d b) = false
is_test_fragment (LetBitRange x s e b) = false
is_test_fragment (Var x) = false
is_test_fragment (Ranged w u) = is_test_use u

-- "Test fragment: form only, then yes or no."
abbrev pub fragment_bytes : List ℕ → Answer Bool
fragment_bytes bs = map_answer is_test_fragment (decode bs)

-- `Expr::num_fields`: the greatest of field + 1 of an Assign or Test and the end of a direct range or of a LetBitRange; 0 where there is none
abbrev pub atom_fields : Atom → ℕ
atom_fields Zero = 0
atom_fields One = 0
atom_fields Top = 0
atom_fields Dup = 0
atom_fields End = 0
atom_fields (Assign f v) = f + 1
atom_fields (Test f v) = f + 1

-- "25 at the first Assign or Test of field 4,294,967,295", whose count is beyond 32 bits
abbrev pub num_fields : Expr → ℕ → Answer ℕ
num_fields (Plain a) at = and_then (need (ltb (atom_fields a) (2 ^ 32)) 25 at) λ _. ok (atom_fields a)
num_fields (Unary o e) at = num_fields e (at + 1)
num_fields (Binary o a b) at =
    and_then (num_fields a (at + 1)) λ m.
    and_then (num_fields b (at + 1 + records a)) λ n.
    ok (max m n)
num_fields (TestNegation e) at = num_fields e (at + 1)
num_fields (IfThenElse c t e) at =
    and_then (num_fields c (at + 1)) λ l.
    and_then (num_fields t (at + 1 + records c)) λ m.
    and_then (num_fields e (at + 1 + records c + records t)) λ n.
    ok (max (max l m) n)
num_fields (Let x d b) at =
    and_then (num_fields d (at + 1)) λ m.
    and_then (num_fields b (at + 1 + records d)) λ n.
    ok (max m n)
num_fields (LetBitRange x s e b) at = map_answer (max e) (num_fields b (at + 1))
num_fields (Var x) at = ok 0
num_fields (Ranged (Direct s e) u) at = ok e
num_fields (Ranged (Alias x) u) at = ok 0

-- "Field count: form, then 25"
abbrev pub fields_bytes : List ℕ → Answer ℕ
fields_bytes bs = and_then (decode bs) λ e. num_fields e 0

-- `Expr::substitute`: each occurrence of the variable that does not lie in the body of a Let or LetBitRange of that name
abbrev pub substitute : Name → Expr → Expr → Expr
substitute x r (Plain a) = Plain a
substitute x r (Unary o e) = Unary o (substitute x r e)
substitute x r (Binary o a b) = Binary o (substitute x r a) (substitute x r b)
substitute x r (TestNegation e) = TestNegation (substitute x r e)
substitute x r (IfThenElse c t e) = IfThenElse (substitute x r c) (substitute x r t) (substitute x r e)
substitute x r (Let y d b) = Let y (substitute x r d) (cond (eqb y x) b (substitute x r b))
substitute x r (LetBitRange y s e b) = LetBitRange y s e (cond (eqb y x) b (substitute x r b))
substitute x r (Var y) = cond (eqb y x) r (Var y)
substitute x r (Ranged w u) = Ranged w u

-- "form of the replacement as 31 to 38"
abbrev pub raised : {A : Type 0} → Answer A → Answer A
raised (ok a) = ok a
raised (refuse r at) = refuse (30 + r) at

-- "26 encoded core longer than the answer buffer": the bytes of an answer in a buffer with room for so many
abbrev pub into_room : List ℕ → ℕ → Answer (List ℕ)
into_room bs room = and_then (need (leb (length bs) room) 26 0) λ _. ok bs

-- "Substitute: form of the term; form of the replacement as 31 to 38; 27 result over 4,096 records or depth 256; 26 as above."
abbrev pub substitute_bytes : List ℕ → Name → List ℕ → ℕ → Answer (List ℕ)
substitute_bytes bs x rs room =
    and_then (decode bs) λ e.
    and_then (raised (decode rs)) λ r.
    let s : Expr = substitute x r e in
    and_then (need (leb (records s) max_records && leb (depth s) max_depth) 27 0) λ _.
    into_room (encode s) room
