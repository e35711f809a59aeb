-- Where refusals stand: at a record of the term, or right behind its last.
use mathlib.Core.Path.{◌≡◌, refl}
use mathlib.Core.Bool.{Bool, true, false}
use mathlib.Core.List.{List, [], ◌∷◌}
use Prim.Native.Nat.{ℕ, zero, suc, ◌+◌, ◌^◌, ◌≤◌, ◌<◌, max}
use native.Mathlib.Omega.{arith}
use lib.Dec.{ltb}
use Rattle.literals.specs.Reading.{Read, got, fault}
use Rattle.literals.proofs.Logic.{leb_is}
use Rattle.expr.specs.Answers.{Answer, ok, refuse, and_then, map_answer, need}
use Rattle.expr.specs.Terms.{Expr, Plain, Unary, Binary, TestNegation, IfThenElse, Let, LetBitRange, Var, Ranged, Direct, Alias, records}
use Rattle.expr.specs.Records.{Record, read_record}
use Rattle.expr.specs.Form.{max_records, max_depth, Node, node0, node1, node2, node3, node_of, Parsed, children, node_at, parse, whole_term, decode}
use Rattle.expr.specs.Operations.{atom_fields, num_fields}

-- a refusal's place is below n
abbrev pub Placed : {A : Type 0} → ℕ → Answer A → Type 0
Placed n (ok a) = Unit {0}
Placed n (refuse r at) = at < n

pub placed_then : {A B : Type 0} (n : ℕ) (x : Answer A) (f : A → Answer B) → Placed n x → ((a : A) → Placed n (f a)) → Placed n (and_then x f)
placed_then n (ok a) f h k = k a
placed_then n (refuse r at) f h k = h

pub placed_map : {A B : Type 0} (n : ℕ) (f : A → B) (x : Answer A) → Placed n x → Placed n (map_answer f x)
placed_map n f (ok a) h = tt
placed_map n f (refuse r at) h = h

pub placed_need : (n : ℕ) (b : Bool) (r at : ℕ) → at < n → Placed n (need b r at)
placed_need n true r at h = tt
placed_need n false r at h = h

-- ## Form

-- a tree ends at a record's index that there may be, and a refusal stands at one
abbrev Low : Answer Parsed → Type 0
Low (ok r) = r.next ≤ max_records
Low (refuse r at) = at ≤ max_records

low_then : (x : Answer Parsed) (f : Parsed → Answer Parsed) → Low x → ((r : Parsed) → r.next ≤ max_records → Low (f r)) → Low (and_then x f)
low_then (ok a) f h k = k a h
low_then (refuse r at) f h k = h

low_need : (b : Bool) (r at : ℕ) (x : Answer Parsed) → at ≤ max_records → (b ≡ true → Low x) → Low (and_then (need b r at) (λ _. x))
low_need true r at x h k = k refl
low_need false r at x h k = h

module _ (d : ℕ) (each : (at : ℕ) (bs : List ℕ) → at ≤ max_records → Low (parse d at bs)) where
  low_children : (n : Node) (at : ℕ) (bs : List ℕ) → at ≤ max_records → Low (children (parse d) n at bs)
  low_children (node0 e) at bs h = h
  low_children (node1 f) at bs h = low_then (parse d at bs) _ (each at bs h) (λ a k. k)
  low_children (node2 f) at bs h = low_then (parse d at bs) _ (each at bs h) (λ a k. low_then (parse d a.next a.rest) _ (each a.next a.rest k) (λ b l. l))
  low_children (node3 f) at bs h =
      low_then (parse d at bs) _ (each at bs h) (λ a k.
      low_then (parse d a.next a.rest) _ (each a.next a.rest k) (λ b l.
      low_then (parse d b.next b.rest) _ (each b.next b.rest l) (λ c m. m)))

  low_node : (at : ℕ) (x : Read Record) → at < max_records → Low (node_at (parse d) at x)
  low_node at (got h bs) l = low_children (node_of h) (at + 1) bs (omega arith)
  low_node at (fault r) l = omega arith

low_parse : (d at : ℕ) (bs : List ℕ) → at ≤ max_records → Low (parse d at bs)
low_parse zero at bs h = low_need (ltb at max_records) 6 at _ h (λ _. h)
low_parse (suc d) at bs h = low_need (ltb at max_records) 6 at _ h (λ k. low_node d (low_parse d) at (read_record bs) ((leb_is (suc at) max_records).0 k))

pub decode_placed : (bs : List ℕ) → Placed (max_records + 1) (decode bs)
decode_placed bs = go (parse max_depth 0 bs) (low_parse max_depth 0 bs (omega arith))
  where
    whole : (r : Parsed) (rest : List ℕ) → r.next ≤ max_records → Placed (max_records + 1) (whole_term r rest)
    whole r [] h = tt
    whole r (b ∷ bs) h = omega (arith, h)

    go : (x : Answer Parsed) → Low x → Placed (max_records + 1) (and_then x λ r. whole_term r r.rest)
    go (ok r) h = whole r r.rest h
    go (refuse r at) h = omega (arith, h)

-- ## Field count

-- of a term whose records end at or before n
pub fields_placed : (n : ℕ) (e : Expr) (at : ℕ) → at + records e ≤ n → Placed n (num_fields e at)
fields_placed n (Plain a) at h =
    placed_then n (need (ltb (atom_fields a) (2 ^ 32)) 25 at) _ (placed_need n (ltb (atom_fields a) (2 ^ 32)) 25 at (omega arith)) (λ _. tt)
fields_placed n (Unary o e) at h = fields_placed n e (at + 1) (omega arith)
fields_placed n (Binary o a b) at h =
    placed_then n (num_fields a (at + 1)) _ (fields_placed n a (at + 1) (omega arith)) (λ _.
    placed_then n (num_fields b (at + 1 + records a)) _ (fields_placed n b (at + 1 + records a) (omega arith)) (λ _. tt))
fields_placed n (TestNegation e) at h = fields_placed n e (at + 1) (omega arith)
fields_placed n (IfThenElse c t e) at h =
    placed_then n (num_fields c (at + 1)) _ (fields_placed n c (at + 1) (omega arith)) (λ _.
    placed_then n (num_fields t (at + 1 + records c)) _ (fields_placed n t (at + 1 + records c) (omega arith)) (λ _.
    placed_then n (num_fields e (at + 1 + records c + records t)) _ (fields_placed n e (at + 1 + records c + records t) (omega arith)) (λ _. tt)))
fields_placed n (Let x d b) at h =
    placed_then n (num_fields d (at + 1)) _ (fields_placed n d (at + 1) (omega arith)) (λ _.
    placed_then n (num_fields b (at + 1 + records d)) _ (fields_placed n b (at + 1 + records d) (omega arith)) (λ _. tt))
fields_placed n (LetBitRange x s e b) at h = placed_map n (max e) (num_fields b (at + 1)) (fields_placed n b (at + 1) (omega arith))
fields_placed n (Var x) at h = tt
fields_placed n (Ranged (Direct s e) u) at h = tt
fields_placed n (Ranged (Alias x) u) at h = tt
