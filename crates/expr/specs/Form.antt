-- A term's bytes: reading with the refusals 1 to 8, and writing (document 01, "Form" and "Term bytes").
use mathlib.Core.{List.List, List.[], List.◌∷◌, List.◌++◌}
use Rattle.std.specs.Prelude.{ℕ, zero, suc, ◌+◌, ◌^◌, ◌≤◌, ◌<◌}
use lib.{Dec.ltb, Dec.eqb, ListN.length, ListN.get_or}
use Rattle.literals.specs.{Bits.Bits, Bits.bit, Patterns.Pattern, Patterns.Exact, Patterns.Cidr, Patterns.Wildcard, Patterns.IpRange, Reading.Read, Reading.got, Reading.fault, Reading.max_literal}
use Rattle.expr.specs.{Answers.Answer, Answers.ok, Answers.refuse, Answers.and_then, Answers.need, Terms.Atom, Terms.Zero, Terms.One, Terms.Top, Terms.Dup, Terms.End, Terms.Assign, Terms.Test, Terms.Complement, Terms.Star, Terms.LtlNext, Terms.Union, Terms.Intersect, Terms.Xor, Terms.Difference, Terms.Sequence, Terms.LtlUntil, Terms.Core, Terms.leaf, Terms.one, Terms.two, Terms.Where, Terms.Direct, Terms.Alias, Terms.Use, Terms.Assigns, Terms.Tests, Terms.Matches, Terms.Expr, Terms.Plain, Terms.Unary, Terms.Binary, Terms.TestNegation, Terms.IfThenElse, Terms.Let, Terms.LetBitRange, Terms.Var, Terms.Ranged, Terms.op1_kind, Terms.op2_kind, Terms.records, Terms.depth, Records.Record, Records.read_record, Records.write_record}

-- "6 more than 4,096 records, 7 depth over 256"
abbrev pub max_records : ℕ
max_records = 4096

abbrev pub max_depth : ℕ
max_depth = 256

-- a node still without its children
pub data Node : Type 0 where
  node0 : Expr → Node
  node1 : (Expr → Expr) → Node
  node2 : (Expr → Expr → Expr) → Node
  node3 : (Expr → Expr → Expr → Expr) → Node

-- "4 pattern (1: 0 Exact, 1 Cidr, 2 Wildcard, 3 IpRange; .."
abbrev pub pattern_of : Record → Pattern
pattern_of h = get_or (Exact h.lit_a ∷ Cidr h.lit_a h.number ∷ Wildcard h.lit_a h.lit_b ∷ IpRange h.lit_a h.lit_b ∷ []) h.pattern (Exact h.lit_a)

-- "Kinds: 0 Zero, 1 One, ..": the kinds 0 to 26 in their order
abbrev pub nodes : Record → List Node
nodes h =
    node0 (Plain Zero) ∷ node0 (Plain One) ∷ node0 (Plain Top) ∷ node0 (Plain Dup) ∷ node0 (Plain End)
    ∷ node0 (Plain (Assign h.start (eqb h.number 1))) ∷ node0 (Plain (Test h.start (eqb h.number 1)))
    ∷ node2 (Binary Union) ∷ node2 (Binary Intersect) ∷ node2 (Binary Xor) ∷ node2 (Binary Difference) ∷ node2 (Binary Sequence)
    ∷ node2 (Binary LtlUntil) ∷ node1 (Unary Complement) ∷ node1 (Unary Star) ∷ node1 (Unary LtlNext) ∷ node1 TestNegation
    ∷ node3 IfThenElse ∷ node2 (Let h.name) ∷ node1 (LetBitRange h.name h.start h.end) ∷ node0 (Var h.name)
    ∷ node0 (Ranged (Alias h.name) (Assigns h.lit_a)) ∷ node0 (Ranged (Alias h.name) (Tests h.lit_a))
    ∷ node0 (Ranged (Direct h.start h.end) (Assigns h.lit_a)) ∷ node0 (Ranged (Direct h.start h.end) (Tests h.lit_a))
    ∷ node0 (Ranged (Direct h.start h.end) (Matches (pattern_of h))) ∷ node0 (Ranged (Alias h.name) (Matches (pattern_of h)))
    ∷ []

abbrev pub node_of : Record → Node
node_of h = get_or (nodes h) h.kind (node0 (Plain Zero))

-- a term, the index of the record behind it, and the bytes that are left
pub record Parsed : Type 0 where
  pub term : Expr
  pub next : ℕ
  pub rest : List ℕ

abbrev pub Parses : Type 0
Parses = ℕ → List ℕ → Answer Parsed

abbrev pub parsed : Expr → ℕ → List ℕ → Answer Parsed
parsed e at bs = ok (record { term = e; next = at; rest = bs })

-- "Each child's bytes are read from where they begin."
abbrev pub children : Parses → Node → Parses
children parse (node0 e) at bs = parsed e at bs
children parse (node1 f) at bs = and_then (parse at bs) λ a. parsed (f a.term) a.next a.rest
children parse (node2 f) at bs =
    and_then (parse at bs) λ a.
    and_then (parse a.next a.rest) λ b.
    parsed (f a.term b.term) b.next b.rest
children parse (node3 f) at bs =
    and_then (parse at bs) λ a.
    and_then (parse a.next a.rest) λ b.
    and_then (parse b.next b.rest) λ c.
    parsed (f a.term b.term c.term) c.next c.rest

-- "The place of 1 to 7 is the record being read."
abbrev pub node_at : Parses → ℕ → Read Record → Answer Parsed
node_at parse at (got h bs) = children parse (node_of h) (at + 1) bs
node_at parse at (fault r) = refuse r at

-- "Before a record: 6 more than 4,096 records, 7 depth over 256 (the root is at 1), 1 bytes used up." The depth left falls
abbrev pub parse : ℕ → Parses
parse zero at bs = and_then (need (ltb at max_records) 6 at) λ _. refuse 7 at
parse (suc d) at bs = and_then (need (ltb at max_records) 6 at) λ _. node_at (parse d) at (read_record bs)

-- "When the tree is complete: 8 bytes left over, place the record count."
abbrev pub whole_term : Parsed → List ℕ → Answer Expr
whole_term r [] = ok r.term
whole_term r (b ∷ bs) = refuse 8 r.next

-- "Form, used by all term operations."
abbrev pub decode : List ℕ → Answer Expr
decode bs = and_then (parse max_depth 0 bs) λ r. whole_term r r.rest

-- Writing: a record with its kind alone, and one for each kind of term
abbrev pub plain_record : ℕ → Record
plain_record k = record { kind = k; name = 0; start = 0; end = 0; pattern = 0; number = 0; lit_a = []; lit_b = [] }

abbrev pub atom_record : Atom → Record
atom_record Zero = plain_record 0
atom_record One = plain_record 1
atom_record Top = plain_record 2
atom_record Dup = plain_record 3
atom_record End = plain_record 4
atom_record (Assign f v) = record { kind = 5; name = 0; start = f; end = 0; pattern = 0; number = bit v; lit_a = []; lit_b = [] }
atom_record (Test f v) = record { kind = 6; name = 0; start = f; end = 0; pattern = 0; number = bit v; lit_a = []; lit_b = [] }

abbrev pub name_record : ℕ → ℕ → ℕ → ℕ → Record
name_record k x s e = record { kind = k; name = x; start = s; end = e; pattern = 0; number = 0; lit_a = []; lit_b = [] }

abbrev pub literal_record : ℕ → ℕ → ℕ → ℕ → Bits → Record
literal_record k x s e a = record { kind = k; name = x; start = s; end = e; pattern = 0; number = 0; lit_a = a; lit_b = [] }

abbrev pub match_record : ℕ → ℕ → ℕ → ℕ → Pattern → Record
match_record k x s e (Exact a) = literal_record k x s e a
match_record k x s e (Cidr a n) = record { kind = k; name = x; start = s; end = e; pattern = 1; number = n; lit_a = a; lit_b = [] }
match_record k x s e (Wildcard a m) = record { kind = k; name = x; start = s; end = e; pattern = 2; number = 0; lit_a = a; lit_b = m }
match_record k x s e (IpRange a b) = record { kind = k; name = x; start = s; end = e; pattern = 3; number = 0; lit_a = a; lit_b = b }

abbrev pub ranged_record : Where → Use → Record
ranged_record (Alias x) (Assigns a) = literal_record 21 x 0 0 a
ranged_record (Alias x) (Tests a) = literal_record 22 x 0 0 a
ranged_record (Alias x) (Matches m) = match_record 26 x 0 0 m
ranged_record (Direct s e) (Assigns a) = literal_record 23 0 s e a
ranged_record (Direct s e) (Tests a) = literal_record 24 0 s e a
ranged_record (Direct s e) (Matches m) = match_record 25 0 s e m

-- "A term is its records in prefix order."
abbrev pub encode : Expr → List ℕ
encode (Plain a) = write_record (atom_record a)
encode (Unary o e) = write_record (plain_record (op1_kind o)) ++ encode e
encode (Binary o a b) = write_record (plain_record (op2_kind o)) ++ encode a ++ encode b
encode (TestNegation e) = write_record (plain_record 16) ++ encode e
encode (IfThenElse c t e) = write_record (plain_record 17) ++ encode c ++ encode t ++ encode e
encode (Let x d b) = write_record (name_record 18 x 0 0) ++ encode d ++ encode b
encode (LetBitRange x s e b) = write_record (name_record 19 x s e) ++ encode b
encode (Var x) = write_record (name_record 20 x 0 0)
encode (Ranged w u) = write_record (ranged_record w u)

-- "Kinds 0 to 15 are the core.": a core as a term, and its bytes
abbrev pub written : Core → Expr
written (leaf a) = Plain a
written (one o c) = Unary o (written c)
written (two o a b) = Binary o (written a) (written b)

abbrev pub encode_core : Core → List ℕ
encode_core c = encode (written c)

-- "Bit 0 kind (1 byte); 1 name (2); 2 start or field (4); ..": numbers that their bytes can hold, and literals not too long
pub record RecordFits (h : Record) : Type 0 where
  pub name : h.name < 2 ^ 16
  pub start : h.start < 2 ^ 32
  pub end : h.end < 2 ^ 32
  pub number : h.number < 2 ^ 8
  pub lit_a : length h.lit_a ≤ max_literal
  pub lit_b : length h.lit_b ≤ max_literal

abbrev pub Fits : Expr → Type 0
Fits (Plain a) = RecordFits (atom_record a)
Fits (Unary o e) = Fits e
Fits (Binary o a b) = Fits a × Fits b
Fits (TestNegation e) = Fits e
Fits (IfThenElse c t e) = Fits c × Fits t × Fits e
Fits (Let x d b) = RecordFits (name_record 18 x 0 0) × Fits d × Fits b
Fits (LetBitRange x s e b) = RecordFits (name_record 19 x s e) × Fits b
Fits (Var x) = RecordFits (name_record 20 x 0 0)
Fits (Ranged w u) = RecordFits (ranged_record w u)

-- what form accepts
pub record Within (e : Expr) : Type 0 where
  pub count : records e ≤ max_records
  pub deep : depth e ≤ max_depth
  pub fits : Fits e
