-- Reading core bytes back (document 02, change 1).
use mathlib.Core.{Bool.Bool, Bool.false, Bool.cond, Bool.◌&&◌, List.List, List.[], List.◌∷◌}
use Rattle.std.specs.Prelude.{ℕ, zero, suc, ◌+◌, ◌*◌, ◌≤◌}
use lib.{Dec.leb, Dec.eqb, ListN.get_or}
use Rattle.literals.specs.{Bits.bit_at, Reading.Read, Reading.got, Reading.fault, Reading.Reads}
use Rattle.expr.specs.{Answers.Answer, Answers.ok, Answers.refuse, Answers.and_then, Answers.map_answer, Answers.need, Terms.Atom, Terms.Zero, Terms.One, Terms.Top, Terms.Dup, Terms.End, Terms.Assign, Terms.Test, Terms.Op1, Terms.Complement, Terms.Star, Terms.LtlNext, Terms.Op2, Terms.Union, Terms.Intersect, Terms.Xor, Terms.Difference, Terms.Sequence, Terms.LtlUntil, Terms.Core, Terms.leaf, Terms.one, Terms.two, Terms.size, Records.Record, Records.read_record, Form.written, Form.Fits, Operations.num_fields}

-- "up to 65,535 records at any depth"
abbrev pub max_core : ℕ
max_core = 65535

-- "41, a kind from 16 to 26, looked at beside 2": the kind's bit stands, and its byte is one of these
abbrev pub term_kind : List ℕ → Bool
term_kind [] = false
term_kind (m ∷ []) = false
term_kind (m ∷ k ∷ bs) = bit_at 0 m && (leb 16 k && leb k 26)

-- "Form refusals hold as for terms": otherwise a record is read as a term's is
abbrev pub read_core_record : Reads Record
read_core_record bs = cond (term_kind bs) (fault 41) (read_record bs)

-- a node still without its operands
pub data CoreNode : Type 0 where
  atom : Atom → CoreNode
  unary : Op1 → CoreNode
  binary : Op2 → CoreNode

-- "Kinds 0 to 15 are the core.", in their order
abbrev pub core_nodes : Record → List CoreNode
core_nodes h =
    atom Zero ∷ atom One ∷ atom Top ∷ atom Dup ∷ atom End ∷ atom (Assign h.start (eqb h.number 1)) ∷ atom (Test h.start (eqb h.number 1))
    ∷ binary Union ∷ binary Intersect ∷ binary Xor ∷ binary Difference ∷ binary Sequence ∷ binary LtlUntil
    ∷ unary Complement ∷ unary Star ∷ unary LtlNext ∷ []

abbrev pub core_node : Record → CoreNode
core_node h = get_or (core_nodes h) h.kind (atom Zero)

-- n cores
abbrev pub Cores : ℕ → Type 0
Cores zero = Unit {0}
Cores (suc n) = Core × Cores n

-- how many cores are due after a node's record, if n are due besides it: its operands, then those n
abbrev pub due_behind : CoreNode → ℕ → ℕ
due_behind (atom a) n = n
due_behind (unary o) n = suc n
due_behind (binary o) n = suc (suc n)

-- the node with its operands, which are the first of these cores; the n others are kept
abbrev pub put_over : (m : CoreNode) (n : ℕ) → Cores (due_behind m n) → Cores (suc n)
put_over (atom a) n cs = (leaf a, cs)
put_over (unary o) n cs = (one o cs.0, cs.1)
put_over (binary o) n cs = (two o cs.0 cs.1.0, cs.1.1)

-- a reader of `due` cores, one after the other; `at` is the index of the next record. It gives the cores, and the bytes that are left
abbrev pub ReadsCores : Type 0
ReadsCores = (due at : ℕ) → List ℕ → Answer (Cores due × List ℕ)

-- "placed as 1 to 7 are": behind a record that was read, its operands and the other cores are due
abbrev pub core_at : ReadsCores → (due at : ℕ) → Read Record → Answer (Cores (suc due) × List ℕ)
core_at reads due at (got h bs) = map_answer (λ r. (put_over (core_node h) due r.0, r.1)) (reads (due_behind (core_node h) due) (at + 1) bs)
core_at reads due at (fault r) = refuse r at

-- "42, more than 65,535 records, where 6 stood": `left` is how many records may still be read; 42 if a core is due and `left` is 0
abbrev pub read_cores : (left : ℕ) → ReadsCores
read_cores zero zero at bs = ok (tt, bs)
read_cores zero (suc due) at bs = refuse 42 at
read_cores (suc left) zero at bs = ok (tt, bs)
read_cores (suc left) (suc due) at bs = core_at (read_cores left) due at (read_core_record bs)

-- "8 bytes left over, place the record count"
abbrev pub whole_core : Core → List ℕ → Answer Core
whole_core c [] = ok c
whole_core c (b ∷ bs) = refuse 8 (size c)

-- "Form refusals hold as for terms, without 6 and 7": one core, and nothing behind it
abbrev pub decode_core : List ℕ → Answer Core
decode_core bs = and_then (read_cores max_core 1 0 bs) λ r. whole_core r.0.0 r.1

-- "and 25 follows them for the top field. A lent record list with under three numbers for each record is 10, last.": a core and its field count,
-- for a list of room numbers
abbrev pub into_list : Core → ℕ → Answer (Core × ℕ)
into_list c room = and_then (num_fields (written c) 0) λ n. and_then (need (leb (3 * size c) room) 10 0) λ _. ok (c, n)

-- "Add a reader of core bytes, .. giving the records .., their count and the field count.": the records and their count are the core's
-- (desugar/specs/CoreRecords: words; expr/specs/Terms: size)
abbrev pub read_core : List ℕ → ℕ → Answer (Core × ℕ)
read_core bs room = and_then (decode_core bs) λ c. into_list c room

-- what reading accepts: "up to 65,535 records at any depth", with fields that four bytes can hold
pub record CoreWithin (c : Core) : Type 0 where
  pub few : size c ≤ max_core
  pub fits : Fits (written c)
