-- What the functions of this crate answer, in the words of the definitions.
use mathlib.Core.{Path.◌≡◌, Bool.Bool, Bool.cond, Bool.◌||◌, List.List, List.[], List.◌∷◌, Bool.◌&&◌}
use Rattle.std.specs.Prelude.{ℕ, ◌+◌, ◌^◌, ◌≤◌, ◌<◌, zero, suc, Result, Ok, Err, Option, Some, None, IfOk, MatchResult}
use lib.{Dec.leb, ListN.length, ListN.get_or, ListN.take, ListN.drop, Dec.ltb, Dec.eqb}
use Rattle.literals.specs.{Bits.bit_at, Bits.Bits, Bits.unpack, Reading.Read, Reading.got, Reading.fault, Reading.Reads, Reading.◌>>=◌, Reading.give, Reading.ask, Reading.byte, Reading.nonzero, Reading.literal, Reading.max_literal, Reading.bytes_for, Results.LiteralInside}
use Rattle.literals.specs.declared.Literal.{Literal}
use Rattle.refusals.specs.Refusals.{number_of}
use Rattle.refusals.specs.declared.Refusal.{Refusal}
use Rattle.refusals.specs.declared.Refused.{Refused}
use Rattle.expr.specs.{Answers.Answer, Answers.ok, Answers.map_answer, Answers.answered, Terms.Expr, Terms.records, Records.Record, Records.kind_fields, Records.none_lacks, Records.is_match, Records.fits_pattern, Records.read_record, Form.max_records, Form.Node, Form.node_of, Form.node0, Form.node1, Form.node2, Form.node3, Form.parse, Answers.and_then, Form.plain_record, Terms.test_kind, Form.decode, Operations.is_test_fragment, Operations.num_fields}
use Rattle.expr.specs.Kinds.{kind_number, pattern_number}
use Rattle.expr.specs.declared.records.Head.{Head}
use Rattle.expr.specs.declared.kind.Kind.{Kind}
use Rattle.expr.specs.declared.kind.Pattern.{Pattern}
use Rattle.expr.specs.declared.reader.Reader.{Reader}
use Rattle.expr.specs.declared.form.Taken.{Taken}

-- ## Reading

-- at the first byte
pub record AtStart (s : List ℕ) (r : Reader) : Type 0 where
  pub same : r.bytes.now ≡ s
  pub first : r.at ≡ 0

-- the bytes that are next
abbrev pub ahead : Reader → List ℕ
ahead r = drop r.at r.bytes.now

-- what f says of the value that was read, and the bytes behind it; or the refusal's number
abbrev pub found_answer : {A B : Type 0} → (A → B) → Reader → Result A Refusal → Read B
found_answer f r (Ok a) = got (f a) (ahead r)
found_answer f r (Err e) = fault (number_of e)

-- what p reads of the bytes that are next was read, in n bytes at least
pub record Found {A B : Type 0} (p : Reads B) (f : A → B) (n : ℕ) (before after : Reader) (r : Result A Refusal) : Type 0 where
  pub answer : found_answer f after r ≡ p (ahead before)
  pub same : after.bytes.now ≡ before.bytes.now
  pub inside : MatchResult r (λ a. before.at + n ≤ after.at) (λ e. number_of e ≤ 5)

abbrev pub ByteFound : Reader → Reader → Result ℕ Refusal → Type 0
ByteFound r r' x = Found byte (λ b. b) 1 r r' x

-- a number of n bytes where b says that its bit stands, and else 0
pub record NumberFound (n : ℕ) (b : Bool) (before after : Reader) (r : Result ℕ Refusal) : Type 0 where
  pub found : Found (cond b (nonzero n) (give 0)) (λ v. v) 0 before after r
  pub small : IfOk r λ v. v < 256 ^ n

-- the bits of a literal, taken from the bytes s
abbrev pub bits_of : List ℕ → Literal → Bits
bits_of s l = take l.bits (unpack (drop l.at s))

-- a literal where b says that its bit stands, and else none
pub record LiteralField (b : Bool) (before after : Reader) (r : Result Literal Refusal) : Type 0 where
  pub found : Found (cond b literal (give [])) (bits_of before.bytes.now) 0 before after r
  pub inside : LiteralInside before.bytes.now before.at r
  pub next : IfOk r λ l. l.next ≡ after.at

-- ## The parts of a record

-- the map in which these bits stand
abbrev pub map_with : List ℕ → ℕ
map_with [] = 0
map_with (i ∷ is) = 2 ^ i + map_with is

-- the map bits that a kind has, bit 0 among them
abbrev pub kind_map : ℕ → ℕ
kind_map k = map_with (0 ∷ get_or kind_fields k [])

-- "Then 3, a map bit that the kind lacks."
abbrev pub none_foreign : ℕ → ℕ → Bool
none_foreign k m = none_lacks k m (1 ∷ 2 ∷ 3 ∷ 4 ∷ 5 ∷ 6 ∷ 7 ∷ [])

-- the map and the kind
abbrev pub read_kind : Reads (ℕ × ℕ)
read_kind =
    byte >>= λ m.
    cond (bit_at 0 m) (nonzero 1 >>= λ k. ask (leb k 26) 2 >>= λ _. give k) (give 0) >>= λ k.
    ask (none_foreign k m) 3 >>= λ _.
    give (m, k)

-- the name, start and end
abbrev pub read_range : ℕ → Reads (ℕ × ℕ × ℕ)
read_range m =
    cond (bit_at 1 m) (nonzero 2) (give 0) >>= λ name.
    cond (bit_at 2 m) (nonzero 4) (give 0) >>= λ start.
    cond (bit_at 3 m) (nonzero 4) (give 0) >>= λ end.
    give (name, start, end)

-- the pattern and the number
abbrev pub read_pattern : ℕ → ℕ → Reads (ℕ × ℕ)
read_pattern m k =
    cond (bit_at 4 m) (nonzero 1 >>= λ p. ask (leb p 3) 5 >>= λ _. give p) (give 0) >>= λ pattern.
    ask (fits_pattern k pattern m) 3 >>= λ _.
    cond (bit_at 5 m) (nonzero 1 >>= λ v. ask (is_match k || leb v 1) 5 >>= λ _. give v) (give 0) >>= λ number.
    give (pattern, number)

abbrev pub KindFound : Reader → Reader → Result (ℕ × Kind) Refusal → Type 0
KindFound r r' x = Found read_kind (λ k. (k.0, kind_number k.1)) 1 r r' x

abbrev pub RangeFound : ℕ → Reader → Reader → Result (ℕ × ℕ × ℕ) Refusal → Type 0
RangeFound m r r' x = Found (read_range m) (λ v. v) 0 r r' x

abbrev pub PatternFound : ℕ → ℕ → Reader → Reader → Result (Pattern × ℕ) Refusal → Type 0
PatternFound m k r r' x = Found (read_pattern m k) (λ p. (pattern_number p.0, p.1)) 0 r r' x

-- ## A record

-- the record that a head stands for, its literals taken from the bytes s
abbrev pub record_of : List ℕ → Head → Record
record_of s h =
    record {
      kind = kind_number h.kind;
      name = h.name;
      start = h.start;
      end = h.end;
      pattern = pattern_number h.pattern;
      number = h.number;
      lit_a = bits_of s h.a;
      lit_b = bits_of s h.b;
    }

abbrev pub head_answer : List ℕ → Result Head Refusal → Read Record
head_answer s (Ok h) = got (record_of s h) (drop h.size s)
head_answer s (Err e) = fault (number_of e)

-- its literals lie inside the bytes with all their bits, and it has at least its map byte
abbrev pub HeadInside : List ℕ → Result Head Refusal → Type 0
HeadInside s (Ok h) = (1 ≤ h.size) × (h.size ≤ length s) × (h.a.at + bytes_for h.a.bits ≤ length s) × (h.b.at + bytes_for h.b.bits ≤ length s) × (h.a.bits ≤ max_literal) × (h.b.bits ≤ max_literal)
HeadInside s (Err e) = number_of e ≤ 5

-- the head of a record that is the kind k alone, in two bytes, whatever stands behind them
pub record BareHead (k : ℕ) (h : Head) : Type 0 where
  pub same : (s : List ℕ) → record_of s h ≡ plain_record k
  pub size : h.size ≡ 2
  pub inside : (s : List ℕ) → 2 ≤ length s → HeadInside s (Ok h)

pub record RecordFound (s : List ℕ) (r : Result Head Refusal) : Type 0 where
  pub answer : head_answer s r ≡ read_record s
  pub inside : HeadInside s r

-- the record from the byte at on, which has the index place
abbrev pub RecordFoundAt : List ℕ → ℕ → ℕ → Result Head Refused → Type 0
RecordFoundAt s at place (Ok h) = RecordFound (drop at s) (Ok h)
RecordFoundAt s at place (Err e) = RecordFound (drop at s) (Err e.refusal) × (e.place ≡ place)

-- ## Form

-- the bytes and records that a tree takes: s is cut where it ends
abbrev pub tree_answer : List ℕ → Result Taken Refused → Answer (ℕ × List ℕ)
tree_answer s r = map_answer (λ t. (t.next, drop t.used s)) (answered r)

abbrev pub TreeInside : List ℕ → Result Taken Refused → Type 0
TreeInside s (Ok t) = (t.used ≤ length s) × (t.next ≤ max_records)
TreeInside s (Err e) = number_of e.refusal ≤ 8

-- the tree at the front of the bytes: the index behind it, and the bytes that are left
abbrev pub tree_from : ℕ → ℕ → List ℕ → Answer (ℕ × List ℕ)
tree_from d at bs = map_answer (λ p. (p.next, p.rest)) (parse d at bs)

-- as many trees, one behind the other
abbrev pub trees_from : ℕ → ℕ → ℕ → List ℕ → Answer (ℕ × List ℕ)
trees_from d zero at bs = ok (at, bs)
trees_from d (suc n) at bs = and_then (tree_from d at bs) λ r. trees_from d n r.0 r.1

-- the answer x was found in the bytes s
pub record TreeFormed (x : Answer (ℕ × List ℕ)) (s : List ℕ) (r : Result Taken Refused) : Type 0 where
  pub answer : tree_answer s r ≡ x
  pub inside : TreeInside s r

-- how many children a node has, and how many a record of a kind
abbrev pub child_count : Node → ℕ
child_count (node0 e) = 0
child_count (node1 f) = 1
child_count (node2 f) = 2
child_count (node3 f) = 3

abbrev pub arity_of : ℕ → ℕ
arity_of k = child_count (node_of (plain_record k))

-- n trees are asked for, from the byte at and the record place on
pub record TreesAsked (n at place : ℕ) (s : List ℕ) : Type 0 where
  pub few : n ≤ 3
  pub start : at ≤ length s
  pub low : place ≤ max_records

-- a good form: all bytes are used, and the records are counted
abbrev pub form_answer : Result Taken Refused → Answer (ℕ × ℕ)
form_answer r = map_answer (λ t. (t.used, t.next)) (answered r)

abbrev pub shape_of : List ℕ → Answer Expr → Answer (ℕ × ℕ)
shape_of s x = map_answer (λ e. (length s, records e)) x

-- ## Test fragment and Field count

-- a term of good form
abbrev pub Term : List ℕ → Type 0
Term s = (e : Expr) × (decode s ≡ ok e)

-- the kinds of the test fragment: tests, their operators, negation, and tests and matches of ranges
abbrev pub fragment_kind : ℕ → Bool
fragment_kind k = test_kind k || (eqb k 16 || (eqb k 22 || (leb 24 k && leb k 26)))

abbrev pub FragmentOf : List ℕ → Bool → Type 0
FragmentOf s r = (e : Expr) → decode s ≡ ok e → r ≡ is_test_fragment e

abbrev pub FieldsOf : List ℕ → Result ℕ Refused → Type 0
FieldsOf s r = (e : Expr) → decode s ≡ ok e → answered r ≡ num_fields e 0

-- what a record gives to the field count by itself, or none where field + 1 is beyond 32 bits
abbrev pub own_fields : ℕ → ℕ → ℕ → Option ℕ
own_fields k s e =
    cond (leb 5 k && leb k 6) (cond (ltb (s + 1) (2 ^ 32)) (Some (s + 1)) None)
    (cond (eqb k 19 || (leb 23 k && leb k 25)) (Some e) (Some 0))
