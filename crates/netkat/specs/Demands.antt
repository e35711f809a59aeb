-- The three demands, each as one record; proofs/Theorems.antt proves each. The words of the demands and of documents 01 and 02 stand in
-- quotation marks. "Every call on any bytes ends." has no field: the prover shows it of each function.
use mathlib.Core.{Path.◌≡◌, Logic.◌↔◌, Bool.true, Bool.false, Option.some, List.List, List.[], List.Memᴰ}
use Rattle.std.specs.Prelude.{ℕ, ◌+◌, ◌-◌, ◌*◌, ◌^◌, ◌≤◌, ◌<◌}
use lib.{ListN.length, ListN.take, ListN.get_or}
use Rattle.literals.specs.{Bits.Bits, Bits.bit_at, Bits.value_of, Patterns.Pattern, Patterns.Exact, Patterns.Cidr, Patterns.Wildcard, Patterns.IpRange}
use Rattle.expr.specs.{Answers.Answer, Answers.ok, Answers.refuse, Answers.map_answer, Terms.Core, Terms.Name, Terms.size, Terms.Expr, Terms.Ranged, Terms.Where, Terms.Direct, Terms.Assigns, Terms.Tests, Terms.Matches, Terms.records, Terms.depth, Form.decode, Form.encode, Form.written, Form.encode_core, Form.max_records, Form.max_depth, Form.Within, Operations.substitute}
use Rattle.desugar.specs.{Bindings.find_range, Meter.drawn, Meter.overdrawn, Negation.is_test, Desugar.work_for, Packets.Others, Packets.Packet, Packets.core_means, Claims.Limit, Claims.TestsFor, Claims.Sets}
use Rattle.costs.specs.{Lent.lent_pattern}
use Rattle.cores.specs.{Reading.decode_core, Reading.read_core}
use Rattle.packets.specs.{Running.max_packets, Running.packet_bytes, Claims.FirstShort}
use Rattle.netkat.specs.{Points.Scope, Points.Point, Points.walk, Points.definitions, Points.desugar_at, Points.means_at, Check.RulesHold, Check.first_failure, Entry.hosted, Entry.Hosts, Entry.Call, Entry.Check, Entry.TestFragment, Entry.FieldCount, Entry.Desugar, Entry.Substitute, Entry.Subrange, Entry.Cost, Entry.ReadCore, Entry.RunPackets, Entry.Answers, Claims.FirstHighest, Claims.OneStepKinds, Claims.Good, Claims.Allowed, Claims.Unlimited, Claims.Outcome, Claims.Desugared}
use Rattle.netkat.specs.declared.Answer.{Answer as HostAnswer}

-- ## Demand 1: what is refused

-- Check: "form, then the rules 11 to 23", the first that fails in walking order
pub data CheckDeclined (bs : List ℕ) : (number place : ℕ) → Type 0 where
  form : (r p : ℕ) → decode bs ≡ refuse r p → CheckDeclined bs r p
  rule : (e : Expr) (r p : ℕ) → decode bs ≡ ok e → first_failure (walk [] e 0) ≡ refuse r p → CheckDeclined bs r p

-- Field count: "form, then 25 at the first Assign or Test of field 4,294,967,295"
pub data FieldsDeclined (bs : List ℕ) : (number place : ℕ) → Type 0 where
  form : (r p : ℕ) → decode bs ≡ refuse r p → FieldsDeclined bs r p
  field : (e : Expr) (p : Point) → decode bs ≡ ok e → FirstHighest e p → FieldsDeclined bs 25 p.place

-- Desugar: "9 allowance ..; 10 work memory ..; form; rules and 24 in walking order; 26 encoded core longer than the answer buffer"
pub data DesugarDeclined (bs : List ℕ) (n work room : ℕ) : (number place : ℕ) → Type 0 where
  allowance : ¬ Allowed n → DesugarDeclined bs n work room 9 0
  memory : Allowed n → work < work_for n → DesugarDeclined bs n work room 10 0
  form : (r p : ℕ) → Allowed n → work_for n ≤ work → decode bs ≡ refuse r p → DesugarDeclined bs n work room r p
  -- the first rule that fails, where the allowance reaches it: ds set that threshold, and the places of 24 below it
  rule : (e : Expr) (ds : List (ℕ × ℕ)) (r p : ℕ) → Allowed n → work_for n ≤ work → decode bs ≡ ok e → Limit [] e 0 ds → drawn ds ≤ n
      → first_failure (walk [] e 0) ≡ refuse r p → DesugarDeclined bs n work room r p
  -- 24, at the first draw beyond the allowance
  beyond : (e : Expr) (ds : List (ℕ × ℕ)) → Allowed n → work_for n ≤ work → decode bs ≡ ok e → Limit [] e 0 ds → n < drawn ds
      → DesugarDeclined bs n work room 24 (overdrawn n ds)
  long : (e : Expr) (c : Core) (ds : List (ℕ × ℕ)) → Allowed n → work_for n ≤ work → decode bs ≡ ok e → Unlimited e c ds → drawn ds ≤ n
      → room < length (encode_core c) → DesugarDeclined bs n work room 26 0

-- a term within the limits on records and levels
abbrev pub InLimits : Expr → Type 0
InLimits e = (records e ≤ max_records) × (depth e ≤ max_depth)

-- Substitute: "form of the term; form of the replacement as 31 to 38; 27 result over 4,096 records or depth 256; 26 as above"
pub data SubstituteDeclined (bs : List ℕ) (x : Name) (rs : List ℕ) (room : ℕ) : (number place : ℕ) → Type 0 where
  form : (r p : ℕ) → decode bs ≡ refuse r p → SubstituteDeclined bs x rs room r p
  replacement : (e : Expr) (r p : ℕ) → decode bs ≡ ok e → decode rs ≡ refuse r p → SubstituteDeclined bs x rs room (30 + r) p
  large : (e t : Expr) → decode bs ≡ ok e → decode rs ≡ ok t → ¬ InLimits (substitute x t e) → SubstituteDeclined bs x rs room 27 0
  long : (e t : Expr) → decode bs ≡ ok e → decode rs ≡ ok t → InLimits (substitute x t e) → room < length (encode (substitute x t e))
      → SubstituteDeclined bs x rs room 26 0

-- `compute_subrange` gives fields: no `checked_add` overflows, and they lie inside the alias
pub record SubrangeInside (aliasStart aliasEnd subStart subEnd : ℕ) : Type 0 where
  pub start : aliasStart + subStart < 2 ^ 32
  pub end : aliasStart + subEnd < 2 ^ 32
  pub order : subStart ≤ subEnd
  pub inside : aliasStart + subEnd ≤ aliasEnd

-- Cost (document 02, change 5): "refused as the match would be, but never by 24, 26 or lack of room": what is out of form of the lent pattern,
-- then the rule that fails at the match, which is record 0 of its own term
pub data CostDeclined (s e p k : ℕ) (a b : List ℕ × ℕ) : (number place : ℕ) → Type 0 where
  form : (r q : ℕ) → lent_pattern p k a b ≡ refuse r q → CostDeclined s e p k a b r q
  rule : (m : Pattern) (r q : ℕ) → lent_pattern p k a b ≡ ok m → first_failure (walk [] (Ranged (Direct s e) (Matches m)) 0) ≡ refuse r q
      → CostDeclined s e p k a b r q

-- Read core (document 02, change 1): "Form refusals hold as for terms, without 6 and 7, and 25 follows them for the top field. A lent record list
-- with under three numbers for each record is 10, last."
pub data CoreDeclined (bs : List ℕ) (room : ℕ) : (number place : ℕ) → Type 0 where
  form : (r p : ℕ) → decode_core bs ≡ refuse r p → CoreDeclined bs room r p
  field : (c : Core) (p : Point) → decode_core bs ≡ ok c → FirstHighest (written c) p → CoreDeclined bs room 25 p.place
  short : (c : Core) → decode_core bs ≡ ok c → ((p : Point) → ¬ FirstHighest (written c) p) → room < 3 * size c → CoreDeclined bs room 10 0

-- Run packets (document 02, change 8): "The core's own reading refusals come first. (New, in this order after those: 48 the core is not a test, 49 no
-- packet or more than 64, 50 the first packet with fewer bits than the field count, its index as place.)" The core that was read is c, n its
-- field count
pub data PacketsDeclined (bs : List ℕ) (room : ℕ) (slice lengths : List ℕ) : (number place : ℕ) → Type 0 where
  reading : (r p : ℕ) → CoreDeclined bs room r p → PacketsDeclined bs room slice lengths r p
  no_test : (c : Core) (n : ℕ) → read_core bs room ≡ ok (c, n) → is_test c ≡ false → PacketsDeclined bs room slice lengths 48 0
  count : (c : Core) (n : ℕ) → read_core bs room ≡ ok (c, n) → is_test c ≡ true → ¬ ((1 ≤ length lengths) × (length lengths ≤ max_packets))
      → PacketsDeclined bs room slice lengths 49 0
  short : (c : Core) (n i : ℕ) → read_core bs room ≡ ok (c, n) → is_test c ≡ true → (1 ≤ length lengths) × (length lengths ≤ max_packets)
      → FirstShort n (packet_bytes lengths slice) i → PacketsDeclined bs room slice lengths 50 i

-- "each by its number and place in document 01": a call with an answer buffer of room bytes, or a record list of room numbers that it answers in, is
-- to be refused by a number at a place. Those of form are `decode`'s (expr/specs/Form), `lent_pattern`'s (costs/specs/Lent) and `decode_core`'s
-- (cores/specs/Reading), those of the rules `rule_at`'s (Check)
abbrev pub Declined : Call → (room number place : ℕ) → Type 0
Declined (Check bs) room r p = CheckDeclined bs r p
Declined (TestFragment bs) room r p = decode bs ≡ refuse r p
Declined (FieldCount bs) room r p = FieldsDeclined bs r p
Declined (Desugar bs n work) room r p = DesugarDeclined bs n work room r p
Declined (Substitute bs x rs) room r p = SubstituteDeclined bs x rs room r p
Declined (Subrange a b s e) room r p = ¬ SubrangeInside a b s e × (r ≡ 28) × (p ≡ 0)
Declined (Cost s e p k a b) room r q = CostDeclined s e p k a b r q
Declined (ReadCore bs) room r p = CoreDeclined bs room r p
Declined (RunPackets bs list ps ns) room r p = PacketsDeclined bs list ps ns r p

-- of an answer r, and the answer buffer before and after the call; declined says by which number and place the call is to be refused
pub record Demand1 (declined : (number place : ℕ) → Type 0) (out out' : List ℕ) (r : HostAnswer) : Type 0 where
  -- "are refused, each by its number and place": exactly these, and no number is 0
  pub refused : (k p : ℕ) → declined k p ↔ ((1 ≤ k) × (r ≡ hosted (refuse k p)))
  -- "with the answer buffer untouched"
  pub untouched : ¬ (r.number ≡ 0) → out' ≡ out
  -- "All other input is accepted.": success is number 0
  pub accepted : (r.number ≡ 0) ↔ ((k p : ℕ) → ¬ declined k p)

-- ## Demand 2: trees and forms

-- "with an allowance and buffers that cover it": a term whose draws are ds, with an allowance n and lengths of work memory and buffer
pub record Covers (e : Expr) (ds : List (ℕ × ℕ)) (n work room : ℕ) : Type 0 where
  pub allowed : Allowed n
  pub memory : work_for n ≤ work
  pub allowance : drawn ds ≤ n
  pub buffer : (c : Core) → desugar_at [] e 0 ≡ ok c → length (encode_core c) ≤ room

-- Desugar on the bytes of the term e, whatever the allowance and the buffers that cover it: the host gets what desugaring without limit gives,
-- core and refusal alike, with the sum of the draws ds
abbrev pub Gives : Expr → List (ℕ × ℕ) → Type 0
Gives e ds = (n work : ℕ) (out out' : List ℕ) (r : HostAnswer) → Covers e ds n work (length out) → Answers (Desugar (encode e) n work) out out' r
    → Hosts (map_answer (λ c. (encode_core c, drawn ds)) (desugar_at [] e 0)) out out' r

-- what desugaring gives of each form, over the fields from s up to e
pub record Forms (others : Others) (sc : Scope) (w : Where) (s e at : ℕ) : Type 0 where
  -- "the range's value is the literal"
  pub test : (a : Bits) (c : Core) → desugar_at sc (Ranged w (Tests a)) at ≡ ok c → TestsFor others c s e (λ v. v ≡ value_of a)
  -- "q is p with that bit given the value; range and alias assignment likewise, for the whole range"
  pub assign : (a : Bits) (c : Core) → desugar_at sc (Ranged w (Assigns a)) at ≡ ok c → Sets others c s e (value_of a)
  -- "the range's value is the literal"
  pub exact : (a : Bits) (c : Core) → desugar_at sc (Ranged w (Matches (Exact a))) at ≡ ok c → TestsFor others c s e (λ v. v ≡ value_of a)
  -- "agrees in the prefix bits": the k highest of e - s
  pub cidr : (a : Bits) (k : ℕ) (c : Core) → desugar_at sc (Ranged w (Matches (Cidr a k))) at ≡ ok c
      → TestsFor others c s e (λ v. (i : ℕ) → e - s - k ≤ i → i < e - s → bit_at i v ≡ get_or a i false)
  -- "agrees where the mask is false"
  pub wildcard : (a m : Bits) (c : Core) → desugar_at sc (Ranged w (Matches (Wildcard a m))) at ≡ ok c
      → TestsFor others c s e (λ v. (i : ℕ) → i < e - s → get_or m i false ≡ false → bit_at i v ≡ get_or a i false)
  -- "lies between the bounds, both included"
  pub ip_range : (a b : Bits) (c : Core) → desugar_at sc (Ranged w (Matches (IpRange a b))) at ≡ ok c
      → TestsFor others c s e (λ v. (value_of a ≤ v) × (v ≤ value_of b))

pub record Demand2 (others : Others) : Type 0 where
  -- "For every term within document 01's limits, .. the core is the tree that `desugar` gives, and a refusal is of the kind it gives.":
  -- `desugar` is the definition that renders the Rust's; that its trees are the Rust's is tested
  pub tree : (e : Expr) → Within e → (ds : List (ℕ × ℕ)) × Limit [] e 0 ds × Gives e ds
  -- "Each literal, prefix, wildcard and range form is proved to hold of, or set, exactly the field values that document 01 defines": under any
  -- Lets and LetBitRanges around it, where its range is written out or its alias has it
  pub forms : (sc : Scope) (w : Where) (s e at : ℕ) → find_range sc w ≡ some (s, e) → Forms others sc w s e at

-- ## Demand 3: at any point, and of the whole term

-- at a point where the definitions around it pass
pub record AtPassing (others : Others) (p : Point) : Type 0 where
  -- "The check's rules 11 to 23 .. hold at that point and at every point below it exactly when desugaring the subterm there, with no limit
  -- on allowance or buffers, is not refused."
  pub exactly : RulesHold (walk p.scope p.term p.place) ↔ ((c : Core) × (desugar_at p.scope p.term p.place ≡ ok c))
  -- "Where it is not refused, and the subterm and those definitions use only the one-step kinds, then for every two packets p and q the
  -- subterm's core relates p to q exactly when its own written meaning there does."
  pub means : OneStepKinds (walk p.scope p.term p.place) → OneStepKinds (definitions p.scope)
      → (c : Core) → desugar_at p.scope p.term p.place ≡ ok c
      → (a b : Packet) → core_means others c a b ↔ means_at others p.scope p.term a b

-- "where Check succeeds, Desugar succeeds or answers 9, 10, 24 or 26, each only for its cause": the answer r on a term of good form and rules
pub record OnGood (bs : List ℕ) (n work : ℕ) (out out' : List ℕ) (r : HostAnswer) : Type 0 where
  pub term : Expr
  pub good : Good bs term
  pub core : Core
  pub draws : List (ℕ × ℕ)
  pub unlimited : Unlimited term core draws
  pub answer : Answer (List ℕ × ℕ)
  pub outcome : Outcome core draws n work (length out) answer
  pub hosts : Hosts answer out out' r

-- what Check answered on the bytes and what Desugar answered, with its buffer before and after the call
pub record WholeTerm (bs : List ℕ) (n work : ℕ) (out out' : List ℕ) (checked desugared : HostAnswer) : Type 0 where
  -- "Check, unless a list lent to it is too short, succeeds exactly where the form is good and rules 11 to 23 hold at every record": it is
  -- lent none
  pub check : (checked.number ≡ 0) ↔ ((e : Expr) × Good bs e)
  -- "where Check succeeds, Desugar succeeds or answers 9, 10, 24 or 26, each only for its cause above"
  pub answers : checked.number ≡ 0 → OnGood bs n work out out' desugared
  -- "where Desugar succeeds, Check refuses by neither form nor rule"
  pub agrees : desugared.number ≡ 0 → checked.number ≡ 0
  -- "and the bytes Desugar wrote are those of the core made without limit": the front of the buffer
  pub bytes : desugared.number ≡ 0 → Desugared bs (take desugared.first out') desugared.second

pub record Demand3 (others : Others) : Type 0 where
  -- "Take any term of good form, any point of it, and the lets and aliases around that point, where the definitions of those lets pass."
  pub points : (bs : List ℕ) (t : Expr) → decode bs ≡ ok t → (p : Point) → Memᴰ p (walk [] t 0) → RulesHold (definitions p.scope)
      → AtPassing others p
  -- "For the whole term the claim is also made, as document 01 puts it, of what Check and Desugar answer, whatever the allowance and the
  -- buffers."
  pub whole : (bs : List ℕ) (n work : ℕ) (out out' : List ℕ) (checked desugared : HostAnswer)
      → Answers (Check bs) [] [] checked → Answers (Desugar bs n work) out out' desugared → WholeTerm bs n work out out' checked desugared
