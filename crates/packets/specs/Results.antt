-- What the functions of this crate answer, in the words of the definitions.
use mathlib.Core.{Path.◌≡◌, Bool.Bool, Bool.true, Bool.cond, Bool.◌&&◌, Bool.◌||◌, List.List, List.[], List.◌∷◌, List.map}
use Rattle.std.specs.Prelude.{ℕ, zero, suc, ◌+◌, ◌-◌, ◌*◌, ◌/◌, ◌%◌, ◌^◌, ◌≤◌, ◌<◌, max, All, Option, None, Some, IfSome, Result, Ok, Err}
use lib.{Dec.leb, Dec.ltb, Dec.eqb, ListN.length, ListN.drop, ListN.get_or, Bits.bit_and, Bits.bit_or, Bits.bit_xor}
use Rattle.literals.specs.{Bits.value_of}
use Rattle.expr.specs.{Answers.Answer, Answers.answered, Answers.ok, Answers.refuse, Answers.map_answer, Terms.Core, Terms.test_kind, Results.arity_of}
use Rattle.desugar.specs.{Negation.is_test}
use Rattle.cores.specs.{Reading.max_core, Reading.decode_core, Reading.read_core, Results.CoreRecordFound, Results.operator_bytes, Results.atom_bytes, Results.widened, Results.counts_of}
use Rattle.packets.specs.{Running.max_packets, Running.packet_bytes, Running.packet_of, Running.wide_enough, Running.passing, Claims.total}
use Rattle.cores.specs.declared.records.CoreRecord.{CoreRecord}
use Rattle.refusals.specs.declared.Refused.{Refused}
use Rattle.expr.specs.Kinds.{kind_number}
use Rattle.packets.specs.declared.Pass.{Pass}
use Rattle.packets.specs.declared.masks.Kept.{Kept}
use Rattle.packets.specs.declared.frames.Progress.{Progress}
use Rattle.packets.specs.declared.skim.Skimmed.{Skimmed}
use Rattle.packets.specs.declared.skim.Spot.{Spot}
use Rattle.packets.specs.declared.cursor.Cursor.{Cursor}
use Rattle.packets.specs.declared.pairs.Pair.{Pair}

-- ## Masks: bit i is of packet i

-- the packets in which a field is true
abbrev pub field_mask : ℕ → List (List ℕ) → ℕ
field_mask f ps = value_of (map (λ p. packet_of p f) ps)

-- all packets
abbrev pub all_mask : List (List ℕ) → ℕ
all_mask ps = value_of (map (λ p. true) ps)

-- the packets that pass a record without operands; none passes what is no test
abbrev pub leaf_mask : (k f v : ℕ) → List (List ℕ) → ℕ
leaf_mask k f v ps = cond (eqb k 6) (cond (eqb v 1) (field_mask f ps) (bit_xor (all_mask ps) (field_mask f ps))) (cond (eqb k 1) (all_mask ps) 0)

-- those that pass an operator, by those that pass its operands; none passes what is no test
abbrev pub combined : (k a b : ℕ) → ℕ
combined k a b =
    cond (eqb k 7) (bit_or a b)
    (cond (eqb k 9) (bit_xor a b) (cond (eqb k 10) (bit_xor a (bit_and a b)) (cond (eqb k 8 || eqb k 11) (bit_and a b) 0)))

-- no packet passes an operator whose left operand none passes, whatever the right one is
abbrev pub settles : (k m : ℕ) → Bool
settles k m = eqb m 0 && (eqb k 8 || (eqb k 10 || eqb k 11))

-- the mask of a field that is kept, if one is
abbrev pub IsMaskOf : List (List ℕ) → Kept → Type 0
IsMaskOf ps k = IfSome k.field (λ f. k.mask ≡ field_mask f ps)

-- at most 64 packets, where they end, the mask of all, and masks of fields that were made before
pub record Captured (slice lengths : List ℕ) (end all : ℕ) (kept : List Kept) : Type 0 where
  pub few : length lengths ≤ max_packets
  pub end_is : end ≡ total lengths
  pub end_fits : end < 2 ^ 64
  pub all_is : all ≡ all_mask (packet_bytes lengths slice)
  pub long : length kept ≡ 256
  pub each : All (IsMaskOf (packet_bytes lengths slice)) kept

-- ## Operators whose operands are being read

-- the first operand is being read, or the second one, and the first has a mask
pub data Frame : Type 0 where
  first : (kind : ℕ) → Frame
  second : (kind mask : ℕ) → Frame

-- a frame in three numbers: its kind, with 16 more where its mask follows, the lower half first
abbrev pub framed : (k m : ℕ) → List ℕ
framed k m = k ∷ (m % 2 ^ 32) ∷ (m / 2 ^ 32) ∷ []

abbrev pub mask_in : List ℕ → ℕ
mask_in x = get_or x 1 0 + 2 ^ 32 * get_or x 2 0

abbrev pub frame_in : List ℕ → Frame
frame_in x = cond (ltb (get_or x 0 0) 16) (first (get_or x 0 0)) (second (get_or x 0 0 - 16) (mask_in x))

-- the frames in front of a list, the last of them first
abbrev pub frames_in : List (List ℕ) → ℕ → List Frame
frames_in xs zero = []
frames_in xs (suc n) = frame_in (get_or xs n []) ∷ frames_in xs n

-- how far a run is: how many of the next cores are not looked at, the operators around those behind them, and the last mask
pub record State : Type 0 where
  pub skip : ℕ
  pub frames : List Frame
  pub mask : ℕ

-- before the first record
abbrev pub nothing_yet : Progress
nothing_yet = record { depth = 0; mask = 0; skip = 0 }

abbrev pub state_of : List (List ℕ) → Progress → State
state_of list r = record { skip = r.skip; frames = frames_in list r.depth; mask = r.mask }

-- n cores more are not looked at
abbrev pub skipping : ℕ → State → State
skipping n st = record { skip = n + st.skip; frames = st.frames; mask = st.mask }

-- an operand has the mask m
abbrev pub fed : List Frame → ℕ → State
fed [] m = record { skip = 0; frames = []; mask = m }
fed (first k ∷ fs) m = cond (settles k m) (skipping 1 (fed fs m)) (record { skip = 0; frames = second k m ∷ fs; mask = m })
fed (second k a ∷ fs) m = fed fs (combined k a m)

-- an operator of one operand waits for it as for a second one
abbrev pub opened : ℕ → Frame
opened k = cond (ltb k 13) (first k) (second k 0)

abbrev pub opened_kind : ℕ → ℕ
opened_kind k = cond (ltb k 13) k (k + 16)

-- the mask of the operator of a frame, where its last operand has the mask m, or where m settles it
abbrev pub closed_mask : List ℕ → (m : ℕ) → ℕ
closed_mask x m = cond (ltb (get_or x 0 0) 16) m (combined (get_or x 0 0 - 16) (mask_in x) m)

-- a record of kind k, field f and value v is looked at
abbrev pub looked : List (List ℕ) → List Frame → (k f v : ℕ) → State
looked ps fs k f v = cond (ltb k 7) (fed fs (leaf_mask k f v ps)) (record { skip = 0; frames = opened k ∷ fs; mask = 0 })

-- it is read, and looked at if no core is skipped
abbrev pub stepped : List (List ℕ) → State → (k f v : ℕ) → State
stepped ps st k f v =
    cond (ltb 0 st.skip) (record { skip = st.skip - 1 + arity_of k; frames = st.frames; mask = st.mask }) (looked ps st.frames k f v)

-- the state behind a record, where the list has room for one operator more; and bounds
pub record Stepped (ps : List (List ℕ)) (list : List (List ℕ)) (sofar : Progress) (d : CoreRecord) (list' : List (List ℕ)) (r : Progress) : Type 0 where
  pub is : sofar.depth + 1 ≤ length list → state_of list' r ≡ stepped ps (state_of list sofar) (kind_number d.kind) d.field d.value
  pub fits : r.depth ≤ length list
  pub deep : r.depth ≤ sofar.depth + 1
  pub few : r.skip ≤ max (sofar.skip + 2) sofar.depth

-- ## Records that are not looked at

-- records of tests, one behind the other, as long as there are cores to skip: from a byte, a record's index, how many cores are skipped
-- and the field count so far, to those behind the records
pub data Skims (s : List ℕ) (at place skip : ℕ) (x : Answer ℕ) : (at' place' skip' : ℕ) → Answer ℕ → Type 0 where
  none_read : Skims s at place skip x at place skip x
  one_more : {at' place' skip' : ℕ} {x' : Answer ℕ} → Skims s at place skip x at' place' skip' x'
      → (d : CoreRecord) → 0 < skip' → place' < max_core → CoreRecordFound (drop at' s) (Ok d) → test_kind (kind_number d.kind) ≡ true
      → Skims s at place skip x (at' + d.size) (place' + 1) (skip' - 1 + arity_of (kind_number d.kind)) (widened x' (kind_number d.kind) d.field place')

-- the first bytes of an operator of tests, and those of a Test of a field that stands and is below the top one
abbrev pub pair_bytes : (first operator map kind field value : ℕ) → Bool
pair_bytes n o m k f v = (operator_bytes n o && atom_bytes m k f v) && (leb o 11 && (eqb k 6 && ltb f 4294967295))

-- an operator of tests and a Test behind it: their bytes, and the fields that the Test needs
pub record PairIs (s : List ℕ) (d : Pair) : Type 0 where
  pub operator : CoreRecord
  pub test : CoreRecord
  pub first : CoreRecordFound s (Ok operator)
  pub second : CoreRecordFound (drop operator.size s) (Ok test)
  pub low : 7 ≤ kind_number operator.kind
  pub high : kind_number operator.kind ≤ 11
  pub kind : kind_number test.kind ≡ 6
  pub below : test.field + 1 < 2 ^ 32
  pub size : d.size ≡ operator.size + test.size
  pub need : d.need ≡ test.field + 1

-- they stand at the front of the bytes, if they were found
abbrev pub PairFound : List ℕ → Option Pair → Type 0
PairFound s r = IfSome r (PairIs s)

-- ## Cursors

-- at the first record of these bytes
pub record AtStart (s : List ℕ) (c : Cursor) : Type 0 where
  pub same : c.bytes.now ≡ s
  pub at : c.at ≡ 0
  pub place : c.place ≡ 0
  pub fields : answered c.fields ≡ ok 0

-- one record further
pub record Behind (c : Cursor) (d : CoreRecord) (r : Cursor) : Type 0 where
  pub same : r.bytes.now ≡ c.bytes.now
  pub at : r.at ≡ c.at + d.size
  pub place : r.place ≡ c.place + 1
  pub fields : answered r.fields ≡ widened (answered c.fields) (kind_number d.kind) d.field c.place

-- records that are not looked at lie between two cursors, from so many cores that are skipped to so many
abbrev pub Between : (c : Cursor) (skip : ℕ) (r : Cursor) (skip' : ℕ) → Type 0
Between c skip r skip' = Skims c.bytes.now c.at c.place skip (answered c.fields) r.at r.place skip' (answered r.fields)

-- however many cores are skipped, as many are behind pairs
pub record PairsRead (c r : Cursor) : Type 0 where
  pub same : r.bytes.now ≡ c.bytes.now
  pub skims : (skip : ℕ) → 1 ≤ skip → Between c skip r skip

pub record SkimsTo (c : Cursor) (skip : ℕ) (r : Skimmed) : Type 0 where
  pub same : r.cursor.bytes.now ≡ c.bytes.now
  pub skims : Between c skip r.cursor r.skip

-- before the first record
pub record Starts (s : List ℕ) (r : Spot) : Type 0 where
  pub cursor : AtStart s r.cursor
  pub due : r.due ≡ 1
  pub run : r.run ≡ nothing_yet

-- as many cores as need not be looked at, or none, are skipped as far as Skims goes: what is next, what is due, and how far the run is
pub record Skipped (c r : Spot) : Type 0 where
  pub cores : ℕ
  pub skip : ℕ
  pub most : cores ≤ c.run.skip
  pub within : cores ≤ c.due
  pub same : r.cursor.bytes.now ≡ c.cursor.bytes.now
  pub skims : Between c.cursor cores r.cursor skip
  pub due_is : r.due ≡ c.due - cores + skip
  pub run_is : r.run ≡ record { depth = c.run.depth; mask = c.run.mask; skip = c.run.skip - cores + skip }

-- ## The pass

abbrev pub pass_answer : Result Pass Refused → Answer (ℕ × ℕ)
pass_answer r = map_answer (λ d. (d.count, d.fields)) (answered r)

-- the core that was read is a test or not, and its mask
abbrev pub PassOf : Core → List (List ℕ) → Result Pass Refused → Type 0
PassOf c ps (Ok d) = (d.test ≡ is_test c) × (d.mask ≡ passing c ps)
PassOf c ps (Err e) = Unit {0}

pub record Passed (s : List ℕ) (room : ℕ) (ps : List (List ℕ)) (r : Result Pass Refused) : Type 0 where
  pub answer : pass_answer r ≡ counts_of (read_core s room)
  pub core : (c : Core) → decode_core s ≡ ok c → PassOf c ps r

-- the first packet that is too short, if one is
abbrev pub short_answer : Option ℕ → Answer (Unit {0})
short_answer None = ok tt
short_answer (Some i) = refuse 50 i

abbrev pub ShortFound : (fields : ℕ) → List (List ℕ) → Option ℕ → Type 0
ShortFound fields ps r = wide_enough fields ps 0 ≡ short_answer r
