-- What the functions of this crate answer, in the words of the definitions.
use mathlib.Core.{Path.◌≡◌, Bool.Bool, Bool.cond, Bool.◌&&◌, Bool.◌||◌, List.List, List.◌++◌}
use Rattle.std.specs.Prelude.{ℕ, ◌+◌, ◌*◌, ◌^◌, ◌≤◌, max, Result, Ok, Err, Option, IfSome}
use lib.{Dec.leb, Dec.ltb, Dec.eqb, ListN.length, ListN.drop}
use Rattle.literals.specs.{Reading.Read, Reading.got, Reading.fault}
use Rattle.expr.specs.{Answers.Answer, Answers.answered, Answers.ok, Answers.refuse, Answers.and_then, Answers.map_answer, Answers.need, Answers.buffer_after, Terms.Core, Terms.size, Records.Record, Records.stands}
use Rattle.desugar.specs.{CoreRecords.words, CoreBytes.core_record}
use Rattle.cores.specs.{Reading.read_core_record, Reading.decode_core, Reading.read_core}
use Rattle.refusals.specs.Refusals.{number_of}
use Rattle.refusals.specs.declared.Refusal.{Refusal}
use Rattle.refusals.specs.declared.Refused.{Refused}
use Rattle.expr.specs.Kinds.{kind_number}
use Rattle.cores.specs.declared.records.CoreRecord.{CoreRecord}
use Rattle.cores.specs.declared.Counts.{Counts}
use Rattle.cores.specs.declared.numbered.Numbered.{Numbered}

-- ## One record

-- a record that was read from the bytes s, and the bytes behind it; or the refusal's number
abbrev pub record_answer : List ℕ → Result CoreRecord Refusal → Read Record
record_answer s (Ok d) = got (core_record (kind_number d.kind) d.field d.value) (drop d.size s)
record_answer s (Err e) = fault (number_of e)

-- it lies inside the bytes, and has at least its map byte
abbrev pub RecordInside : List ℕ → Result CoreRecord Refusal → Type 0
RecordInside s (Ok d) = (1 ≤ d.size) × (d.size ≤ length s)
RecordInside s (Err e) = Unit {0}

pub record CoreRecordFound (s : List ℕ) (r : Result CoreRecord Refusal) : Type 0 where
  pub answer : record_answer s r ≡ read_core_record s
  pub inside : RecordInside s r

-- a record that stands at the front of the bytes, if one was found
abbrev pub ShortFound : List ℕ → Option CoreRecord → Type 0
ShortFound s r = IfSome r λ d. CoreRecordFound s (Ok d)

-- the map and the kind of an operator, kinds 7 to 15
abbrev pub operator_bytes : ℕ → ℕ → Bool
operator_bytes m k = eqb m 1 && (leb 7 k && leb k 15)

-- an Assign or Test with a field that stands, without a value (map 5) or with the value 1 (map 37)
abbrev pub atom_bytes : (map kind field value : ℕ) → Bool
atom_bytes m k f v = (eqb m 5 || (eqb m 37 && eqb v 1)) && ((eqb k 5 || eqb k 6) && stands f)

-- ## A core

-- the field count so far, with the field f of a record of kind k at a place
abbrev pub widened : Answer ℕ → (k f at : ℕ) → Answer ℕ
widened x k f at =
    and_then x λ m.
    cond (leb 5 k && leb k 6) (and_then (need (ltb (f + 1) (2 ^ 32)) 25 at) λ _. ok (max m (f + 1))) (ok m)

-- a core of good form with n records, whose field count is x: 25, then 10, then its counts
abbrev pub settled : (n : ℕ) → Answer ℕ → (room : ℕ) → Answer (ℕ × ℕ)
settled n x room = and_then x λ m. and_then (need (leb (3 * n) room) 10 0) λ _. ok (n, m)

-- the counts of a core that was read: its records and its fields
abbrev pub counts_of : Answer (Core × ℕ) → Answer (ℕ × ℕ)
counts_of x = map_answer (λ p. (size p.0, p.1)) x

abbrev pub core_answer : Result Counts Refused → Answer (ℕ × ℕ)
core_answer r = map_answer (λ d. (d.count, d.fields)) (answered r)

-- a refusal by its number
abbrev pub numbered_of : Refused → Numbered
numbered_of e = record { number = number_of e.refusal; place = e.place }

-- what is answered where a refusal may have any number
abbrev pub numbered_answer : {A : Type 0} → Result A Numbered → Answer A
numbered_answer (Ok a) = ok a
numbered_answer (Err e) = refuse e.number e.place

abbrev pub numbered_counts : Result Counts Numbered → Answer (ℕ × ℕ)
numbered_counts r = map_answer (λ d. (d.count, d.fields)) (numbered_answer r)

-- a core of good form, and room for its records
pub record Listable (s list : List ℕ) : Type 0 where
  pub core : Core
  pub is : decode_core s ≡ ok core
  pub room : 3 * size core ≤ length list

-- the records stand in front of the list, and its rest is kept
abbrev pub Listed : (s list list' : List ℕ) → Type 0
Listed s list list' = (c : Core) → decode_core s ≡ ok c → list' ≡ words c ++ drop (length (words c)) list

-- what is answered, and the list after the call
pub record ReadsBack (s list list' : List ℕ) (r : Result Counts Refused) : Type 0 where
  pub answer : core_answer r ≡ counts_of (read_core s (length list))
  pub after : list' ≡ buffer_after (map_answer (λ p. words p.0) (read_core s (length list))) list
