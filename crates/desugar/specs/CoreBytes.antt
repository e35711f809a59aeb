-- The bytes of a core that lies in work memory: the words of the contracts of src/core_bytes.rt.
use mathlib.Core.{Path.◌≡◌, List.List, List.[], List.◌++◌}
use Rattle.std.specs.Prelude.{ℕ, zero, suc, ◌+◌, ◌*◌, ◌≤◌, ◌<◌}
use lib.{ListN.length, ListN.get_or, ListN.drop, Seq.sets}
use Rattle.expr.specs.{Terms.Core, Records.Record, Records.write_record, Form.encode_core}
use Rattle.desugar.specs.{Memory.words, declared.core_bytes.CoreRecord.CoreRecord}

-- a record of a kind, a field and a value
abbrev pub core_record : ℕ → ℕ → ℕ → Record
core_record k f v = record { kind = k; name = 0; start = f; end = 0; pattern = 0; number = v; lit_a = []; lit_b = [] }

-- a core's record: an operator has neither field nor value, and what has a field has a kind
pub record CoreShape (k f v : ℕ) : Type 0 where
  pub bare : 7 ≤ k → (f ≡ 0) × (v ≡ 0)
  pub named : 0 < f → 0 < k

-- the record at index i
abbrev pub record_at : List ℕ → ℕ → CoreRecord
record_at xs i = record { kind = get_or xs i 0; field = get_or xs (i + 1) 0; value = get_or xs (i + 2) 0 }

-- the bytes of a record
abbrev pub bytes_of_record : CoreRecord → List ℕ
bytes_of_record r = write_record (core_record r.kind r.field r.value)

-- the bytes of the record at index i
abbrev pub record_bytes : List ℕ → ℕ → List ℕ
record_bytes xs i = bytes_of_record (record_at xs i)

-- the bytes of the n records from index at on
abbrev pub records_bytes : List ℕ → ℕ → ℕ → List ℕ
records_bytes xs at zero = []
records_bytes xs at (suc n) = records_bytes xs at n ++ record_bytes xs (at + 3 * n)

-- bytes were written at an index, and r is the index behind them
pub record Put (bytes out : List ℕ) (to : ℕ) (out' : List ℕ) (r : ℕ) : Type 0 where
  pub written : out' ≡ sets out to bytes
  pub next : r ≡ to + length bytes

-- the numbers of a core, for whose bytes the buffer has room
pub record Writable (xs out : List ℕ) : Type 0 where
  pub core : Core
  pub is : xs ≡ words core
  pub room : length (encode_core core) ≤ length out

-- a core's bytes stand in front of the buffer, the rest of it is kept, and r is their number
pub record CoreWritten (c : Core) (out out' : List ℕ) (r : ℕ) : Type 0 where
  pub bytes : out' ≡ encode_core c ++ drop (length (encode_core c)) out
  pub long : r ≡ length (encode_core c)
