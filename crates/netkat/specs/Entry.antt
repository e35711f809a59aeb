-- The answers that a host gets (document 01, "What each operation gives, and when it declines").
use mathlib.Core.{Path.◌≡◌, List.List}
use Rattle.std.specs.Prelude.{ℕ, ◌+◌, ◌*◌, ◌/◌, ◌%◌, ◌^◌}
use lib.{ListN.length}
use Rattle.literals.specs.{Bits.bit}
use Rattle.expr.specs.{Answers.Answer, Answers.ok, Answers.refuse, Answers.map_answer, Answers.buffer_after, Terms.Core, Terms.Name, Terms.size, Operations.fragment_bytes, Operations.fields_bytes, Operations.substitute_bytes}
use Rattle.desugar.specs.{Bindings.compute_subrange, Desugar.desugar_bytes, CoreRecords.words}
use Rattle.costs.specs.{Lent.lent_cost}
use Rattle.cores.specs.{Reading.read_core}
use Rattle.packets.specs.{Running.run_packets}
use Rattle.netkat.specs.{Check.check_bytes}
use Rattle.netkat.specs.declared.Answer.{Answer as HostAnswer}

-- "A call answers success or a refusal number with a place.": success has number 0, place 0 and two values; a refusal has no values
abbrev pub hosted : Answer (ℕ × ℕ) → HostAnswer
hosted (ok r) = record { number = 0; place = 0; first = r.0; second = r.1 }
hosted (refuse r at) = record { number = r; place = at; first = 0; second = 0 }

-- of an operation's answer x, bytes and a number: the values are the bytes' length and the number. out and out' are the answer buffer before
-- and after the call
pub record Hosts (x : Answer (List ℕ × ℕ)) (out out' : List ℕ) (r : HostAnswer) : Type 0 where
  pub answer : r ≡ hosted (map_answer (λ p. (length p.0, p.1)) x)
  pub buffer : out' ≡ buffer_after (map_answer (λ p. p.0) x) out

-- document 02, change 5: "Give it in 64 bits", change 8: "The answer is a 64-bit number": the lower half, then the higher
abbrev pub halved : ℕ → ℕ × ℕ
halved n = (n % 2 ^ 32, n / 2 ^ 32)

-- document 02, change 1: of a core and its field count x: "giving the records (kind, field, value, a 32-bit number each), their count and the field
-- count". out and out' are the lent record list before and after the call
pub record HostsCore (x : Answer (Core × ℕ)) (out out' : List ℕ) (r : HostAnswer) : Type 0 where
  pub answer : r ≡ hosted (map_answer (λ p. (size p.0, p.1)) x)
  pub records : out' ≡ buffer_after (map_answer (λ p. words p.0) x) out

-- a call of an exported function, with the bytes and numbers that it is given; of work memory, and of a record list that is scratch, its length; of a
-- lent literal, its bytes and its length in bits
pub data Call : Type 0 where
  Check TestFragment FieldCount : (term : List ℕ) → Call
  Desugar : (term : List ℕ) (allowance work : ℕ) → Call
  Substitute : (term : List ℕ) (name : Name) (replacement : List ℕ) → Call
  Subrange : (aliasStart aliasEnd subStart subEnd : ℕ) → Call
  Cost : (start end pattern number : ℕ) (a b : List ℕ × ℕ) → Call
  ReadCore : (core : List ℕ) → Call
  RunPackets : (core : List ℕ) (room : ℕ) (packets lengths : List ℕ) → Call

-- the contract of each exported function: r is its answer, out and out' its answer buffer, or its record list, before and after the call. One
-- without either is lent nothing that it could write; Run packets writes to its record list, which is scratch and no part of this: out and out'
-- are empty. The first value of Check and Test fragment is 1 for yes and 0 for no
abbrev pub Answers : Call → (out out' : List ℕ) → HostAnswer → Type 0
Answers (Check bs) out out' r = (r ≡ hosted (map_answer (λ b. (bit b, 0)) (check_bytes bs))) × (out' ≡ out)
Answers (TestFragment bs) out out' r = (r ≡ hosted (map_answer (λ b. (bit b, 0)) (fragment_bytes bs))) × (out' ≡ out)
Answers (FieldCount bs) out out' r = (r ≡ hosted (map_answer (λ n. (n, 0)) (fields_bytes bs))) × (out' ≡ out)
Answers (Desugar bs n work) out out' r = Hosts (desugar_bytes bs n work (length out)) out out' r
Answers (Substitute bs x rs) out out' r = Hosts (map_answer (λ cs. (cs, 0)) (substitute_bytes bs x rs (length out))) out out' r
Answers (Subrange a b s e) out out' r = (r ≡ hosted (compute_subrange a b s e)) × (out' ≡ out)
Answers (Cost s e p k a b) out out' r = (r ≡ hosted (map_answer halved (lent_cost s e p k a b))) × (out' ≡ out)
Answers (ReadCore bs) out out' r = HostsCore (read_core bs (length out)) out out' r
Answers (RunPackets bs room ps ns) out out' r = (r ≡ hosted (map_answer halved (run_packets bs room ps ns))) × (out' ≡ out)

-- this library's version, 0.5.0, as one number, for a host to compare with that of its header. Ours: no sentence of document 01 asks for it
abbrev pub version : ℕ
version = 0 * 65536 + 5 * 256 + 0
