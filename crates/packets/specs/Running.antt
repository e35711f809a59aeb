-- Up to sixty-four packets through a core that is a test (document 02, change 8).
use mathlib.Core.{Bool.false, Bool.◌&&◌, List.List, List.[], List.◌∷◌, List.map}
use Rattle.std.specs.Prelude.{ℕ, ◌+◌, ◌*◌}
use lib.{Dec.leb, ListN.length, ListN.take, ListN.drop, ListN.get_or}
use Rattle.literals.specs.{Bits.unpack, Bits.value_of}
use Rattle.expr.specs.{Answers.Answer, Answers.ok, Answers.and_then, Answers.need, Terms.Core}
use Rattle.desugar.specs.{Negation.is_test, Packets.Packet, Packets.passes}
use Rattle.cores.specs.{Reading.read_core}

-- "1 to 64 packets"
abbrev pub max_packets : ℕ
max_packets = 64

-- "Packets lie end to end in one slice, with a list of lengths in bytes": of each packet its bytes "that the slice holds"
abbrev pub packet_bytes : (lengths slice : List ℕ) → List (List ℕ)
packet_bytes [] s = []
packet_bytes (n ∷ ns) s = take n s ∷ packet_bytes ns (drop n s)

-- "each packed with field 0 in the lowest bit of its first byte". A field beyond the last byte is false here; where packets are wide
-- enough, none is asked for
abbrev pub packet_of : List ℕ → Packet
packet_of bytes = λ f. get_or (unpack bytes) f false

-- "50 the first packet with fewer bits than the field count, its index as place"; "a packet has 8 bits for each of its bytes". `at` is the index of
-- the first of these packets
abbrev pub wide_enough : (fields : ℕ) → List (List ℕ) → (at : ℕ) → Answer (Unit {0})
wide_enough n [] at = ok tt
wide_enough n (p ∷ ps) at = and_then (need (leb n (8 * length p)) 50 at) λ _. wide_enough n ps (at + 1)

-- "a 64-bit number whose bit i says whether packet i passes; unused bits are zero"
abbrev pub passing : Core → List (List ℕ) → ℕ
passing c ps = value_of (map (λ p. passes c (packet_of p)) ps)

-- "The core's own reading refusals come first. (New, in this order after those: 48 the core is not a test, 49 no packet or more than 64, 50 ..)": with
-- a record list of room numbers
abbrev pub run_packets : (core : List ℕ) (room : ℕ) (slice lengths : List ℕ) → Answer ℕ
run_packets core room slice lengths =
    and_then (read_core core room) λ r.
    and_then (need (is_test r.0) 48 0) λ _.
    and_then (need (leb 1 (length lengths) && leb (length lengths) max_packets) 49 0) λ _.
    and_then (wide_enough r.1 (packet_bytes lengths slice) 0) λ _.
    ok (passing r.0 (packet_bytes lengths slice))
