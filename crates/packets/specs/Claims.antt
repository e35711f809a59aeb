-- What the theorems claim of running packets (they stand in netkat/proofs/Theorems.antt).
use mathlib.Core.{Path.◌≡◌, Logic.◌⊎◌, Logic.◌↔◌, Bool.true, List.List, List.[], List.◌∷◌}
use Rattle.std.specs.Prelude.{ℕ, ◌+◌, ◌*◌, ◌≤◌, ◌<◌}
use lib.{ListN.length, ListN.get_or}
use Rattle.literals.specs.{Bits.bit_at}
use Rattle.expr.specs.{Answers.ok, Terms.Core}
use Rattle.desugar.specs.{Packets.Others, Packets.Packet, Packets.core_means}
use Rattle.cores.specs.{Reading.decode_core, Claims.CoreNumber}
use Rattle.packets.specs.{Running.packet_bytes, Running.packet_of}

-- a packet with these bytes in front: its fields beyond them are any
abbrev pub Continues : List ℕ → Packet → Type 0
Continues bytes p = (f : ℕ) → f < 8 * length bytes → p f ≡ packet_of bytes f

-- "Each bit is the packet meaning of that core on that packet.": the mask m of packets that lie end to end in a slice, for the bytes of a core
pub record EachBit (others : Others) (core slice lengths : List ℕ) (m : ℕ) : Type 0 where
  pub tree : Core
  pub is : decode_core core ≡ ok tree
  pub means : (i : ℕ) → i < length lengths → (p : Packet) → Continues (get_or (packet_bytes lengths slice) i []) p
      → (bit_at i m ≡ true) ↔ core_means others tree p p

-- "50 the first packet with fewer bits than the field count"
pub record FirstShort (fields : ℕ) (ps : List (List ℕ)) (i : ℕ) : Type 0 where
  pub packet : i < length ps
  pub short : 8 * length (get_or ps i []) < fields
  pub least : (j : ℕ) → j < i → fields ≤ 8 * length (get_or ps j [])

-- a number of the core's own refusals, or 48, 49 or 50
abbrev pub PacketsNumber : ℕ → Type 0
PacketsNumber r = CoreNumber r ⊎ ((r ≡ 48) ⊎ ((r ≡ 49) ⊎ (r ≡ 50)))

-- where packets of these lengths end
abbrev pub total : List ℕ → ℕ
total [] = 0
total (n ∷ ns) = n + total ns
