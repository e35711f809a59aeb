-- Patterns, and the values that they hold of (document 01, "Term bytes" and "Packet meaning").
use mathlib.Core.{Path.◌≡◌, Bool.false}
use Rattle.std.specs.Prelude.{ℕ, ◌-◌, ◌≤◌, ◌<◌}
use lib.{ListN.get_or}
use Rattle.literals.specs.{Bits.Bits, Bits.value_of, Bits.bit_at}

-- "Term bytes": "Exact has A; Cidr number and A; Wildcard address A, mask B; IpRange A to B."
pub data Pattern : Type 0 where
  Exact : Bits → Pattern
  -- the address, and how many of its highest bits count
  Cidr : Bits → ℕ → Pattern
  -- the address, and a mask that is true where a bit does not count
  Wildcard : Bits → Bits → Pattern
  -- the lowest and the highest value
  IpRange : Bits → Bits → Pattern

-- "the range's value is the literal, agrees in the prefix bits, ..": the pattern holds of the value v of a range of n bits
abbrev pub HoldsOf : Pattern → ℕ → ℕ → Type 0
HoldsOf (Exact a) n v = v ≡ value_of a
HoldsOf (Cidr a k) n v = (i : ℕ) → n - k ≤ i → i < n → bit_at i v ≡ get_or a i false
HoldsOf (Wildcard a m) n v = (i : ℕ) → i < n → get_or m i false ≡ false → bit_at i v ≡ get_or a i false
HoldsOf (IpRange a b) n v = (value_of a ≤ v) × (v ≤ value_of b)
