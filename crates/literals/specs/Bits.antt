-- Literals as bits and as numbers (document 01, "Term bytes" and "Walking rules").
use mathlib.Core.{Bool.Bool, Bool.true, Bool.false, List.List, List.[], List.◌∷◌, List.◌++◌}
use Rattle.std.specs.Prelude.{ℕ, zero, suc, ◌+◌, ◌-◌, ◌*◌, ◌/◌, ◌%◌, ◌^◌, ◌<◌}
use lib.{Dec.eqb, ListN.length, ListN.take, ListN.drop, ListN.replicate}

-- "Term bytes": "then bits, least significant first". A literal is its bits, bit 0 first
abbrev pub Bits : Type 0
Bits = List Bool

abbrev pub bit : Bool → ℕ
bit true = 1
bit false = 0

-- the number that bits spell, bit 0 the lowest
abbrev pub value_of : Bits → ℕ
value_of [] = 0
value_of (b ∷ bs) = bit b + 2 * value_of bs

-- bit i of a number
abbrev pub bit_at : ℕ → ℕ → Bool
bit_at i v = eqb (v / 2 ^ i % 2) 1

-- the n lowest bits of a number
abbrev pub bits_of : ℕ → ℕ → Bits
bits_of zero v = []
bits_of (suc n) v = eqb (v % 2) 1 ∷ bits_of n (v / 2)

-- "Walking rules": "Short alias and Exact literals get false high bits." A literal made n bits wide
abbrev pub pad : ℕ → Bits → Bits
pad n a = a ++ replicate (n - length a) false

-- a list of bytes: every number in it is below 256
abbrev pub Bytes : List ℕ → Type 0
Bytes [] = Unit {0}
Bytes (b ∷ bs) = (b < 256) × Bytes bs

-- "Term bytes": "Numbers are little-endian." The number that bytes spell, and its n lowest bytes
abbrev pub number_of : List ℕ → ℕ
number_of [] = 0
number_of (b ∷ bs) = b + 256 * number_of bs

abbrev pub bytes_of : ℕ → ℕ → List ℕ
bytes_of zero v = []
bytes_of (suc n) v = v % 256 ∷ bytes_of n (v / 256)

-- "Term bytes": "bits, least significant first". The bits of bytes, and the n bytes that hold bits
abbrev pub unpack : List ℕ → Bits
unpack [] = []
unpack (b ∷ bs) = bits_of 8 b ++ unpack bs

abbrev pub pack : ℕ → Bits → List ℕ
pack zero a = []
pack (suc n) a = value_of (take 8 a) ∷ pack n (drop 8 a)
