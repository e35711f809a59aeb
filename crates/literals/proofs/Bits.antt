-- Laws of bits and of the numbers that they spell.
use mathlib.Core.Path.{◌≡◌, refl, sym, ap, ◌∙◌}
use mathlib.Core.Bool.{Bool, true, false}
use mathlib.Core.List.{List, [], ◌∷◌, ◌++◌}
use Prim.Native.Nat.{ℕ, zero, suc, ◌+◌, ◌-◌, ◌*◌, ◌/◌, ◌%◌, ◌^◌, ◌≤◌, ◌<◌}
use native.Mathlib.Nat.{zero-div, div-one, pow-succ', div-div-eq-div-mul, pow-le-pow_right}
use native.Mathlib.Omega.{arith}
use lib.Dec.{eqb}
use lib.ListN.{length, get_or, replicate, length-append, length-replicate, get_or-append}
use lib.Seq.{get_or-append-add}
use native.Mathlib.Decide.{dec_lt}
use Rattle.literals.specs.Bits.{Bits, bit, value_of, bit_at, bits_of, pad, unpack}

pub bit_small : (b : Bool) → bit b ≤ 1
bit_small true = omega arith
bit_small false = omega arith

-- ## Padding

pub length_pad : (n : ℕ) (a : Bits) → length a ≤ n → length (pad n a) ≡ n
length_pad n a h = simp (length-append, length-replicate) (omega arith)

value_of_falses : (n : ℕ) → value_of (replicate n false) ≡ 0
value_of_falses zero = refl
value_of_falses (suc n) = omega (arith, value_of_falses n)

value_of_append : (a : Bits) (n : ℕ) → value_of (a ++ replicate n false) ≡ value_of a
value_of_append [] n = value_of_falses n
value_of_append (b ∷ a) n = omega (arith, value_of_append a n)

-- false high bits leave the value as it is
pub value_of_pad : (n : ℕ) (a : Bits) → value_of (pad n a) ≡ value_of a
value_of_pad n a = value_of_append a (n - length a)

-- ## Bits and values

halves : (b c : Bool) (x y : ℕ) → bit b + 2 * x ≡ bit c + 2 * y → (b ≡ c) × (x ≡ y)
halves true true x y e = (refl, omega arith)
halves true false x y e = absurd (omega arith)
halves false true x y e = absurd (omega arith)
halves false false x y e = (refl, omega arith)

-- bits of one length that spell one number are the same bits
pub value_of_injective : (a b : Bits) → length a ≡ length b → value_of a ≡ value_of b → a ≡ b
value_of_injective [] [] l e = refl
value_of_injective [] (c ∷ b) l e = absurd (omega arith)
value_of_injective (c ∷ a) [] l e = absurd (omega arith)
value_of_injective (c ∷ a) (d ∷ b) l e =
    let h : (c ≡ d) × (value_of a ≡ value_of b) = halves c d (value_of a) (value_of b) e in
    let t : a ≡ b = value_of_injective a b (omega arith) h.1 in
    λ i. h.0 i ∷ t i

double : (n : ℕ) → 2 ^ suc n ≡ 2 * 2 ^ n
double n = pow-succ' 2 n

-- n bits spell a number below 2 ^ n
pub value_below : (a : Bits) → value_of a < 2 ^ length a
value_below [] = omega arith
value_below (true ∷ a) = rw (double (length a)) (omega (arith, value_below a))
value_below (false ∷ a) = rw (double (length a)) (omega (arith, value_below a))

pub value_within : (n : ℕ) (a : Bits) → length a ≤ n → value_of a < 2 ^ n
value_within n a h = omega (arith, value_below a, pow-le-pow_right {n = 2} (omega arith) h)

pub length_bits : (n v : ℕ) → length (bits_of n v) ≡ n
length_bits zero v = refl
length_bits (suc n) v = ap suc (length_bits n (v / 2))

pub bit_of_odd : (v : ℕ) → bit (eqb (v % 2) 1) ≡ v % 2
bit_of_odd v = go (v % 2) (omega arith)
  where
    go : (r : ℕ) → r < 2 → bit (eqb r 1) ≡ r
    go zero h = refl
    go (suc zero) h = refl
    go (suc (suc r)) h = absurd (omega arith)

-- a number below 2 ^ n is what its n lowest bits spell
pub value_of_bits : (n v : ℕ) → v < 2 ^ n → value_of (bits_of n v) ≡ v
value_of_bits zero v h = omega arith
value_of_bits (suc n) v h =
    let k : v / 2 < 2 ^ n = omega (arith, double n) in
    omega (arith, value_of_bits n (v / 2) k, bit_of_odd v)

-- bits are the lowest bits of the number that they spell
pub bits_of_value : (a : Bits) → bits_of (length a) (value_of a) ≡ a
bits_of_value a =
    value_of_injective (bits_of (length a) (value_of a)) a (length_bits (length a) (value_of a)) (value_of_bits (length a) (value_of a) (value_below a))

half_of : (b : Bool) (v : ℕ) → (bit b + 2 * v) / 2 ≡ v
half_of true v = omega arith
half_of false v = omega arith

odd_of : (b : Bool) (v : ℕ) → eqb ((bit b + 2 * v) % 2) 1 ≡ b
odd_of true v = let e : (1 + 2 * v) % 2 ≡ 1 = omega arith in rw e
odd_of false v = let e : (0 + 2 * v) % 2 ≡ 0 = omega arith in rw e

-- bit i + 1 of a number is bit i of its half
pub bit_at_suc : (i v : ℕ) → bit_at (suc i) v ≡ bit_at i (v / 2)
bit_at_suc i v = rw (double i, ← (div-div-eq-div-mul v 2 (2 ^ i)))

-- bit i of the number that bits spell, and false beyond the last
pub bit_at_value : (i : ℕ) (a : Bits) → bit_at i (value_of a) ≡ get_or a i false
bit_at_value i [] = rw (zero-div (2 ^ i))
bit_at_value zero (b ∷ a) = rw (div-one (bit b + 2 * value_of a)) (odd_of b (value_of a))
bit_at_value (suc i) (b ∷ a) = bit_at_suc i (bit b + 2 * value_of a) ∙ ap (bit_at i) (half_of b (value_of a)) ∙ bit_at_value i a

pub bit_at_bits : (n v i : ℕ) → i < n → get_or (bits_of n v) i false ≡ bit_at i v
bit_at_bits zero v i h = absurd (omega arith)
bit_at_bits (suc n) v zero h = rw (div-one v)
bit_at_bits (suc n) v (suc i) h = bit_at_bits n (v / 2) i (omega arith) ∙ sym (bit_at_suc i v)

-- ## Bits in bytes

-- bit i of bytes is bit i % 8 of byte i / 8
pub bit_of_bytes : (bs : List ℕ) (i : ℕ) → get_or (unpack bs) i false ≡ bit_at (i % 8) (get_or bs (i / 8) 0)
bit_of_bytes [] i = rw (zero-div (2 ^ (i % 8)))
bit_of_bytes (b ∷ bs) i = go (dec_lt i 8) (λ j. bit_of_bytes bs j)
  where
    go : Dec (i < 8) → ((j : ℕ) → get_or (unpack bs) j false ≡ bit_at (j % 8) (get_or bs (j / 8) 0)) → get_or (bits_of 8 b ++ unpack bs) i false ≡ bit_at (i % 8) (get_or (b ∷ bs) (i / 8) 0)
    go (yes h) behind =
        let q : i / 8 ≡ 0 = omega arith in
        let r : i % 8 ≡ i = omega arith in
        rw (q, r) (get_or-append (bits_of 8 b) (unpack bs) false i h ∙ bit_at_bits 8 b i h)
    go (no h) behind =
        let j : ℕ = i - 8 in
        let e : i ≡ 8 + j = omega arith in
        let q : i / 8 ≡ suc (j / 8) = omega arith in
        let r : i % 8 ≡ j % 8 = omega arith in
        rw (q, r) (ap (λ k. get_or (bits_of 8 b ++ unpack bs) k false) e ∙ get_or-append-add (bits_of 8 b) (unpack bs) j false ∙ behind j)
