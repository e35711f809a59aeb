-- Laws of numbers and bits as bytes.
use mathlib.Core.Path.{◌≡◌, refl, sym, ap, ◌∙◌}
use mathlib.Core.List.{List, [], ◌∷◌, ◌++◌}
use Prim.Native.Nat.{ℕ, zero, suc, ◌+◌, ◌*◌, ◌/◌, ◌%◌, ◌^◌, ◌≤◌, ◌<◌}
use native.Mathlib.Nat.{pow-succ', div-eq_of_lt, add-mul-div_left}
use native.Mathlib.Omega.{arith}
use lib.ListN.{length, take, drop, length-take, take-append-drop}
use lib.Seq.{drop-nil, length-take-le, take-append-le, drop-append-add}
use Rattle.literals.specs.Bits.{Bits, value_of, bits_of, pad, Bytes, number_of, bytes_of, unpack, pack}
use Rattle.literals.proofs.Bits.{length_pad, value_of_pad, value_of_injective, value_within, value_of_bits}

-- ## Lists of bytes

pub bytes_append : (a b : List ℕ) → Bytes a → Bytes b → Bytes (a ++ b)
bytes_append [] b h k = k
bytes_append (x ∷ a) b h k = (h.0, bytes_append a b h.1 k)

pub bytes_left : (a b : List ℕ) → Bytes (a ++ b) → Bytes a
bytes_left [] b h = tt
bytes_left (x ∷ a) b h = (h.0, bytes_left a b h.1)

pub bytes_right : (a b : List ℕ) → Bytes (a ++ b) → Bytes b
bytes_right [] b h = h
bytes_right (x ∷ a) b h = bytes_right a b h.1

-- ## Numbers

pub length_bytes_of : (n v : ℕ) → length (bytes_of n v) ≡ n
length_bytes_of zero v = refl
length_bytes_of (suc n) v = ap suc (length_bytes_of n (v / 256))

pub bytes_of_bytes : (n v : ℕ) → Bytes (bytes_of n v)
bytes_of_bytes zero v = tt
bytes_of_bytes (suc n) v = (omega arith, bytes_of_bytes n (v / 256))

-- a number below 256 ^ n is what its n lowest bytes spell
pub number_of_bytes : (n v : ℕ) → v < 256 ^ n → number_of (bytes_of n v) ≡ v
number_of_bytes zero v h = omega arith
number_of_bytes (suc n) v h =
    let k : v / 256 < 256 ^ n = omega (arith, pow-succ' 256 n) in
    omega (arith, number_of_bytes n (v / 256) k)

-- bytes are the lowest bytes of the number that they spell
pub bytes_of_number : (bs : List ℕ) → Bytes bs → bytes_of (length bs) (number_of bs) ≡ bs
bytes_of_number [] h = refl
bytes_of_number (b ∷ bs) h =
    let low : (b + 256 * number_of bs) % 256 ≡ b = omega arith in
    let high : (b + 256 * number_of bs) / 256 ≡ number_of bs = omega arith in
    rw (low, high) (ap (λ (cs : List ℕ). b ∷ cs) (bytes_of_number bs h.1))

-- n bytes spell a number below 256 ^ n
pub number_below : (bs : List ℕ) → Bytes bs → number_of bs < 256 ^ length bs
number_below [] h = omega arith
number_below (b ∷ bs) h = rw (pow-succ' 256 (length bs)) (omega (arith, number_below bs h.1))

-- ## Bits

value_of_append : (a b : Bits) → value_of (a ++ b) ≡ value_of a + 2 ^ length a * value_of b
value_of_append [] b = omega arith
value_of_append (c ∷ a) b = rw (pow-succ' 2 (length a)) (omega (arith, value_of_append a b))

value_of_split : (n : ℕ) (a : Bits) → value_of a ≡ value_of (take n a) + 2 ^ n * value_of (drop n a)
value_of_split zero a = omega arith
value_of_split (suc n) [] = omega arith
value_of_split (suc n) (c ∷ a) = rw (pow-succ' 2 n) (omega (arith, value_of_split n a))

pub value_of_unpack : (bs : List ℕ) → Bytes bs → value_of (unpack bs) ≡ number_of bs
value_of_unpack [] h = refl
value_of_unpack (b ∷ bs) h =
    omega (arith, value_of_append (bits_of 8 b) (unpack bs), value_of_bits 8 b h.0, value_of_unpack bs h.1)

pub length_unpack : (bs : List ℕ) → length (unpack bs) ≡ 8 * length bs
length_unpack [] = refl
length_unpack (b ∷ bs) = omega (arith, length_unpack bs)

pub value_below_take : (n : ℕ) (a : Bits) → value_of (take n a) < 2 ^ n
value_below_take n a = value_within n (take n a) (omega (arith, length-take n a))

-- without its n lowest bits
pub value_of_drop : (n : ℕ) (a : Bits) → value_of (drop n a) ≡ value_of a / 2 ^ n
value_of_drop n a =
    let h : value_of (take n a) < 2 ^ n = value_below_take n a in
    sym (ap (λ v. v / 2 ^ n) (value_of_split n a) ∙ add-mul-div_left (value_of (take n a)) (value_of (drop n a)) (omega arith) ∙ omega (arith, div-eq_of_lt h))

unpack_append : (a b : List ℕ) → unpack (a ++ b) ≡ unpack a ++ unpack b
unpack_append [] b = refl
unpack_append (x ∷ a) b = ap (λ (u : Bits). bits_of 8 x ++ u) (unpack_append a b)

-- the first n bits lie in the first m bytes
pub take_unpack : (n m : ℕ) (bs : List ℕ) → n ≤ 8 * m → m ≤ length bs → take n (unpack (take m bs)) ≡ take n (unpack bs)
take_unpack n m bs h k =
    let long : n ≤ length (unpack (take m bs)) = omega (arith, length_unpack (take m bs), length-take-le m bs k) in
    sym
    (ap (λ (cs : List ℕ). take n (unpack cs)) (sym (take-append-drop m bs))
    ∙ ap (take n) (unpack_append (take m bs) (drop m bs))
    ∙ take-append-le n (unpack (take m bs)) (unpack (drop m bs)) long)

pub drop_unpack : (m : ℕ) (bs : List ℕ) → drop (8 * m) (unpack bs) ≡ unpack (drop m bs)
drop_unpack zero bs = refl
drop_unpack (suc m) [] = drop-nil (8 * suc m)
drop_unpack (suc m) (b ∷ bs) =
    let e : 8 * suc m ≡ 8 + 8 * m = omega arith in
    ap (λ k. drop k (unpack (b ∷ bs))) e ∙ drop-append-add (bits_of 8 b) (unpack bs) (8 * m) ∙ drop_unpack m bs

-- packed bits are the bytes of the number that they spell
pub pack_is : (n : ℕ) (a : Bits) → pack n a ≡ bytes_of n (value_of a)
pack_is zero a = refl
pack_is (suc n) a =
    let low : value_of a % 256 ≡ value_of (take 8 a) = omega (arith, value_of_split 8 a, value_below_take 8 a) in
    let high : value_of a / 256 ≡ value_of (drop 8 a) = omega (arith, value_of_split 8 a, value_below_take 8 a) in
    rw (low, high) (ap (λ (cs : List ℕ). value_of (take 8 a) ∷ cs) (pack_is n (drop 8 a)))

pub pack_unpack : (bs : List ℕ) → Bytes bs → pack (length bs) (unpack bs) ≡ bs
pack_unpack bs h = pack_is (length bs) (unpack bs) ∙ ap (bytes_of (length bs)) (value_of_unpack bs h) ∙ bytes_of_number bs h

two_powers : (n : ℕ) → 2 ^ (8 * n) ≡ 256 ^ n
two_powers zero = refl
two_powers (suc n) =
    let e : 8 * suc n ≡ suc (suc (suc (suc (suc (suc (suc (suc (8 * n)))))))) = omega arith in
    rw (e, pow-succ' 256 n) (omega (arith, two_powers n))

-- unpacking gives the bits again, with false high bits
pub unpack_pack : (n : ℕ) (a : Bits) → length a ≤ 8 * n → unpack (pack n a) ≡ pad (8 * n) a
unpack_pack n a h =
    let below : value_of a < 256 ^ n = omega (arith, value_within (8 * n) a h, two_powers n) in
    let value : value_of (unpack (bytes_of n (value_of a))) ≡ value_of (pad (8 * n) a) =
    value_of_unpack (bytes_of n (value_of a)) (bytes_of_bytes n (value_of a)) ∙ number_of_bytes n (value_of a) below ∙ sym (value_of_pad (8 * n) a) in
    let long : length (unpack (bytes_of n (value_of a))) ≡ length (pad (8 * n) a) =
    omega (arith, length_unpack (bytes_of n (value_of a)), length_bytes_of n (value_of a), length_pad (8 * n) a h) in
    rw (pack_is n a) (value_of_injective (unpack (bytes_of n (value_of a))) (pad (8 * n) a) long value)
