-- The bits of a bound that stand: counted with more bits above them, and what the count says of the bound's size and value.
use mathlib.Core.Path.{◌≡◌, refl, sym, ap, ◌∙◌}
use mathlib.Core.Bool.{Bool, true, false, cond, beq}
use mathlib.Core.List.{List, [], ◌∷◌, ◌++◌}
use Prim.Native.Nat.{ℕ, zero, suc, ◌+◌, ◌-◌, ◌*◌, ◌/◌, ◌%◌, ◌^◌, ◌≤◌, ◌<◌}
use native.Mathlib.Nat.{mul-le-mul_right, mul-suc, suc-mul, pow-succ'}
use native.Mathlib.Numerals.{add-one}
use native.Mathlib.Decide.{dec_lt, ℕ_discrete}
use native.Mathlib.Omega.{arith}
use borrow.Author.Tests.{eq-eqb, ne_eqb}
use lib.Dec.{eqb}
use lib.ListN.{length, take, get_or, length-append, get_or-append, get_or-eq_default}
use lib.Seq.{ext_get_or, get_or-append-add, get_or-take, take-suc}
use Rattle.literals.specs.Bits.{Bits, bit, bit_at, bits_of, unpack, value_of}
use Rattle.literals.proofs.Bits.{bit_at_bits, bit_of_bytes, length_bits}
use Rattle.desugar.specs.Costs.{between_case_size, differences_size}
use Rattle.desugar.specs.LeafWords.{Stands, ones, stretch}
use Rattle.desugar.specs.declared.standing.Standing.{Standing}
use Rattle.desugar.proofs.Chains.{length_stretch}

-- ## Sizes

-- a standing bit counts for n
pub weight : (b : Bool) (n : ℕ) → cond (beq b true) n 0 ≡ n * bit b
weight true n = omega arith
weight false n = omega arith

pub ones_most : (a : Bits) → ones a ≤ length a
ones_most [] = omega arith
ones_most (true ∷ a) = omega (arith, ones_most a)
ones_most (false ∷ a) = omega (arith, ones_most a)

pub differences_most : (d : Bool) (a : Bits) → length a ≤ 128 → differences_size d a ≤ 256 * length a
differences_most d [] h = omega arith
differences_most d (b ∷ a) h = go (beq b d) (differences_most d a (omega arith))
  where
    go : (x : Bool) → differences_size d a ≤ 256 * length a → differences_size d a + cond x (2 * length a + 2) 0 ≤ 256 * suc (length a)
    go true t = omega arith
    go false t = omega arith

-- 2k + 2 for each of n bits
abbrev pub all_bits : ℕ → ℕ
all_bits zero = 0
all_bits (suc n) = all_bits n + 2 * n + 2

-- a bit stands or is clear
pub both_all : (a : Bits) → differences_size true a + differences_size false a ≡ all_bits (length a)
both_all [] = refl
both_all (true ∷ a) = omega (arith, both_all a)
both_all (false ∷ a) = omega (arith, both_all a)

all_most : (n m : ℕ) → n ≤ m → all_bits n ≤ all_bits m
all_most zero m h = omega arith
all_most (suc n) zero h = absurd (omega arith)
all_most (suc n) (suc m) h = omega (arith, all_most n m (omega arith))

pub all_128 : (n : ℕ) → n ≤ 128 → all_bits n ≤ 16512
all_128 n h = all_most n 128 h

pub all_bits_are : (n : ℕ) → all_bits n ≡ n * (n + 1)
all_bits_are zero = refl
all_bits_are (suc n) =
    let square : n * (n + 1) ≡ n * n + n = ap (λ m. n * m) (add-one n) ∙ mul-suc n n in
    let next : suc n * (suc n + 1) ≡ suc n * suc n + suc n = ap (λ m. suc n * m) (add-one (suc n)) ∙ mul-suc (suc n) (suc n) in
    let inner : suc n * suc n ≡ suc n * n + suc n = mul-suc (suc n) n in
    let first : suc n * n ≡ n * n + n = suc-mul n n in
    omega (arith, all_bits_are n)

pub product_small : (m n : ℕ) → m ≤ 128 → n ≤ 128 → m * n ≤ 16384
product_small m n h k = let p : m * n ≤ 128 * n = mul-le-mul_right n h in omega arith

-- of at most 128 bits
pub stands_few : (a : Bits) (s : Standing) (n : ℕ) → Stands a s → length a ≡ n → n ≤ 128 → (s.count ≤ 128) × (s.size ≤ 32768)
stands_few a s n h l k = (omega (arith, h.count, ones_most a), omega (arith, h.size, differences_most true a (omega arith)))

-- ## More bits above

pub ones_append : (a b : Bits) → ones (a ++ b) ≡ ones a + ones b
ones_append [] b = omega arith
ones_append (x ∷ a) b = omega (arith, ones_append a b)

-- each bit that stands is further from the top by the bits above
pub differences_append : (a b : Bits) → differences_size true (a ++ b) ≡ differences_size true a + 2 * (length b * ones a) + differences_size true b
differences_append [] b = omega arith
differences_append (true ∷ a) b =
    let more : length b * (1 + ones a) ≡ length b * ones a + length b = ap (λ m. length b * m) one_more ∙ mul-suc (length b) (ones a) in
    omega (arith, length-append a b, differences_append a b)
  where
    one_more : 1 + ones a ≡ suc (ones a)
    one_more = omega arith
differences_append (false ∷ a) b =
    let same : length b * (0 + ones a) ≡ length b * ones a = ap (λ m. length b * m) none_more in
    omega (arith, length-append a b, differences_append a b)
  where
    none_more : 0 + ones a ≡ ones a
    none_more = omega arith

-- one bit more above
pub stands_bit : (a : Bits) (b : Bool) {s t : Standing} → Stands a s → t.count ≡ s.count + bit b → t.size ≡ s.size + 2 * (s.count + bit b) → Stands (a ++ b ∷ []) t
stands_bit a b h count size = record {
  count = omega (arith, h.count, count, ones_append a (b ∷ []));
  size = omega (arith, h.count, h.size, size, differences_append a (b ∷ []), weight b 2);
}

-- the bits of a byte, one more
pub byte_bit : (v i : ℕ) → i < 8 → take (i + 1) (bits_of 8 v) ≡ take i (bits_of 8 v) ++ bit_at i v ∷ []
byte_bit v i h =
    rw (add-one i) (take-suc (bits_of 8 v) i false (omega (arith, length_bits 8 v)))
    ∙ ap (λ b. take i (bits_of 8 v) ++ b ∷ []) (bit_at_bits 8 v i h)

-- the lowest n bits of a bound of at most 128, which count for more by the bits above them
pub padded_few : (a : Bits) (n w : ℕ) {s : Standing} → Stands (stretch a 0 n) s → n ≤ w → w ≤ 128
    → (s.size ≤ 32768) × ((w - n) * s.count ≤ 16384)
padded_few a n w {s} h k l =
    let few = stands_few (stretch a 0 n) s n h (length_stretch a 0 n) (omega arith) in
    (few.1, product_small (w - n) s.count (omega arith) few.0)

stretch_get : (a : Bits) (i n j : ℕ) → j < n → get_or (stretch a i n) j false ≡ get_or a (i + j) false
stretch_get a i zero j h = absurd (omega arith)
stretch_get a i (suc n) zero h = let e : i ≡ i + 0 = omega arith in ap (λ k. get_or a k false) e
stretch_get a i (suc n) (suc j) h =
    let e : suc i + j ≡ i + suc j = omega arith in
    stretch_get a (suc i) n j (omega arith) ∙ ap (λ k. get_or a k false) e

pub stretch_append : (a : Bits) (m n : ℕ) → stretch a 0 (m + n) ≡ stretch a 0 m ++ stretch a m n
stretch_append a m n =
    ext_get_or false (stretch a 0 (m + n)) (stretch a 0 m ++ stretch a m n)
    (omega (arith, length_stretch a 0 (m + n), length-append (stretch a 0 m) (stretch a m n), length_stretch a 0 m, length_stretch a m n))
    (λ j h. stretch_get a 0 (m + n) j (omega (arith, length_stretch a 0 (m + n))) ∙ go j (omega (arith, length_stretch a 0 (m + n))) (dec_lt j m))
  where
    go : (j : ℕ) → j < m + n → Dec (j < m) → get_or a (0 + j) false ≡ get_or (stretch a 0 m ++ stretch a m n) j false
    go j h (yes k) = sym (get_or-append (stretch a 0 m) (stretch a m n) false j (omega (arith, length_stretch a 0 m)) ∙ stretch_get a 0 m j k)
    go j h (no k) =
        let e : 0 + j ≡ m + (j - m) = omega (arith, k) in
        let f : length (stretch a 0 m) + (j - m) ≡ j = omega (arith, k, length_stretch a 0 m) in
        ap (λ i. get_or a i false) e
        ∙ sym (stretch_get a m n (j - m) (omega (arith, k)))
        ∙ sym (get_or-append-add (stretch a 0 m) (stretch a m n) (j - m) false)
        ∙ ap (λ i. get_or (stretch a 0 m ++ stretch a m n) i false) f

pub stretch_bit : (a : Bits) (p : ℕ) {b : Bool} → b ≡ get_or a p false → stretch a 0 p ++ b ∷ [] ≡ stretch a 0 (p + 1)
stretch_bit a p e = ap (λ x. stretch a 0 p ++ x ∷ []) e ∙ sym (stretch_append a p 1)

-- a whole byte of a literal of n bits
pub stretch_byte : (bs : List ℕ) (n i : ℕ) → 8 * (i + 1) ≤ n → stretch (take n (unpack bs)) 0 (8 * i) ++ bits_of 8 (get_or bs i 0) ≡ stretch (take n (unpack bs)) 0 (8 * (i + 1))
stretch_byte bs n i h =
    let next : 8 * i + 8 ≡ 8 * (i + 1) = omega arith in
    ap (λ (b : Bits). stretch a 0 (8 * i) ++ b) (sym own) ∙ sym (stretch_append a (8 * i) 8) ∙ ap (stretch a 0) next
  where
    a : Bits
    a = take n (unpack bs)

    bit_is : (j : ℕ) → j < 8 → get_or (stretch a (8 * i) 8) j false ≡ get_or (bits_of 8 (get_or bs i 0)) j false
    bit_is j k =
        let low : (8 * i + j) % 8 ≡ j = omega arith in
        let high : (8 * i + j) / 8 ≡ i = omega arith in
        stretch_get a (8 * i) 8 j k
        ∙ get_or-take n (unpack bs) (8 * i + j) false (omega arith)
        ∙ bit_of_bytes bs (8 * i + j)
        ∙ (λ t. bit_at (low t) (get_or bs (high t) 0))
        ∙ sym (bit_at_bits 8 (get_or bs i 0) j k)

    own : stretch a (8 * i) 8 ≡ bits_of 8 (get_or bs i 0)
    own = ext_get_or false (stretch a (8 * i) 8) (bits_of 8 (get_or bs i 0)) refl bit_is

-- above a literal no bit stands
ones_none : (a : Bits) (n r : ℕ) → length a ≤ n → (ones (stretch a n r) ≡ 0) × (differences_size true (stretch a n r) ≡ 0)
ones_none a n zero h = (refl, refl)
ones_none a n (suc r) h =
    let rest = ones_none a (suc n) r (omega arith) in
    rw (get_or-eq_default a false h) (omega (arith, rest.0), omega (arith, rest.1))

pub padded_ones : (a : Bits) (n w : ℕ) → length a ≤ n → n ≤ w
    → (ones (stretch a 0 w) ≡ ones (stretch a 0 n)) × (differences_size true (stretch a 0 w) ≡ differences_size true (stretch a 0 n) + 2 * ((w - n) * ones (stretch a 0 n)))
padded_ones a n w h k =
    let whole : w ≡ n + (w - n) = omega arith in
    let split : stretch a 0 w ≡ stretch a 0 n ++ stretch a n (w - n) = ap (stretch a 0) whole ∙ stretch_append a n (w - n) in
    let none = ones_none a n (w - n) h in (
      ap ones split ∙ ones_append (stretch a 0 n) (stretch a n (w - n)) ∙ omega (arith, none.0),
      ap (differences_size true) split
          ∙ differences_append (stretch a 0 n) (stretch a n (w - n))
          ∙ ap (λ m. differences_size true (stretch a 0 n) + 2 * (m * ones (stretch a 0 n)) + differences_size true (stretch a n (w - n))) (length_stretch a n (w - n))
          ∙ omega (arith, none.1),
    )

-- ## The value

no_one : (a : Bits) → ones a ≡ 0 → value_of a ≡ 0
no_one [] h = refl
no_one (true ∷ a) h = absurd (omega arith)
no_one (false ∷ a) h = omega (arith, no_one a (omega arith))

zero_no_one : (a : Bits) → value_of a ≡ 0 → ones a ≡ 0
zero_no_one [] h = refl
zero_no_one (true ∷ a) h = absurd (omega arith)
zero_no_one (false ∷ a) h = omega (arith, zero_no_one a (omega arith))

all_ones : (a : Bits) → ones a ≡ length a → value_of a + 1 ≡ 2 ^ length a
all_ones [] h = refl
all_ones (true ∷ a) h = rw (pow-succ' 2 (length a)) (omega (arith, all_ones a (omega arith)))
all_ones (false ∷ a) h = absurd (omega (arith, ones_most a))

only_ones : (a : Bits) → value_of a + 1 ≡ 2 ^ length a → ones a ≡ length a
only_ones [] h = refl
only_ones (true ∷ a) h = let k = rw (pow-succ' 2 (length a)) at h in omega (arith, only_ones a (omega arith))
only_ones (false ∷ a) h = let k = rw (pow-succ' 2 (length a)) at h in absurd (omega arith)

-- the count is 0, or that of all bits, where the value is 0, or the highest
zero_count : (a : Bits) → eqb (ones a) 0 ≡ eqb (value_of a) 0
zero_count a = go (ℕ_discrete (ones a) 0)
  where
    go : Dec (ones a ≡ 0) → eqb (ones a) 0 ≡ eqb (value_of a) 0
    go (yes h) = eq-eqb (ones a) 0 h ∙ sym (eq-eqb (value_of a) 0 (no_one a h))
    go (no h) = ne_eqb (ones a) 0 h ∙ sym (ne_eqb (value_of a) 0 (λ e. h (zero_no_one a e)))

full_count : (a : Bits) → eqb (ones a) (length a) ≡ eqb (value_of a + 1) (2 ^ length a)
full_count a = go (ℕ_discrete (ones a) (length a))
  where
    go : Dec (ones a ≡ length a) → eqb (ones a) (length a) ≡ eqb (value_of a + 1) (2 ^ length a)
    go (yes h) = eq-eqb (ones a) (length a) h ∙ sym (eq-eqb (value_of a + 1) (2 ^ length a) (all_ones a h))
    go (no h) = ne_eqb (ones a) (length a) h ∙ sym (ne_eqb (value_of a + 1) (2 ^ length a) (λ e. h (only_ones a e)))

-- the size of a range of values whose bounds differ, by their counts
pub size_by_counts : (a b : Bits) {s t : Standing} (w : ℕ) → Stands a s → length b ≡ w → Stands b t → {x y : Bool} → eqb s.count 0 ≡ x → eqb t.count w ≡ y
    → between_case_size false x y a b ≡ between_case_size false (eqb (value_of a) 0) (eqb (value_of b + 1) (2 ^ length b)) a b
size_by_counts a b {s} {t} w h m k {x} {y} e f =
    let zero : x ≡ eqb (value_of a) 0 = sym e ∙ ap (λ n. eqb n 0) h.count ∙ zero_count a in
    let full : y ≡ eqb (value_of b + 1) (2 ^ length b) = sym f ∙ (λ i. eqb (k.count i) (sym m i)) ∙ full_count b in
    λ i. between_case_size false (zero i) (full i) a b
