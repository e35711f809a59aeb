-- Laws of the values of literals, bit by bit, and of literals as they lie in bytes.
use mathlib.Core.Path.{◌≡◌, refl, sym, ap, ◌∙◌}
use mathlib.Core.Bool.{Bool, true, false, false≢true, true≢false}
use mathlib.Core.List.{List, [], ◌∷◌}
use Prim.Native.Nat.{ℕ, zero, suc, ◌+◌, ◌-◌, ◌*◌, ◌/◌, ◌^◌, ◌≤◌, ◌<◌}
use native.Mathlib.Nat.{pow-succ'}
use native.Mathlib.Numerals.{add-one}
use native.Mathlib.Decide.{dec_lt}
use native.Mathlib.Omega.{arith}
use borrow.Author.Tests.{eq-eqb, ne_eqb, le-leb, lt-leb}
use lib.Dec.{eqb}
use lib.ListN.{length, get_or, take, drop, drop_of_length-le, length-take, length-drop, get_or-eq_default}
use lib.Seq.{take_all, drop-cons, drop-drop, length-take-le, get_or-take, get_or-drop}
use Rattle.literals.specs.Bits.{Bits, bit, value_of, bits_of, unpack}
use Rattle.literals.specs.Reading.{got, fault, go_on, give, ask, max_literal, bytes_for, all_false, literal, lent}
use Rattle.literals.proofs.Bits.{value_within, value_of_bits}
use Rattle.literals.proofs.Bytes.{value_of_drop, length_unpack, take_unpack, drop_unpack}
use Rattle.literals.proofs.Codec.{chunk_take, chunk_lacks}

-- ## Bits

pub beyond_take : (n : ℕ) (a : Bits) (i : ℕ) → n ≤ i → get_or (take n a) i false ≡ false
beyond_take n a i h = get_or-eq_default (take n a) false (omega (arith, length-take n a))

-- one bit more
pub value_of_take : (i : ℕ) (a : Bits) {b : Bool} → get_or a i false ≡ b → value_of (take (i + 1) a) ≡ value_of (take i a) + 2 ^ i * bit b
value_of_take i a e = rw (← e, add-one i) (go i a)
  where
    go : (j : ℕ) (c : Bits) → value_of (take (suc j) c) ≡ value_of (take j c) + 2 ^ j * bit (get_or c j false)
    go zero [] = refl
    go zero (d ∷ c) = omega arith
    go (suc j) [] = omega arith
    go (suc j) (d ∷ c) = rw (pow-succ' 2 j) (omega (arith, go j c))

-- all n bits, or more
pub value_of_whole : (i n : ℕ) (a : Bits) → n ≤ i → value_of (take i (take n a)) ≡ value_of (take n a)
value_of_whole i n a h = ap value_of (take_all i (take n a) (omega (arith, length-take n a)))

-- a bit that is true makes the value more than 0
pub bit_true : (i : ℕ) (a : Bits) → get_or a i false ≡ true → 0 < value_of a
bit_true i [] e = absurd (false≢true e)
bit_true zero (true ∷ a) e = omega arith
bit_true zero (false ∷ a) e = absurd (false≢true e)
bit_true (suc i) (b ∷ a) e = omega (arith, bit_true i a e)

-- a bit that is false makes the value less than the highest
pub bit_false : (n i : ℕ) (a : Bits) → i < n → length a ≤ n → get_or a i false ≡ false → value_of a + 1 < 2 ^ n
bit_false zero i a h k e = absurd (omega arith)
bit_false (suc n) i [] h k e = rw (pow-succ' 2 n) (omega (arith, value_within n [] (omega arith)))
bit_false (suc n) zero (true ∷ a) h k e = absurd (true≢false e)
bit_false (suc n) zero (false ∷ a) h k e = rw (pow-succ' 2 n) (omega (arith, value_within n a (omega arith)))
bit_false (suc n) (suc i) (true ∷ a) h k e = rw (pow-succ' 2 n) (omega (arith, bit_false n i a (omega arith) (omega arith) e))
bit_false (suc n) (suc i) (false ∷ a) h k e = rw (pow-succ' 2 n) (omega (arith, bit_false n i a (omega arith) (omega arith) e))

-- ## Spare bits

all_false_is : (a : Bits) → all_false a ≡ eqb (value_of a) 0
all_false_is [] = refl
all_false_is (true ∷ a) = sym (ne_eqb (1 + 2 * value_of a) 0 (λ e. omega arith))
all_false_is (false ∷ a) = all_false_is a ∙ go (value_of a)
  where
    go : (v : ℕ) → eqb v 0 ≡ eqb (0 + 2 * v) 0
    go zero = refl
    go (suc v) = ne_eqb (suc v) 0 (λ e. omega arith) ∙ sym (ne_eqb (0 + 2 * suc v) 0 (λ e. omega arith))

-- how many bits of the last of its bytes a literal of n bits takes
abbrev in_last : ℕ → ℕ
in_last n = 8 - (bytes_for n * 8 - n)

-- spare bits are false where the last byte has nothing above the literal
spare_is : (n : ℕ) (cs : List ℕ) → 0 < n → length cs ≡ bytes_for n → get_or cs (bytes_for n - 1) 0 < 256
    → all_false (drop n (unpack cs)) ≡ eqb (get_or cs (bytes_for n - 1) 0 / 2 ^ in_last n) 0
spare_is n cs h long small =
    let m : ℕ = bytes_for n - 1 in
    let r : ℕ = in_last n in
    let b : ℕ = get_or cs m 0 in
    let split : n ≡ 8 * m + r = omega arith in
    let end : length cs ≤ suc m = omega arith in
    let last : drop m cs ≡ b ∷ [] = drop-cons cs m 0 (omega arith) ∙ ap (λ (ds : List ℕ). b ∷ ds) (drop_of_length-le cs end) in
    let spare : drop n (unpack cs) ≡ drop r (bits_of 8 b) =
    ap (λ k. drop k (unpack cs)) split ∙ sym (drop-drop r (8 * m) (unpack cs)) ∙ ap (drop r) (drop_unpack m cs ∙ ap unpack last) in
    all_false_is (drop n (unpack cs))
    ∙ ap (λ v. eqb v 0) (ap value_of spare ∙ value_of_drop r (bits_of 8 b) ∙ ap (λ v. v / 2 ^ r) (value_of_bits 8 b small))

-- ## Reading a literal whose length byte stands at a place

-- the length in bits and in bytes, the bytes behind it, and the literal's last byte
abbrev bits_at : List ℕ → ℕ → ℕ
bits_at s at = get_or s at 0

abbrev size_at_fact : List ℕ → ℕ → ℕ
size_at_fact s at = bytes_for (bits_at s at)

abbrev behind : List ℕ → ℕ → List ℕ
behind s at = drop (at + 1) s

abbrev pub last_place : List ℕ → ℕ → ℕ
last_place s at = at + 1 + size_at_fact s at - 1

abbrev pub last_at : List ℕ → ℕ → ℕ
last_at s at = get_or s (last_place s at) 0

-- what the last byte holds above the literal
abbrev spare_at : List ℕ → ℕ → ℕ
spare_at s at = last_at s at / 2 ^ in_last (bits_at s at)

module _ (s : List ℕ) (at : ℕ) (h : at < length s) where
  opened : literal (drop at s) ≡ literal (bits_at s at ∷ behind s at)
  opened = rw add-one (ap literal (drop-cons s at 0 h))

  pub read_zero : bits_at s at ≡ 0 → literal (drop at s) ≡ fault 4
  read_zero z = opened ∙ rw (eq-eqb (bits_at s at) 0 z)

  module _ (some : bits_at s at ≡ 0 → ⊥) where
    pub read_long : max_literal < bits_at s at → literal (drop at s) ≡ fault 5
    read_long long = opened ∙ rw (ne_eqb (bits_at s at) 0 some, lt-leb (bits_at s at) max_literal long)

    module _ (short : bits_at s at ≤ max_literal) where
      pub read_lacking : length s - (at + 1) < size_at_fact s at → literal (drop at s) ≡ fault 1
      read_lacking k =
          let few : length (behind s at) < size_at_fact s at = omega (arith, length-drop (at + 1) s) in
          opened
          ∙ rw (
            ne_eqb (bits_at s at) 0 some,
            le-leb (bits_at s at) max_literal short,
            chunk_lacks (size_at_fact s at) (behind s at) few,
          )

      module _ (k : size_at_fact s at ≤ length s - (at + 1)) (small : last_at s at < 256) where
        enough : size_at_fact s at ≤ length (behind s at)
        enough = omega (arith, length-drop (at + 1) s)

        abbrev bytes_at : List ℕ
        bytes_at = take (size_at_fact s at) (behind s at)

        last_is : get_or bytes_at (size_at_fact s at - 1) 0 ≡ last_at s at
        last_is =
            let place : at + 1 + (size_at_fact s at - 1) ≡ last_place s at = omega arith in
            get_or-take (size_at_fact s at) (behind s at) (size_at_fact s at - 1) 0 (omega arith)
            ∙ get_or-drop (at + 1) s (size_at_fact s at - 1) 0
            ∙ ap (λ i. get_or s i 0) place

        asked : literal (drop at s) ≡ go_on (ask (eqb (spare_at s at) 0) 4 (drop (size_at_fact s at) (behind s at))) (λ _. give (take (bits_at s at) (unpack (behind s at))))
        asked =
            let none : all_false (drop (bits_at s at) (unpack bytes_at)) ≡ eqb (spare_at s at) 0 =
            spare_is (bits_at s at) bytes_at (omega arith) (length-take-le (size_at_fact s at) (behind s at) enough) (rw last_is small)
            ∙ ap (λ v. eqb (v / 2 ^ in_last (bits_at s at)) 0) last_is in
            opened
            ∙ rw (
              ne_eqb (bits_at s at) 0 some,
              le-leb (bits_at s at) max_literal short,
              chunk_take (size_at_fact s at) (behind s at) enough,
              none,
              take_unpack (bits_at s at) (size_at_fact s at) (behind s at) (omega arith) enough,
            )

        pub read_spare : 0 < spare_at s at → literal (drop at s) ≡ fault 4
        read_spare p = asked ∙ rw (ne_eqb (spare_at s at) 0 (λ e. omega arith))

        pub read_got : spare_at s at ≤ 0
            → literal (drop at s) ≡ got (take (bits_at s at) (unpack (behind s at))) (drop (at + 1 + size_at_fact s at) s)
        read_got p =
            let e : spare_at s at ≡ 0 = omega arith in
            asked ∙ rw (eq-eqb (spare_at s at) 0 e, drop-drop (size_at_fact s at) (at + 1) s)

-- ## A literal that is lent

module _ (s : List ℕ) (n : ℕ) where
  pub lent_long : max_literal < n → lent n s ≡ fault 5
  lent_long h = rw (lt-leb n max_literal h) refl

  pub lent_lacking : n ≤ max_literal → length s < bytes_for n → lent n s ≡ fault 1
  lent_lacking h k = rw (le-leb n max_literal h, chunk_lacks (bytes_for n) s k) refl

  pub lent_got : n ≤ max_literal → bytes_for n ≤ length s → lent n s ≡ got (take n (unpack s)) (drop (bytes_for n) s)
  lent_got h k =
      rw (le-leb n max_literal h, chunk_take (bytes_for n) s k)
      (ap (λ (a : Bits). got a (drop (bytes_for n) s)) (take_unpack n (bytes_for n) s (omega arith) k))

  -- one that is not refused has all its bits
  pub lent_whole : {a : Bits} {bs : List ℕ} → lent n s ≡ got a bs → length (take n (unpack s)) ≡ n
  lent_whole {a} {bs} e = go (dec_lt max_literal n) (dec_lt (length s) (bytes_for n))
    where
      refused : (r : ℕ) → lent n s ≡ fault r → ⊥
      refused r k = let z : ◌≡◌ {A = ℕ} 0 1 = cc in omega arith

      go : Dec (max_literal < n) → Dec (length s < bytes_for n) → length (take n (unpack s)) ≡ n
      go (yes h) d = absurd (refused 5 (lent_long h))
      go (no h) (yes k) = absurd (refused 1 (lent_lacking (omega (arith, h)) k))
      go (no h) (no k) = length-take-le n (unpack s) (omega (arith, length_unpack s, k))
