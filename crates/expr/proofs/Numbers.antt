-- A number of n bytes that a reader reads.
use mathlib.Core.Path.{◌≡◌, refl, sym, subst, ◌∙◌}
use mathlib.Core.Bool.{Bool, true, false}
use mathlib.Core.List.{List}
use Prim.Native.Nat.{ℕ, zero, suc, ◌+◌, ◌-◌, ◌*◌, ◌%◌, ◌^◌, ◌≤◌, ◌<◌}
use native.Mathlib.Nat.{div-one, pow-succ'}
use native.Mathlib.Omega.{arith}
use borrow.Author.Tests.{ne_eqb}
use lib.Dec.{eqb}
use lib.ListN.{length, take, drop, get_or, length-drop}
use lib.Seq.{drop-cons, drop-drop}
use Rattle.std.specs.Prelude.{Ok, Err}
use Rattle.refusals.specs.declared.Refusal.TheVariants.{EndsEarly, ZeroWritten}
use Rattle.literals.specs.Bits.{bit_at, number_of}
use Rattle.literals.specs.Reading.{got, byte}
use Rattle.literals.proofs.Codec.{chunk_take, chunk_lacks}
use Rattle.expr.specs.Results.{ahead, NumberFound}
use Rattle.expr.specs.declared.reader.Reader.{Reader}

-- bit 0 is whether the number is odd
pub bit_zero : (m : ℕ) → eqb (m % 2) 1 ≡ bit_at 0 m
bit_zero m = rw (div-one m) refl

-- the first of the bytes is the lowest
spelled : (n i j : ℕ) (s : List ℕ) → i < length s → j ≡ suc i → number_of (take (suc n) (drop i s)) ≡ get_or s i 0 + 256 * number_of (take n (drop j s))
spelled n i j s h e = rw (e, drop-cons s i 0 h) refl

-- a power of 256 is more than 0
power_some : (k : ℕ) → 0 < 256 ^ k
power_some zero = omega arith
power_some (suc k) = rw (pow-succ' 256 k) (omega (arith, power_some k))

small_power : (k : ℕ) → k ≤ 3 → 256 ^ k ≤ 2 ^ 24
small_power zero h = omega arith
small_power (suc zero) h = omega arith
small_power (suc (suc zero)) h = omega arith
small_power (suc (suc (suc zero))) h = omega arith
small_power (suc (suc (suc (suc k)))) h = absurd (omega arith)

-- v is spelled by the bytes from the i-th on, of n from the place at on
pub record Spelled (n at i : ℕ) (s : List ℕ) (v : ℕ) : Type 0 where
  pub spells : number_of (take (n - i) (drop (at + i) s)) ≡ v
  pub below : v < 256 ^ (n - i)

-- the last byte is read first
module _ {n at : ℕ} {s : List ℕ} where
  pub spelled_none : Spelled n at n s 0
  spelled_none =
      let none : n - n ≡ 0 = omega arith in
      record { spells = rw none refl; below = rw none (omega arith) }

  module _ {i v : ℕ} (some : 0 < i) (in_number : i ≤ n) (l : Spelled n at i s v) where
    pub spelled_small : n ≤ 4 → v < 2 ^ 24
    spelled_small few = omega (arith, l.below, small_power (n - i) (omega arith))

    pub spelled_more : n ≤ length s - at → get_or s (at + (i - 1)) 0 < 256 → Spelled n at (i - 1) s (256 * v + get_or s (at + (i - 1)) 0)
    spelled_more fits byte =
        let count : n - (i - 1) ≡ suc (n - i) = omega arith in
        record {
          spells = rw count (omega (arith, spelled (n - i) (at + (i - 1)) (at + i) s (omega arith) (omega arith), l.spells));
          below = rw (count, pow-succ' 256 (n - i)) (omega (arith, l.below));
        }

  -- all are read
  module _ {i v : ℕ} (l : Spelled n at i s v) (none : i ≤ 0) where
    count : n - i ≡ n
    count = omega arith

    place : at + i ≡ at
    place = omega arith

    pub all_spelled : number_of (take n (drop at s)) ≡ v
    all_spelled = (λ k. number_of (take (sym count k) (drop (sym place k) s))) ∙ l.spells

    pub all_small : v < 256 ^ n
    all_small = subst (λ k. v < 256 ^ k) count l.below

module _ (n : ℕ) (r : Reader) {b : Bool} where
  pub number_absent : b ≡ false → NumberFound n b r r (Ok 0)
  number_absent e = record { found = record { answer = rw e refl; same = refl; inside = omega arith }; small = power_some n }

  pub number_lacking : b ≡ true → length r.bytes.now - r.at < n → NumberFound n b r r (Err EndsEarly)
  number_lacking e h =
      record { found = record { answer = rw (e, chunk_lacks n (ahead r) (simp length-drop h)) refl; same = refl; inside = omega arith }; small = tt }

  module _ (stands : b ≡ true) (fits : n ≤ length r.bytes.now - r.at) (v : ℕ) (spells : number_of (take n (ahead r)) ≡ v) where
    pub number_zero : v ≡ 0 → NumberFound n b r r (Err ZeroWritten)
    number_zero z =
        record {
          found = record { answer = rw (stands, chunk_take n (ahead r) (simp length-drop fits), spells, z) refl; same = refl; inside = omega arith };
          small = tt;
        }

    pub number_value : (v ≡ 0 → ⊥) → v < 256 ^ n → {r' : Reader} → r'.bytes.now ≡ r.bytes.now → r'.at ≡ r.at + n → NumberFound n b r r' (Ok v)
    number_value z small {r'} same next =
        record {
          found =
              record {
                answer =
                    (λ i. got v (drop (next i) (same i)))
                    ∙ rw (stands, chunk_take n (ahead r) (simp length-drop fits), spells, ne_eqb v 0 z, drop-drop n r.at r.bytes.now) refl;
                same = same;
                inside = omega (arith, next);
              };
          small = small;
        }
