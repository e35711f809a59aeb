-- The records of a Wildcard's core, and how many they are.
use mathlib.Core.Path.{◌∙◌, ◌≡◌, ap, refl, sym}
use mathlib.Core.Bool.{Bool, cond, false, true}
use mathlib.Core.List.{List, [], ◌++◌, ◌∷◌, append-nil}
use Prim.Native.Nat.{◌*◌, ◌+◌, ◌-◌, ◌<◌, ◌≤◌, suc, zero, ℕ}
use native.Mathlib.Nat.{add-zero, suc-add}
use native.Mathlib.Numerals.{add-one}
use native.Mathlib.Omega.{arith}
use lib.ListN.{get_or, length}
use lib.Seq.{sets}
use Rattle.literals.specs.Bits.{Bits, bit}
use Rattle.expr.specs.Terms.{Core, Intersect, One, Test, leaf, size}
use Rattle.desugar.specs.Costs.{chain_size, clear}
use Rattle.desugar.specs.LeafWords.{linked, stretch, trim}
use Rattle.desugar.specs.Leaves.{chain, masked_tests}
use Rattle.desugar.specs.Memory.{words, size_all}
use Rattle.desugar.proofs.Chains.{length_linked, length_stretch, link_last, link_more, size_chain, stretch_more, suc_shift}

-- ## How many they are

clear_append : (a : Bits) (b : Bool) → clear (a ++ b ∷ []) ≡ clear a + cond b 0 1
clear_append [] b = omega arith
clear_append (c ∷ a) b = omega (arith, clear_append a b)

clear_more : (m : Bits) (i : ℕ) → clear (stretch m 0 (suc i)) ≡ clear (stretch m 0 i) + cond (get_or m i false) 0 1
clear_more m i =
    ap clear (stretch_more m 0 i) ∙ clear_append (stretch m 0 i) (get_or m (0 + i) false)
    ∙ ap (λ k. clear (stretch m 0 i) + cond (get_or m k false) 0 1) (omega arith)

pub clear_most : (m : Bits) (i : ℕ) → clear (stretch m 0 i) ≤ i
clear_most m zero = omega arith
clear_most m (suc i) = go (get_or m i false) (clear_more m i) (clear_most m i)
  where
    go : (b : Bool) → clear (stretch m 0 (suc i)) ≡ clear (stretch m 0 i) + cond b 0 1 → clear (stretch m 0 i) ≤ i → clear (stretch m 0 (suc i)) ≤ suc i
    go true e h = omega arith
    go false e h = omega arith

clear_rises : (m : Bits) (i k : ℕ) → clear (stretch m 0 i) ≤ clear (stretch m 0 (k + i))
clear_rises m i zero = let e : 0 + i ≡ i = omega arith in rw e (omega arith)
clear_rises m i (suc k) = rw (suc-add k i) (omega (arith, clear_more m (k + i), clear_rises m i k))

pub clear_below : (m : Bits) (i j : ℕ) → i ≤ j → clear (stretch m 0 i) ≤ clear (stretch m 0 j)
clear_below m i j h = let e : j - i + i ≡ j = omega arith in rw e at (clear_rises m i (j - i))

-- a test for each bit of the mask that is false
length_masked : (s : ℕ) (a m : Bits) → length a ≡ length m → length (masked_tests s a m) ≡ clear m
length_masked s [] [] h = refl
length_masked s [] (c ∷ m) h = absurd (omega arith)
length_masked s (b ∷ a) [] h = absurd (omega arith)
length_masked s (b ∷ a) (true ∷ m) h = omega (arith, length_masked (suc s) a m (omega arith))
length_masked s (b ∷ a) (false ∷ m) h = omega (arith, length_masked (suc s) a m (omega arith))

sizes_masked : (s : ℕ) (a m : Bits) → size_all (masked_tests s a m) ≡ length (masked_tests s a m)
sizes_masked s [] m = refl
sizes_masked s (b ∷ a) [] = refl
sizes_masked s (b ∷ a) (true ∷ m) = sizes_masked (suc s) a m
sizes_masked s (b ∷ a) (false ∷ m) = omega (arith, sizes_masked (suc s) a m)

pub size_masked : (s : ℕ) (a m : Bits) → length a ≡ length m → size (chain Intersect One (masked_tests s a m)) ≡ chain_size (clear m)
size_masked s a m h = omega (arith, size_chain Intersect One (masked_tests s a m), sizes_masked s a m, length_masked s a m h)

-- ## Bit by bit

masked_append : (s : ℕ) (a m : Bits) (b c : Bool) → length a ≡ length m
    → masked_tests s (a ++ b ∷ []) (m ++ c ∷ []) ≡ masked_tests s a m ++ cond c [] (leaf (Test (s + length a) b) ∷ [])
masked_append s [] [] b true h = refl
masked_append s [] [] b false h = ap (λ k. leaf (Test k b) ∷ []) (sym (add-zero s))
masked_append s [] (y ∷ m) b c h = absurd (omega arith)
masked_append s (x ∷ a) [] b c h = absurd (omega arith)
masked_append s (x ∷ a) (true ∷ m) b c h =
    masked_append (suc s) a m b c (omega arith) ∙ ap (λ k. masked_tests (suc s) a m ++ cond c [] (leaf (Test k b) ∷ [])) (suc_shift s (length a))
masked_append s (x ∷ a) (false ∷ m) b c h =
    ap (λ (l : List Core). leaf (Test s x) ∷ l)
    (masked_append (suc s) a m b c (omega arith) ∙ ap (λ k. masked_tests (suc s) a m ++ cond c [] (leaf (Test k b) ∷ [])) (suc_shift s (length a)))

-- the tests of the lowest i bits
abbrev pub lows : ℕ → Bits → Bits → ℕ → List Core
lows s a m i = masked_tests s (stretch a 0 i) (stretch m 0 i)

-- the test of bit i of an address, where its mask is false
abbrev tested : ℕ → Bits → Bits → ℕ → List Core
tested s a m i = cond (get_or m i false) [] (leaf (Test (s + i) (get_or a i false)) ∷ [])

module _ (s : ℕ) (a m : Bits) where
  lows_more : (i : ℕ) → lows s a m (suc i) ≡ lows s a m i ++ tested s a m i
  lows_more i =
      let z : 0 + i ≡ i = omega arith in
      (λ j. masked_tests s (stretch_more a 0 i j) (stretch_more m 0 i j))
      ∙ masked_append s (stretch a 0 i) (stretch m 0 i) (get_or a (0 + i) false) (get_or m (0 + i) false) (length_stretch a 0 i ∙ sym (length_stretch m 0 i))
      ∙ (λ j. lows s a m i ++ cond (get_or m (z j) false) [] (leaf (Test (s + length_stretch a 0 i j) (get_or a (z j) false)) ∷ []))

  -- what lies above the highest bit of the mask that is false has no tests
  lows_trim : (w : ℕ) → lows s a m w ≡ lows s a m (trim m w)
  lows_trim zero = refl
  lows_trim (suc w) = go (get_or m w false) (lows_more w) (lows_trim w)
    where
      go : (b : Bool) → lows s a m (suc w) ≡ lows s a m w ++ cond b [] (leaf (Test (s + w) (get_or a w false)) ∷ [])
          → lows s a m w ≡ lows s a m (trim m w) → lows s a m (suc w) ≡ lows s a m (cond b (trim m w) (suc w))
      go true e f = e ∙ append-nil (lows s a m w) ∙ f
      go false e f = refl

trim_bound : (m : Bits) (w : ℕ) → trim m w ≤ w
trim_bound m zero = omega arith
trim_bound m (suc w) = go (get_or m w false) (trim_bound m w)
  where
    go : (b : Bool) → trim m w ≤ w → cond b (trim m w) (suc w) ≤ suc w
    go true h = omega arith
    go false h = omega arith

trim_last : (m : Bits) (w e : ℕ) → trim m w ≡ suc e → get_or m e false ≡ false
trim_last m zero e h = absurd (omega arith)
trim_last m (suc w) e h = go (get_or m w false) refl h (trim_last m w e)
  where
    go : (b : Bool) → get_or m w false ≡ b → cond b (trim m w) (suc w) ≡ suc e → (trim m w ≡ suc e → get_or m e false ≡ false) → get_or m e false ≡ false
    go true f g r = r g
    go false f g r = let same : w ≡ e = omega arith in ap (λ k. get_or m k false) (sym same) ∙ f

pub clear_next : (m : Bits) (i : ℕ) → clear (stretch m 0 (i + 1)) ≡ clear (stretch m 0 i) + cond (get_or m i false) 0 1
clear_next m i = rw (add-one i) (clear_more m i)

pub clear_one : (m : Bits) (i : ℕ) → get_or m i false ≡ false → clear (stretch m 0 (i + 1)) ≡ clear (stretch m 0 i) + 1
clear_one m i e = clear_next m i ∙ ap (λ b. clear (stretch m 0 i) + cond b 0 1) e

pub clear_none : (m : Bits) (i : ℕ) → get_or m i false ≡ true → clear (stretch m 0 (i + 1)) ≡ clear (stretch m 0 i)
clear_none m i e = clear_next m i ∙ ap (λ b. clear (stretch m 0 i) + cond b 0 1) e ∙ add-zero (clear (stretch m 0 i))

-- a bit that is false is one more below any higher index
pub clear_before : (m : Bits) (i j : ℕ) → get_or m i false ≡ false → i < j → clear (stretch m 0 i) + 1 ≤ clear (stretch m 0 j)
clear_before m i j e h = omega (arith, clear_one m i e, clear_below m (i + 1) j (omega arith))

-- the highest bit of a mask that is false is one of its bits, and not among those below it
pub clear_last : (m : Bits) (w e : ℕ) → trim m w ≡ suc e → (e < w) × (clear (stretch m 0 e) + 1 ≤ clear (stretch m 0 w))
clear_last m w e h =
    let t : suc e ≤ w = omega (arith, trim_bound m w) in
    let one : ◌≡◌ {A = ℕ} (cond (get_or m e false) 0 1) 1 = ap (λ b. cond b 0 1) (trim_last m w e h) in
    (t, omega (arith, clear_more m e, clear_below m (suc e) w t))

-- ## Writing

-- what is written so far are the tests of the lowest i bits
module _ (s : ℕ) (a m : Bits) (i : ℕ) (l : List ℕ) (at : ℕ) {to : ℕ} {xs : List ℕ}
    (sofar : xs ≡ sets l at (linked Intersect (lows s a m i))) (place : to ≡ at + 6 * clear (stretch m 0 i)) where
  end : to ≡ at + length (linked Intersect (lows s a m i))
  end =
      let same : length (stretch a 0 i) ≡ length (stretch m 0 i) = length_stretch a 0 i ∙ sym (length_stretch m 0 i) in
      omega (
        arith,
        length_linked Intersect (lows s a m i),
        sizes_masked s (stretch a 0 i) (stretch m 0 i),
        length_masked s (stretch a 0 i) (stretch m 0 i) same,
      )

  -- the tests of one bit more, by whether it has one
  lows_next : {c : Bool} → get_or m i false ≡ c → lows s a m i ++ cond c [] (leaf (Test (s + i) (get_or a i false)) ∷ []) ≡ lows s a m (i + 1)
  lows_next e =
      ap (λ c. lows s a m i ++ cond c [] (leaf (Test (s + i) (get_or a i false)) ∷ [])) (sym e) ∙ sym (lows_more s a m i) ∙ ap (lows s a m) (sym (add-one i))

  pub masked_skip : get_or m i false ≡ true → xs ≡ sets l at (linked Intersect (lows s a m (i + 1)))
  masked_skip e = sofar ∙ ap (λ (cs : List Core). sets l at (linked Intersect cs)) (sym (append-nil (lows s a m i)) ∙ lows_next e)

  pub masked_link : get_or m i false ≡ false → {b : Bool} → b ≡ get_or a i false
      → sets xs to (8 ∷ 0 ∷ 0 ∷ 6 ∷ (s + i) ∷ bit b ∷ []) ≡ sets l at (linked Intersect (lows s a m (i + 1)))
  masked_link e next =
      (λ j. sets (sofar j) to (8 ∷ 0 ∷ 0 ∷ 6 ∷ (s + i) ∷ bit (next j) ∷ []))
      ∙ link_more Intersect (lows s a m i) (leaf (Test (s + i) (get_or a i false))) l at end
      ∙ ap (λ (cs : List Core). sets l at (linked Intersect cs)) (lows_next e)

  pub masked_last : (w : ℕ) → trim m w ≡ suc i → {b : Bool} → b ≡ get_or a i false
      → sets xs to (6 ∷ (s + i) ∷ bit b ∷ []) ≡ sets l at (words (chain Intersect One (lows s a m w)))
  masked_last w h {b} next =
      let test : Core = leaf (Test (s + i) (get_or a i false)) in
      let all : lows s a m i ++ test ∷ [] ≡ lows s a m w =
      ap (λ c. lows s a m i ++ cond c [] (test ∷ [])) (sym (trim_last m w i h))
      ∙ sym (lows_more s a m i)
      ∙ ap (lows s a m) (sym h)
      ∙ sym (lows_trim s a m w) in
      (λ j. sets (sofar j) to (6 ∷ (s + i) ∷ bit (next j) ∷ []))
      ∙ link_last Intersect (lows s a m i) test l at end One
      ∙ ap (λ (cs : List Core). sets l at (words (chain Intersect One cs))) all

pub masked_none : (s : ℕ) (a m : Bits) (w : ℕ) → trim m w ≡ 0 → lows s a m w ≡ []
masked_none s a m w h = lows_trim s a m w ∙ ap (lows s a m) h
