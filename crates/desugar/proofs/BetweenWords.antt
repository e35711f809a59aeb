-- The records of a range of values, and how many they are.
use mathlib.Core.Path.{◌∙◌, ◌≡◌, ap, refl, sym}
use mathlib.Core.Bool.{Bool, false, true}
use mathlib.Core.List.{List, [], ◌∷◌}
use Prim.Native.Nat.{◌*◌, ◌+◌, ◌^◌, ◌≤◌, ℕ}
use native.Mathlib.Omega.{arith}
use lib.Dec.{eqb}
use lib.ListN.{length, length-take}
use lib.Seq.{sets}
use Rattle.literals.proofs.Bits.{value_of_pad}
use Rattle.literals.specs.Bits.{Bits, unpack, value_of}
use Rattle.literals.specs.Results.{literal_bits}
use Rattle.literals.specs.declared.BitSlice.{BitSlice}
use Rattle.expr.specs.Terms.{Core, Intersect, Test, size, two}
use Rattle.desugar.specs.Costs.{between_case_size, between_size}
use Rattle.desugar.specs.LeafWords.{Stands, stretch}
use Rattle.desugar.specs.declared.between.Values.{Values}
use Rattle.desugar.specs.declared.standing.Standing.{Standing}
use Rattle.desugar.specs.Leaves.{between, between_case}
use Rattle.desugar.specs.Memory.{words}
use Rattle.desugar.proofs.BoundWords.{size_bound}
use Rattle.desugar.proofs.Chains.{length_stretch, size_each_bit, stretch_pad}
use Rattle.desugar.proofs.Regions.{length_words, sets_append}
use Rattle.desugar.proofs.StandingBits.{size_by_counts}

-- ## How many they are

size_case : (x low high : Bool) (s : ℕ) (a b : Bits) → size (between_case x low high s a b) ≡ between_case_size x low high a b
size_case true low high s a b = size_each_bit Test Intersect s a
size_case false true true s a b = refl
size_case false true false s a b = size_bound true s b
size_case false false true s a b = size_bound false s a
size_case false false false s a b = omega (arith, size_bound false s a, size_bound true s b)

pub size_between : (s : ℕ) (a b : Bits) → size (between s a b) ≡ between_size a b
size_between s a b = size_case (eqb (value_of a) (value_of b)) (eqb (value_of a) 0) (eqb (value_of b + 1) (2 ^ length b)) s a b

-- ## Which case it is

-- padding leaves the values as they are
value_of_stretch : (l : BitSlice) {w : ℕ} → l.len ≤ w → value_of (stretch (literal_bits l) 0 w) ≡ value_of (literal_bits l)
value_of_stretch l {w} h =
    let short : length (literal_bits l) ≤ w = omega (arith, length-take l.len (unpack l.bytes.now)) in
    ap value_of (stretch_pad (literal_bits l) w short) ∙ value_of_pad w (literal_bits l)

-- the values from one literal to another
module _ (v : Values) {x : Bool} (same : x ≡ eqb (value_of (literal_bits v.low)) (value_of (literal_bits v.high))) where
  abbrev lower : Bits
  lower = stretch (literal_bits v.low) 0 v.width

  abbrev upper : Bits
  upper = stretch (literal_bits v.high) 0 v.width

  values_same : x ≡ eqb (value_of lower) (value_of upper)
  values_same = same ∙ (λ i. eqb (sym (value_of_stretch v.low v.low_fits) i) (sym (value_of_stretch v.high v.high_fits) i))

  -- the size by whether the bounds are equal
  pub between_size_by : between_case_size x (eqb (value_of lower) 0) (eqb (value_of upper + 1) (2 ^ length upper)) lower upper ≡ between_size lower upper
  between_size_by = λ i. between_case_size (values_same i) (eqb (value_of lower) 0) (eqb (value_of upper + 1) (2 ^ length upper)) lower upper

  -- the size by the counts of the bits that stand, where the bounds differ
  pub counted_size : x ≡ false → {s t : Standing} → Stands lower s → Stands upper t → {y z : Bool} → eqb s.count 0 ≡ y → eqb t.count v.width ≡ z
      → between_case_size false y z lower upper ≡ between_size lower upper
  counted_size differ {s} {t} h k {y} {z} none all =
      size_by_counts lower upper v.width h (length_stretch (literal_bits v.high) 0 v.width) k none all
      ∙ (λ i. between_case_size (sym differ i) (eqb (value_of lower) 0) (eqb (value_of upper + 1) (2 ^ length upper)) lower upper)
      ∙ between_size_by

  module _ {y z : Bool} (none : y ≡ eqb (value_of (literal_bits v.low)) 0) (top : z ≡ eqb (value_of (literal_bits v.high) + 1) (2 ^ v.width)) where
    value_zero : y ≡ eqb (value_of lower) 0
    value_zero = none ∙ ap (λ n. eqb n 0) (sym (value_of_stretch v.low v.low_fits))

    value_top : z ≡ eqb (value_of upper + 1) (2 ^ length upper)
    value_top = top ∙ (λ i. eqb (sym (value_of_stretch v.high v.high_fits) i + 1) (2 ^ sym (length_stretch (literal_bits v.high) 0 v.width) i))

    pub between_is : (s : ℕ) → between_case x y z s lower upper ≡ between s lower upper
    between_is s = λ i. between_case (values_same i) (value_zero i) (value_top i) s lower upper

    pub between_size_is : between_case_size x y z lower upper ≡ between_size lower upper
    between_size_is = λ i. between_case_size (values_same i) (value_zero i) (value_top i) lower upper

-- ## Both bounds, one behind the other

pub both_words : (c d : Core) (l : List ℕ) (at : ℕ) {to : ℕ} → to ≡ at + 3 + 3 * size c → {x y z : List ℕ}
    → x ≡ sets l at (8 ∷ 0 ∷ 0 ∷ []) → y ≡ sets x (at + 3) (words c) → z ≡ sets y to (words d)
    → z ≡ sets l at (words (two Intersect c d))
both_words c d l at {to} e {x} {y} {z} f g h =
    let first : y ≡ sets l at (8 ∷ 0 ∷ 0 ∷ words c) = g ∙ ap (λ (k : List ℕ). sets k (at + 3) (words c)) f ∙ sets_append l at (8 ∷ 0 ∷ 0 ∷ []) (words c) in
    let place : to ≡ at + length (8 ∷ 0 ∷ 0 ∷ words c) = omega (arith, length_words c) in
    h ∙ (λ i. sets (first i) (place i) (words d)) ∙ sets_append l at (8 ∷ 0 ∷ 0 ∷ words c) (words d)
