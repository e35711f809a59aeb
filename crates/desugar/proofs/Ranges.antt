-- Which packets pass the chains of tests: all the bits of a range, its highest bits, and the bits that a mask leaves.
use mathlib.Core.Path.{◌≡◌, refl, sym, ap, ap₂, ◌∙◌}
use mathlib.Core.Logic.Iff
use mathlib.Core.Logic.{◌↔◌}
use mathlib.Core.Bool.{Bool, true, false, ◌&&◌, ◌||◌, beq, true≢false, and-true, or-false, and_assoc, or_assoc, and_comm}
use mathlib.Core.List.{List, [], ◌∷◌, ◌++◌, head-eq_of_cons-eq, tail-eq_of_cons-eq}
use Prim.Native.Nat.{ℕ, zero, suc, ◌+◌, ◌-◌, ◌≤◌, ◌<◌}
use native.Mathlib.Nat.{add-zero}
use native.Mathlib.Omega.{arith}
use lib.ListN.{length, drop, get_or, length-drop}
use lib.Seq.{ext_get_or, get_or-drop}
use Rattle.literals.specs.Bits.{Bits, bit_at, value_of}
use Rattle.literals.proofs.Bits.{bit_at_value, value_of_injective}
use Rattle.literals.proofs.Logic.{and_both, and_left, and_right, beq_is}
use Rattle.expr.specs.Terms.{Core, Intersect, One, Test, Union, Zero, leaf}
use Rattle.desugar.specs.Leaves.{chain, each_bit, high_first, masked_tests, test_chain}
use Rattle.desugar.specs.Packets.{Packet, field_bits, field_value}
use Rattle.desugar.proofs.Tests.{passes}

-- ## Chains

abbrev pub all_pass : List Core → Packet → Bool
all_pass [] p = true
all_pass (c ∷ cs) p = passes c p && all_pass cs p

abbrev pub any_pass : List Core → Packet → Bool
any_pass [] p = false
any_pass (c ∷ cs) p = passes c p || any_pass cs p

pub chain_all : (cs : List Core) (p : Packet) → passes (chain Intersect One cs) p ≡ all_pass cs p
chain_all [] p = refl
chain_all (c ∷ []) p = sym (and-true (passes c p))
chain_all (c ∷ (d ∷ cs)) p = ap (λ x. passes c p && x) (chain_all (d ∷ cs) p)

pub chain_any : (cs : List Core) (p : Packet) → passes (chain Union Zero cs) p ≡ any_pass cs p
chain_any [] p = refl
chain_any (c ∷ []) p = sym (or-false (passes c p))
chain_any (c ∷ (d ∷ cs)) p = ap (λ x. passes c p || x) (chain_any (d ∷ cs) p)

pub all_append : (cs ds : List Core) (p : Packet) → all_pass (cs ++ ds) p ≡ (all_pass cs p && all_pass ds p)
all_append [] ds p = refl
all_append (c ∷ cs) ds p = ap (λ x. passes c p && x) (all_append cs ds p) ∙ sym (and_assoc (passes c p) (all_pass cs p) (all_pass ds p))

pub any_append : (cs ds : List Core) (p : Packet) → any_pass (cs ++ ds) p ≡ (any_pass cs p || any_pass ds p)
any_append [] ds p = refl
any_append (c ∷ cs) ds p = ap (λ x. passes c p || x) (any_append cs ds p) ∙ sym (or_assoc (passes c p) (any_pass cs p) (any_pass ds p))

-- the fields from s have the bits of a
abbrev pub agrees : ℕ → Bits → Packet → Bool
agrees s [] p = true
agrees s (b ∷ a) p = beq (p s) b && agrees (suc s) a p

pub all_each : (s : ℕ) (a : Bits) (p : Packet) → all_pass (each_bit Test s a) p ≡ agrees s a p
all_each s [] p = refl
all_each s (b ∷ a) p = ap (λ x. beq (p s) b && x) (all_each (suc s) a p)

pub all_high_first : (s : ℕ) (a : Bits) (p : Packet) → all_pass (high_first s a) p ≡ agrees s a p
all_high_first s [] p = refl
all_high_first s (b ∷ a) p =
    all_append (high_first (suc s) a) (leaf (Test s b) ∷ []) p
    ∙ ap₂ ◌&&◌ (all_high_first (suc s) a p) (and-true (beq (p s) b))
    ∙ and_comm (agrees (suc s) a p) (beq (p s) b)

pub agrees_is : (s : ℕ) (a : Bits) (p : Packet) → (agrees s a p ≡ true) ↔ (field_bits p s (length a) ≡ a)
agrees_is s [] p = ((λ e. refl), (λ e. refl))
agrees_is s (b ∷ a) p = (
  (λ e. ap₂ ◌∷◌ ((beq_is (p s) b).0 (and_left (beq (p s) b) _ e)) ((agrees_is (suc s) a p).0 (and_right (beq (p s) b) _ e))),
  (λ e. and_both ((beq_is (p s) b).1 (head-eq_of_cons-eq e)) ((agrees_is (suc s) a p).1 (tail-eq_of_cons-eq e))),
)

pub length_fields : (p : Packet) (s n : ℕ) → length (field_bits p s n) ≡ n
length_fields p s zero = refl
length_fields p s (suc n) = ap suc (length_fields p (suc s) n)

pub agrees_value : (s : ℕ) (a : Bits) (p : Packet) → (agrees s a p ≡ true) ↔ (field_value p s (length a) ≡ value_of a)
agrees_value s a p = (
  (λ e. ap value_of ((agrees_is s a p).0 e)),
  (λ e. (agrees_is s a p).1 (value_of_injective (field_bits p s (length a)) a (length_fields p s (length a)) e)),
)

-- ## Exact tests, prefixes and masks

pub along : {A B : Bool} {P : Type 0} → A ≡ B → (B ≡ true) ↔ P → (A ≡ true) ↔ P
along e h = ((λ k. h.0 (sym e ∙ k)), (λ k. e ∙ h.1 k))

pub test_chain_is : (s : ℕ) (a : Bits) (p : Packet) → (passes (test_chain s a) p ≡ true) ↔ (field_bits p s (length a) ≡ a)
test_chain_is s a p = along (chain_all (each_bit Test s a) p ∙ all_each s a p) (agrees_is s a p)

pub test_chain_value : (s : ℕ) (a : Bits) (p : Packet) → (passes (test_chain s a) p ≡ true) ↔ (field_value p s (length a) ≡ value_of a)
test_chain_value s a p = along (chain_all (each_bit Test s a) p ∙ all_each s a p) (agrees_value s a p)

-- field i of a range is bit i of its value
pub field_bit : (p : Packet) (n s i : ℕ) → i < n → bit_at i (field_value p s n) ≡ p (s + i)
field_bit p n s i h = bit_at_value i (field_bits p s n) ∙ go n s i h
  where
    go : (n s i : ℕ) → i < n → get_or (field_bits p s n) i false ≡ p (s + i)
    go zero s i h = absurd (omega arith)
    go (suc n) s zero h = ap p (sym (add-zero s))
    go (suc n) s (suc i) h = let e : suc s + i ≡ s + suc i = omega arith in go n (suc s) i (omega arith) ∙ ap p e

-- the bits of the fields from s on, each by itself
each_field : (s : ℕ) (a : Bits) (p : Packet) → (field_bits p s (length a) ≡ a) ↔ ((i : ℕ) → i < length a → p (s + i) ≡ get_or a i false)
each_field s a p = (
  (λ e i h. sym (field_bit p (length a) s i h) ∙ bit_at_value i (field_bits p s (length a)) ∙ ap (λ l. get_or l i false) e),
  (λ g. ext_get_or false (field_bits p s (length a)) a (length_fields p s (length a)) (λ i h.
      let k : i < length a = rw (length_fields p s (length a)) at h in
      sym (bit_at_value i (field_bits p s (length a))) ∙ field_bit p (length a) s i k ∙ g i k)),
)

-- a test of the highest bits of an address of n bits, from bit j on
pub prefix_is : (s n j : ℕ) (a : Bits) (p : Packet) → length a ≡ n
    → (passes (test_chain (s + j) (drop j a)) p ≡ true) ↔ ((i : ℕ) → j ≤ i → i < n → bit_at i (field_value p s n) ≡ get_or a i false)
prefix_is s n j a p h =
    let l : length (drop j a) ≡ n - j = length-drop j a ∙ ap (λ m. m - j) h in
    Iff.trans (test_chain_is (s + j) (drop j a) p) (Iff.trans (each_field (s + j) (drop j a) p) (
      (λ g i u v.
          let e : s + j + (i - j) ≡ s + i = omega arith in
          let f : j + (i - j) ≡ i = omega arith in
          field_bit p n s i v ∙ ap p (sym e) ∙ g (i - j) (omega arith) ∙ get_or-drop j a (i - j) false ∙ ap (λ m. get_or a m false) f),
      (λ g i u.
          let e : s + (j + i) ≡ s + j + i = omega arith in
          ap p (sym e) ∙ sym (field_bit p n s (j + i) (omega arith)) ∙ g (j + i) (omega arith) (omega arith) ∙ sym (get_or-drop j a i false)),
    ))

masked_to : (s : ℕ) (a m : Bits) (p : Packet) → length a ≡ length m → all_pass (masked_tests s a m) p ≡ true
    → (i : ℕ) → i < length a → get_or m i false ≡ false → p (s + i) ≡ get_or a i false
masked_to s [] m p l e i h k = absurd (omega arith)
masked_to s (b ∷ a) [] p l e i h k = absurd (omega arith)
masked_to s (b ∷ a) (true ∷ m) p l e zero h k = absurd (true≢false k)
masked_to s (b ∷ a) (true ∷ m) p l e (suc i) h k =
    let f : s + suc i ≡ suc s + i = omega arith in
    ap p f ∙ masked_to (suc s) a m p (omega arith) e i (omega arith) k
masked_to s (b ∷ a) (false ∷ m) p l e zero h k = ap p (add-zero s) ∙ (beq_is (p s) b).0 (and_left (beq (p s) b) _ e)
masked_to s (b ∷ a) (false ∷ m) p l e (suc i) h k =
    let f : s + suc i ≡ suc s + i = omega arith in
    ap p f ∙ masked_to (suc s) a m p (omega arith) (and_right (beq (p s) b) _ e) i (omega arith) k

masked_from : (s : ℕ) (a m : Bits) (p : Packet) → length a ≡ length m
    → ((i : ℕ) → i < length a → get_or m i false ≡ false → p (s + i) ≡ get_or a i false) → all_pass (masked_tests s a m) p ≡ true
masked_from s [] m p l g = refl
masked_from s (b ∷ a) [] p l g = refl
masked_from s (b ∷ a) (true ∷ m) p l g =
    masked_from (suc s) a m p (omega arith) (λ i h k. let f : suc s + i ≡ s + suc i = omega arith in ap p f ∙ g (suc i) (omega arith) k)
masked_from s (b ∷ a) (false ∷ m) p l g =
    and_both ((beq_is (p s) b).1 (ap p (sym (add-zero s)) ∙ g 0 (omega arith) refl))
    (masked_from (suc s) a m p (omega arith) (λ i h k. let f : suc s + i ≡ s + suc i = omega arith in ap p f ∙ g (suc i) (omega arith) k))

pub wildcard_is : (s n : ℕ) (a m : Bits) (p : Packet) → length a ≡ n → length m ≡ n
    → (passes (chain Intersect One (masked_tests s a m)) p ≡ true)
    ↔ ((i : ℕ) → i < n → get_or m i false ≡ false → bit_at i (field_value p s n) ≡ get_or a i false)
wildcard_is s n a m p h k =
    along (chain_all (masked_tests s a m) p) (
      (λ e i l z. field_bit p n s i l ∙ masked_to s a m p (h ∙ sym k) e i (omega arith) z),
      (λ g. masked_from s a m p (h ∙ sym k) (λ i l z. sym (field_bit p n s i (omega arith)) ∙ g i (omega arith) z)),
    )
