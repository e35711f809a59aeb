-- Masks, one bit for each packet: a record is one bitwise step.
use mathlib.Core.Path.{◌≡◌, refl, sym, ap, ◌∙◌}
use mathlib.Core.Bool.{Bool, true, false, not, ◌&&◌, ◌||◌, beq, false≢true}
use mathlib.Core.List.{List, [], ◌∷◌, map}
use Prim.Native.Nat.{ℕ, ◌+◌, ◌*◌, ◌/◌, ◌%◌, ◌^◌, ◌≤◌, ◌<◌, min, max}
use native.Mathlib.Nat.{pow-succ'}
use native.Mathlib.Omega.{arith}
use lib.Bits.{bit_and, bit_or, bit_xor, differ, and_step, or_step, xor_step, and_zero_l}
use lib.Dec.{eqb}
use lib.ListN.{length, length-map}
use lib.Pow.{pow_mono}
use Rattle.literals.specs.Bits.{bit, value_of}
use Rattle.literals.proofs.Bits.{value_below}
use Rattle.literals.proofs.Logic.{and_left, and_right, eqb_is}
use Rattle.expr.specs.Terms.{Atom, Zero, One, Top, Dup, End, Assign, Test, Op1, Complement, Star, LtlNext, Op2, Union, Intersect, Xor, Difference, Sequence, LtlUntil, Core, leaf, one, two, atom_kind, op1_kind, op2_kind}
use Rattle.desugar.specs.CoreRecords.{atom_field, atom_value}
use Rattle.desugar.specs.Packets.{passes}
use Rattle.packets.specs.Running.{packet_of, passing}
use Rattle.packets.specs.Results.{field_mask, leaf_mask, combined, settles}

-- ## Bitwise, digit by digit

half : (x : Bool) (m : ℕ) → (bit x + 2 * m) / 2 ≡ m
half true m = omega arith
half false m = omega arith

odd : (x : Bool) (m : ℕ) → (bit x + 2 * m) % 2 ≡ bit x
odd true m = omega arith
odd false m = omega arith

-- an operation on numbers that is an operation on each of their bits
record Bitwise (op : ℕ → ℕ → ℕ) (f : Bool → Bool → Bool) : Type 0 where
  none : op 0 0 ≡ 0
  digit : (x y : Bool) (m n : ℕ) → op (bit x + 2 * m) (bit y + 2 * n) ≡ bit (f x y) + 2 * op m n

and_bits : Bitwise bit_and ◌&&◌
and_bits = record {
  none = refl;
  digit = λ x y m n. and_step (bit x + 2 * m) (bit y + 2 * n) ∙ (λ i. bit_and (half x m i) (half y n i) * 2 + min (odd x m i) (odd y n i)) ∙ last x y (bit_and m n);
}
  where
    last : (x y : Bool) (v : ℕ) → v * 2 + min (bit x) (bit y) ≡ bit (x && y) + 2 * v
    last true true v = omega arith
    last true false v = omega arith
    last false true v = omega arith
    last false false v = omega arith

or_bits : Bitwise bit_or ◌||◌
or_bits = record {
  none = refl;
  digit = λ x y m n. or_step (bit x + 2 * m) (bit y + 2 * n) ∙ (λ i. bit_or (half x m i) (half y n i) * 2 + max (odd x m i) (odd y n i)) ∙ last x y (bit_or m n);
}
  where
    last : (x y : Bool) (v : ℕ) → v * 2 + max (bit x) (bit y) ≡ bit (x || y) + 2 * v
    last true true v = omega arith
    last true false v = omega arith
    last false true v = omega arith
    last false false v = omega arith

xor_bits : Bitwise bit_xor (λ x y. not (beq x y))
xor_bits = record {
  none = refl;
  digit = λ x y m n. xor_step (bit x + 2 * m) (bit y + 2 * n) ∙ (λ i. bit_xor (half x m i) (half y n i) * 2 + differ (odd x m i) (odd y n i)) ∙ last x y (bit_xor m n);
}
  where
    last : (x y : Bool) (v : ℕ) → v * 2 + differ (bit x) (bit y) ≡ bit (not (beq x y)) + 2 * v
    last true true v = omega arith
    last true false v = omega arith
    last false true v = omega arith
    last false false v = omega arith

without_bits : Bitwise (λ a b. bit_xor a (bit_and a b)) (λ x y. x && not y)
without_bits = record {
  none = refl;
  digit = λ x y m n.
      ap (bit_xor (bit x + 2 * m)) (and_bits.digit x y m n) ∙ xor_bits.digit x (x && y) m (bit_and m n)
      ∙ ap (λ b. bit b + 2 * bit_xor m (bit_and m n)) (last x y);
}
  where
    last : (x y : Bool) → not (beq x (x && y)) ≡ (x && not y)
    last true true = refl
    last true false = refl
    last false y = refl

-- on the numbers that lists of bits spell
each_bit_fact : {A : Type 0} {op : ℕ → ℕ → ℕ} {f : Bool → Bool → Bool} → Bitwise op f → (u v : A → Bool) (ps : List A)
    → op (value_of (map u ps)) (value_of (map v ps)) ≡ value_of (map (λ p. f (u p) (v p)) ps)
each_bit_fact d u v [] = d.none
each_bit_fact {f = f} d u v (p ∷ ps) = d.digit (u p) (v p) (value_of (map u ps)) (value_of (map v ps)) ∙ ap (λ n. bit (f (u p) (v p)) + 2 * n) (each_bit_fact d u v ps)

-- ## The mask of a core

none_pass : {A : Type 0} (ps : List A) → value_of (map (λ p. false) ps) ≡ 0
none_pass [] = refl
none_pass (p ∷ ps) = omega (arith, none_pass ps)

-- of a record without operands
pub leaf_mask_fact : (a : Atom) (ps : List (List ℕ)) → leaf_mask (atom_kind a) (atom_field a) (atom_value a) ps ≡ passing (leaf a) ps
leaf_mask_fact Zero ps = sym (none_pass ps)
leaf_mask_fact One ps = refl
leaf_mask_fact Top ps = sym (none_pass ps)
leaf_mask_fact Dup ps = sym (none_pass ps)
leaf_mask_fact End ps = sym (none_pass ps)
leaf_mask_fact (Assign f v) ps = sym (none_pass ps)
leaf_mask_fact (Test f true) ps = same ps
  where
    beq_true : (x : Bool) → x ≡ beq x true
    beq_true true = refl
    beq_true false = refl

    same : (qs : List (List ℕ)) → field_mask f qs ≡ value_of (map (λ p. beq (packet_of p f) true) qs)
    same [] = refl
    same (q ∷ qs) = λ i. bit (beq_true (packet_of q f) i) + 2 * same qs i
leaf_mask_fact (Test f false) ps = each_bit_fact xor_bits (λ p. true) (λ p. packet_of p f) ps ∙ same ps
  where
    beq_false : (x : Bool) → not (beq true x) ≡ beq x false
    beq_false true = refl
    beq_false false = refl

    same : (qs : List (List ℕ)) → value_of (map (λ p. not (beq true (packet_of p f))) qs) ≡ value_of (map (λ p. beq (packet_of p f) false) qs)
    same [] = refl
    same (q ∷ qs) = λ i. bit (beq_false (packet_of q f) i) + 2 * same qs i

-- of an operator, by those of its operands
pub pair_mask : (o : Op2) (a b : Core) (ps : List (List ℕ)) → combined (op2_kind o) (passing a ps) (passing b ps) ≡ passing (two o a b) ps
pair_mask Union a b ps = each_bit_fact or_bits (λ p. passes a (packet_of p)) (λ p. passes b (packet_of p)) ps
pair_mask Intersect a b ps = each_bit_fact and_bits (λ p. passes a (packet_of p)) (λ p. passes b (packet_of p)) ps
pair_mask Xor a b ps = each_bit_fact xor_bits (λ p. passes a (packet_of p)) (λ p. passes b (packet_of p)) ps
pair_mask Difference a b ps = each_bit_fact without_bits (λ p. passes a (packet_of p)) (λ p. passes b (packet_of p)) ps
pair_mask Sequence a b ps = each_bit_fact and_bits (λ p. passes a (packet_of p)) (λ p. passes b (packet_of p)) ps
pair_mask LtlUntil a b ps = sym (none_pass ps)

-- no packet passes an operator of one operand: it is no test
pub one_mask : (o : Op1) (c : Core) (m : ℕ) (ps : List (List ℕ)) → combined (op1_kind o) 0 m ≡ passing (one o c) ps
one_mask Complement c m ps = sym (none_pass ps)
one_mask Star c m ps = sym (none_pass ps)
one_mask LtlNext c m ps = sym (none_pass ps)

-- an operator that its first operand settles
pub settled_mask : (o : Op2) (m b : ℕ) → settles (op2_kind o) m ≡ true → combined (op2_kind o) m b ≡ m
settled_mask o m b h = let z : m ≡ 0 = (eqb_is m 0).0 (and_left (eqb m 0) _ h) in ap (λ k. combined (op2_kind o) k b) z ∙ go o (and_right (eqb m 0) _ h) ∙ sym z
  where
    go : (p : Op2) → (eqb (op2_kind p) 8 || (eqb (op2_kind p) 10 || eqb (op2_kind p) 11)) ≡ true → combined (op2_kind p) 0 b ≡ 0
    go Union e = absurd (false≢true e)
    go Intersect e = and_zero_l b
    go Xor e = absurd (false≢true e)
    go Difference e = ap (bit_xor 0) (and_zero_l b)
    go Sequence e = and_zero_l b
    go LtlUntil e = absurd (false≢true e)

-- ## The bits of a mask

pub mask_below : {A : Type 0} (u : A → Bool) (ps : List A) (n : ℕ) → length ps ≤ n → value_of (map u ps) < 2 ^ n
mask_below u ps n h = omega (arith, value_below (map u ps), ap (λ k. 2 ^ k) (length-map ps u), pow_mono h)

pub all_ones : {A : Type 0} (ps : List A) → value_of (map (λ p. true) ps) + 1 ≡ 2 ^ length ps
all_ones [] = refl
all_ones (p ∷ ps) = rw (pow-succ' 2 (length ps)) (omega (arith, all_ones ps))
