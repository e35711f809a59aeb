-- What the chains of assignments do to a packet.
use mathlib.Core.Path.{◌≡◌, refl, sym, ap, ◌∙◌, fun_ext}
use mathlib.Core.Logic.{◌↔◌}
use mathlib.Core.Bool.{Bool}
use mathlib.Core.List.{[], ◌∷◌}
use Prim.Native.Nat.{ℕ, suc, ◌+◌, ◌-◌, ◌≤◌, ◌<◌}
use native.Mathlib.Decide.{dec_lt, ℕ_discrete}
use native.Mathlib.Omega.{arith}
use lib.Dec.{leb, eqb}
use lib.ListN.{length}
use Rattle.literals.specs.Bits.{Bits, bit_at, pad, value_of}
use Rattle.literals.proofs.Bits.{bit_at_value, length_pad, value_of_pad}
use Rattle.literals.proofs.Logic.{eqb_is, false_of, leb_is}
use Rattle.desugar.specs.Leaves.{assign_chain}
use Rattle.desugar.specs.Packets.{Others, Packet, core_means, with_field, with_range}

-- p with each field from s given its bit in turn
abbrev in_turn : Packet → ℕ → Bits → Packet
in_turn p s [] = p
in_turn p s (b ∷ a) = in_turn (with_field p s b) (suc s) a

eq_swap : {A : Type 0} {x y : A} → (x ≡ y) ↔ (y ≡ x)
eq_swap = ((λ e. sym e), (λ e. sym e))

assign_chain_turns : (others : Others) (s : ℕ) (a : Bits) (p q : Packet) → core_means others (assign_chain s a) p q ↔ (q ≡ in_turn p s a)
assign_chain_turns others s [] p q = eq_swap
assign_chain_turns others s (b ∷ []) p q = ((λ e. e), (λ e. e))
assign_chain_turns others s (b ∷ (c ∷ a)) p q = (
  (λ h. (assign_chain_turns others (suc s) (c ∷ a) h.0 q).0 h.2 ∙ ap (λ r. in_turn r (suc s) (c ∷ a)) h.1),
  (λ e. (with_field p s b, refl, (assign_chain_turns others (suc s) (c ∷ a) (with_field p s b) q).1 e)),
)

-- ## A field of a packet with a range set

pub inside : (p : Packet) (s n v g : ℕ) → s ≤ g → g < s + n → with_range p s n v g ≡ bit_at (g - s) v
inside p s n v g h k = rw ((leb_is s g).1 h, (leb_is (suc g) (s + n)).1 k)

pub before : (p : Packet) (s n v g : ℕ) → g < s → with_range p s n v g ≡ p g
before p s n v g h = rw (false_of (leb s g) (λ e. absurd (omega (arith, (leb_is s g).0 e))))

pub behind : (p : Packet) (s n v g : ℕ) → s + n ≤ g → with_range p s n v g ≡ p g
behind p s n v g h =
    let e : s ≤ g = omega arith in
    rw ((leb_is s g).1 e, false_of (leb (suc g) (s + n)) (λ e. absurd (omega (arith, (leb_is (suc g) (s + n)).0 e))))

set_field : (p : Packet) (s : ℕ) (b : Bool) → with_field p s b s ≡ b
set_field p s b = rw ((eqb_is s s).1 refl)

kept : (p : Packet) (s : ℕ) (b : Bool) (g : ℕ) → ¬ (g ≡ s) → with_field p s b g ≡ p g
kept p s b g n = rw (false_of (eqb g s) (λ e. n ((eqb_is g s).0 e)))

-- ## Bit by bit is the whole range

in_turn_is : (a : Bits) (p : Packet) (s g : ℕ) → in_turn p s a g ≡ with_range p s (length a) (value_of a) g
in_turn_is [] p s g = sym (go (dec_lt g s))
  where
    go : Dec (g < s) → with_range p s 0 0 g ≡ p g
    go (yes h) = before p s 0 0 g h
    go (no h) = behind p s 0 0 g (omega arith)
in_turn_is (b ∷ a) p s g = in_turn_is a (with_field p s b) (suc s) g ∙ go (dec_lt g s) (ℕ_discrete g s) (dec_lt g (s + suc (length a)))
  where
    v : ℕ
    v = value_of (b ∷ a)

    go : Dec (g < s) → Dec (g ≡ s) → Dec (g < s + suc (length a))
        → with_range (with_field p s b) (suc s) (length a) (value_of a) g ≡ with_range p s (suc (length a)) v g
    go (yes h) d e =
        before (with_field p s b) (suc s) (length a) (value_of a) g (omega arith) ∙ kept p s b g (λ z. absurd (omega arith))
        ∙ sym (before p s (suc (length a)) v g h)
    go (no h) (yes z) e =
        let first : g - s ≡ 0 = omega arith in
        before (with_field p s b) (suc s) (length a) (value_of a) g (omega arith)
        ∙ ap (with_field p s b) z ∙ set_field p s b
        ∙ sym (inside p s (suc (length a)) v g (omega arith) (omega arith) ∙ ap (λ i. bit_at i v) first ∙ bit_at_value 0 (b ∷ a))
    go (no h) (no z) (yes k) =
        let next : g - s ≡ suc (g - suc s) = omega arith in
        inside (with_field p s b) (suc s) (length a) (value_of a) g (omega arith) (omega arith) ∙ bit_at_value (g - suc s) a
        ∙ sym (inside p s (suc (length a)) v g (omega arith) k ∙ ap (λ i. bit_at i v) next ∙ bit_at_value (suc (g - suc s)) (b ∷ a))
    go (no h) (no z) (no k) =
        behind (with_field p s b) (suc s) (length a) (value_of a) g (omega arith) ∙ kept p s b g z
        ∙ sym (behind p s (suc (length a)) v g (omega arith))

-- the assignments of a literal, made n bits wide, set the range to the literal's value and leave every other field
pub assign_is : (others : Others) (s n : ℕ) (a : Bits) (p q : Packet) → length a ≤ n
    → core_means others (assign_chain s (pad n a)) p q ↔ (q ≡ with_range p s n (value_of a))
assign_is others s n a p q h =
    let l : length (pad n a) ≡ n = length_pad n a h in
    let e : in_turn p s (pad n a) ≡ with_range p s n (value_of a) =
    fun_ext (λ g. in_turn_is (pad n a) p s g ∙ rw (l, value_of_pad n a) refl) in
    let t : core_means others (assign_chain s (pad n a)) p q ↔ (q ≡ in_turn p s (pad n a)) = assign_chain_turns others s (pad n a) p q in
    ((λ m. t.0 m ∙ e), (λ k. t.1 (k ∙ sym e)))
