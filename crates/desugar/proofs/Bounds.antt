-- Which packets pass the bound terms of a range of values.
use mathlib.Core.Path.{◌≡◌, refl, sym, ap, ap₂, ◌∙◌}
use mathlib.Core.Logic.Iff
use mathlib.Core.Logic.{◌⊎◌, inl, inr, ◌↔◌}
use mathlib.Core.Bool.{Bool, true, false, cond, not, ◌&&◌, ◌||◌, beq, false≢true, true≢false, and-true, or-false}
use mathlib.Core.List.{List, [], ◌∷◌, ◌++◌}
use Prim.Native.Nat.{ℕ, suc, ◌+◌, ◌*◌, ◌^◌, ◌≤◌, ◌<◌}
use native.Mathlib.Decide.{dec_lt}
use native.Mathlib.Omega.{arith}
use lib.Dec.{eqb}
use lib.ListN.{length}
use Rattle.literals.specs.Bits.{Bits, bit, value_of}
use Rattle.literals.proofs.Bits.{value_below}
use Rattle.literals.proofs.Logic.{and_iff, beq_is, eqb_is, or_iff}
use Rattle.expr.specs.Terms.{Core, Intersect, One, Test, leaf}
use Rattle.desugar.specs.Leaves.{between, between_case, bound, chain, high_first, differences, test_chain}
use Rattle.desugar.specs.Packets.{Packet, field_bits, field_value}
use Rattle.desugar.proofs.Ranges.{agrees, agrees_value, all_append, all_high_first, along, any_append, any_pass, chain_all, chain_any, length_fields, test_chain_value}
use Rattle.desugar.proofs.Tests.{passes}

-- two numbers with a lowest bit each: by the upper parts, or by the lowest bits where the upper parts are equal
below_step : (lo hi : Bool) (x y : ℕ) → ((x < y) ⊎ ((lo ≡ false) × (hi ≡ true) × (x ≡ y))) ↔ (bit lo + 2 * x < bit hi + 2 * y)
below_step lo hi x y = (there lo hi, back lo hi)
  where
    there : (l h : Bool) → (x < y) ⊎ ((l ≡ false) × (h ≡ true) × (x ≡ y)) → bit l + 2 * x < bit h + 2 * y
    there true true (inl p) = omega arith
    there true false (inl p) = omega arith
    there false true (inl p) = omega arith
    there false false (inl p) = omega arith
    there true h (inr p) = absurd (true≢false p.0)
    there false true (inr p) = omega (arith, p.2)
    there false false (inr p) = absurd (false≢true p.1)

    back : (l h : Bool) → bit l + 2 * x < bit h + 2 * y → (x < y) ⊎ ((l ≡ false) × (h ≡ true) × (x ≡ y))
    back true true p = inl (omega arith)
    back true false p = inl (omega arith)
    back false false p = inl (omega arith)
    back false true p = near (dec_lt x y)
      where
        near : Dec (x < y) → (x < y) ⊎ ((false ≡ false) × (true ≡ true) × (x ≡ y))
        near (yes q) = inl q
        near (no q) = inr (refl, refl, omega arith)

-- where the fields part from the bound a at a bit that is d in a: all its higher bits agree
abbrev parts : Bool → ℕ → Bits → Packet → Bool
parts d s [] p = false
parts d s (b ∷ a) p = parts d (suc s) a p || (beq b d && (agrees (suc s) a p && beq (p s) (not d)))

any_cond : (x : Bool) (c : Core) (p : Packet) → any_pass (cond x (c ∷ []) []) p ≡ (x && passes c p)
any_cond true c p = or-false (passes c p)
any_cond false c p = refl

any_differences : (d : Bool) (s : ℕ) (a : Bits) (p : Packet) → any_pass (differences d s a) p ≡ parts d s a p
any_differences d s [] p = refl
any_differences d s (b ∷ a) p =
    let own : List Core = high_first (suc s) a ++ leaf (Test s (not d)) ∷ [] in
    let e : passes (chain Intersect One own) p ≡ (agrees (suc s) a p && beq (p s) (not d)) =
    chain_all own p ∙ all_append (high_first (suc s) a) (leaf (Test s (not d)) ∷ []) p
    ∙ ap₂ ◌&&◌ (all_high_first (suc s) a p) (and-true (beq (p s) (not d))) in
    any_append (differences d (suc s) a) (cond (beq b d) (chain Intersect One own ∷ []) []) p
    ∙ ap₂ ◌||◌ (any_differences d (suc s) a p) (any_cond (beq b d) (chain Intersect One own) p ∙ ap (λ x. beq b d && x) e)

passes_bound : (d : Bool) (s : ℕ) (a : Bits) (p : Packet) → passes (bound d s a) p ≡ (parts d s a p || agrees s a p)
passes_bound d s a p =
    let exact : Core = chain Intersect One (high_first s a) in
    chain_any (differences d s a ++ exact ∷ []) p
    ∙ any_append (differences d s a) (exact ∷ []) p
    ∙ ap₂ ◌||◌ (any_differences d s a p) (or-false (passes exact p) ∙ chain_all (high_first s a) p ∙ all_high_first s a p)

sum_iff : {P Q P' Q' : Type 0} → P ↔ P' → Q ↔ Q' → (P ⊎ Q) ↔ (P' ⊎ Q')
sum_iff {P} {Q} {P'} {Q'} f g = (there, back)
  where
    there : P ⊎ Q → P' ⊎ Q'
    there (inl x) = inl (f.0 x)
    there (inr x) = inr (g.0 x)

    back : P' ⊎ Q' → P ⊎ Q
    back (inl x) = inl (f.1 x)
    back (inr x) = inr (g.1 x)

parts_below : (s : ℕ) (a : Bits) (p : Packet) → (parts true s a p ≡ true) ↔ (field_value p s (length a) < value_of a)
parts_below s [] p = ((λ e. absurd (false≢true e)), (λ h. absurd (omega arith)))
parts_below s (b ∷ a) p =
    Iff.trans
    (or_iff (parts true (suc s) a p) _ (parts_below (suc s) a p)
    (and_iff (beq b true) _ (beq_is b true)
    (and_iff (agrees (suc s) a p) _ (agrees_value (suc s) a p) (beq_is (p s) false))))
    (Iff.trans
    (sum_iff ((λ h. h), (λ h. h)) ((λ h. (h.1.1, h.0, h.1.0)), (λ h. (h.1, (h.2, h.0)))))
    (below_step (p s) b (field_value p (suc s) (length a)) (value_of a)))

parts_above : (s : ℕ) (a : Bits) (p : Packet) → (parts false s a p ≡ true) ↔ (value_of a < field_value p s (length a))
parts_above s [] p = ((λ e. absurd (false≢true e)), (λ h. absurd (omega arith)))
parts_above s (b ∷ a) p =
    Iff.trans
    (or_iff (parts false (suc s) a p) _ (parts_above (suc s) a p)
    (and_iff (beq b false) _ (beq_is b false)
    (and_iff (agrees (suc s) a p) _ (agrees_value (suc s) a p) (beq_is (p s) true))))
    (Iff.trans
    (sum_iff ((λ h. h), (λ h. h)) ((λ h. (h.0, h.1.1, sym h.1.0)), (λ h. (h.0, (sym h.2, h.1)))))
    (below_step b (p s) (value_of a) (field_value p (suc s) (length a))))

le_split : (x y : ℕ) → ((x < y) ⊎ (x ≡ y)) ↔ (x ≤ y)
le_split x y = (there, λ h. near h (dec_lt x y))
  where
    there : (x < y) ⊎ (x ≡ y) → x ≤ y
    there (inl h) = omega arith
    there (inr h) = omega arith

    near : x ≤ y → Dec (x < y) → (x < y) ⊎ (x ≡ y)
    near h (yes q) = inl q
    near h (no q) = inr (omega arith)

eq_swap : {A : Type 0} {x y : A} → (x ≡ y) ↔ (y ≡ x)
eq_swap = ((λ e. sym e), (λ e. sym e))

pub at_most : (s : ℕ) (a : Bits) (p : Packet) → (passes (bound true s a) p ≡ true) ↔ (field_value p s (length a) ≤ value_of a)
at_most s a p =
    along (passes_bound true s a p)
    (Iff.trans (or_iff (parts true s a p) (agrees s a p) (parts_below s a p) (agrees_value s a p)) (le_split (field_value p s (length a)) (value_of a)))

pub at_least : (s : ℕ) (a : Bits) (p : Packet) → (passes (bound false s a) p ≡ true) ↔ (value_of a ≤ field_value p s (length a))
at_least s a p =
    along (passes_bound false s a p)
    (Iff.trans
    (or_iff (parts false s a p) (agrees s a p) (parts_above s a p) (Iff.trans (agrees_value s a p) eq_swap))
    (le_split (value_of a) (field_value p s (length a))))

-- a range of n fields has a value below 2 ^ n
pub field_below : (p : Packet) (s n : ℕ) → field_value p s n < 2 ^ n
field_below p s n = rw (length_fields p s n) at (value_below (field_bits p s n))

between_case_fact : (x low high : Bool) (s n : ℕ) (a b : Bits) (p : Packet) → length a ≡ n → length b ≡ n → value_of a ≤ value_of b
    → (x ≡ true) ↔ (value_of a ≡ value_of b) → (low ≡ true) ↔ (value_of a ≡ 0) → (high ≡ true) ↔ (value_of b + 1 ≡ 2 ^ n)
    → (passes (between_case x low high s a b) p ≡ true) ↔ ((value_of a ≤ field_value p s n) × (field_value p s n ≤ value_of b))
between_case_fact true low high s n a b p ha hb v ex el eh =
    let t : (passes (test_chain s a) p ≡ true) ↔ (field_value p s n ≡ value_of a) = rw ha at (test_chain_value s a p) in
    let same : value_of a ≡ value_of b = ex.0 refl in
    ((λ e. let h : field_value p s n ≡ value_of a = t.0 e in (omega arith, omega arith)), (λ h. t.1 (omega arith)))
between_case_fact false true true s n a b p ha hb v ex el eh =
    let l : value_of a ≡ 0 = el.0 refl in
    let h : value_of b + 1 ≡ 2 ^ n = eh.0 refl in
    let f : field_value p s n < 2 ^ n = field_below p s n in
    ((λ e. (omega arith, omega arith)), (λ e. refl))
between_case_fact false true false s n a b p ha hb v ex el eh =
    let l : value_of a ≡ 0 = el.0 refl in
    let t : (passes (bound true s b) p ≡ true) ↔ (field_value p s n ≤ value_of b) = rw hb at (at_most s b p) in
    ((λ e. (omega arith, t.0 e)), (λ h. t.1 h.1))
between_case_fact false false true s n a b p ha hb v ex el eh =
    let h : value_of b + 1 ≡ 2 ^ n = eh.0 refl in
    let f : field_value p s n < 2 ^ n = field_below p s n in
    let t : (passes (bound false s a) p ≡ true) ↔ (value_of a ≤ field_value p s n) = rw ha at (at_least s a p) in
    ((λ e. (t.0 e, omega arith)), (λ h. t.1 h.0))
between_case_fact false false false s n a b p ha hb v ex el eh =
    let t : (passes (bound false s a) p ≡ true) ↔ (value_of a ≤ field_value p s n) = rw ha at (at_least s a p) in
    let u : (passes (bound true s b) p ≡ true) ↔ (field_value p s n ≤ value_of b) = rw hb at (at_most s b p) in
    and_iff (passes (bound false s a) p) (passes (bound true s b) p) t u

pub between_is : (s n : ℕ) (a b : Bits) (p : Packet) → length a ≡ n → length b ≡ n → value_of a ≤ value_of b
    → (passes (between s a b) p ≡ true) ↔ ((value_of a ≤ field_value p s n) × (field_value p s n ≤ value_of b))
between_is s n a b p ha hb v =
    between_case_fact (eqb (value_of a) (value_of b)) (eqb (value_of a) 0) (eqb (value_of b + 1) (2 ^ length b)) s n a b p ha hb v
    (eqb_is (value_of a) (value_of b)) (eqb_is (value_of a) 0)
    ((λ e. (eqb_is (value_of b + 1) (2 ^ length b)).0 e ∙ ap (λ m. 2 ^ m) hb), (λ e. (eqb_is (value_of b + 1) (2 ^ length b)).1 (e ∙ ap (λ m. 2 ^ m) (sym hb))))
