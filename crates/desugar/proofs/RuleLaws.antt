-- The rules on a use of a range: where each is broken, where all are kept, and what follows then.
use mathlib.Core.Path.{◌≡◌, refl, sym, ap, ◌∙◌}
use mathlib.Core.Bool.{Bool, true, false, cond, not, ◌&&◌, false≢true}
use Rattle.std.specs.Bool.{◌==◌}
use Rattle.std.specs.Ordering.{ordering_index}
use Prim.Native.Nat.{ℕ, ◌-◌, ◌≤◌, ◌<◌}
use native.Mathlib.Omega.{arith}
use borrow.Author.Tests.{ltb-true, ltb-false, leb-true, eqb-true, eqb-false, le-leb, lt-leb, eq-eqb, ne_eqb}
use lib.Dec.{leb, ltb, eqb}
use lib.ListN.{length}
use Rattle.literals.proofs.Logic.{and_left, and_right}
use Rattle.literals.specs.Bits.{Bits, value_of}
use Rattle.literals.specs.Patterns.{Cidr, Exact, IpRange, Wildcard}
use Rattle.literals.specs.Comparing.{order_of}
use Rattle.std.specs.declared.cmp.Ordering.{Ordering}
use Rattle.std.specs.declared.cmp.Ordering.TheVariants.{Less, Equal, Greater}
use Rattle.expr.specs.Answers.{Answer, and_then, need, ok, refuse}
use Rattle.expr.specs.Terms.{Alias, Direct, Use, Where}
use Rattle.desugar.specs.Rules.{literal_rule, pattern_rule, range_rule, use_rule}
use Rattle.desugar.specs.RangedWords.{is_direct}

-- ## A literal

pub direct_broken : (w : Where) (a : Bits) (n at : ℕ) → is_direct w ≡ true → (length a ≡ n → ⊥) → refuse 16 at ≡ literal_rule w a n at
direct_broken (Direct s e) a n at d h = rw (ne_eqb (length a) n h) refl
direct_broken (Alias x) a n at d h = absurd (false≢true d)

pub direct_kept : (w : Where) (a : Bits) (n at : ℕ) → is_direct w ≡ true → length a ≡ n → ok tt ≡ literal_rule w a n at
direct_kept (Direct s e) a n at d h = rw (eq-eqb (length a) n h) refl
direct_kept (Alias x) a n at d h = absurd (false≢true d)

pub alias_broken : (w : Where) (a : Bits) (n at : ℕ) → is_direct w ≡ false → n < length a → refuse 15 at ≡ literal_rule w a n at
alias_broken (Direct s e) a n at d h = absurd (false≢true (sym d))
alias_broken (Alias x) a n at d h = rw (lt-leb (length a) n h) refl

pub alias_kept : (w : Where) (a : Bits) (n at : ℕ) → is_direct w ≡ false → length a ≤ n → ok tt ≡ literal_rule w a n at
alias_kept (Direct s e) a n at d h = absurd (false≢true (sym d))
alias_kept (Alias x) a n at d h = rw (le-leb (length a) n h) refl

-- ## A pattern

module _ (a : Bits) (k n at : ℕ) where
  pub prefix_broken : n < k → refuse 17 at ≡ pattern_rule (Cidr a k) n at
  prefix_broken h = rw (lt-leb k n h) refl

  pub address_broken : k ≤ n → (length a ≡ n → ⊥) → refuse 18 at ≡ pattern_rule (Cidr a k) n at
  address_broken h l = rw (le-leb k n h, ne_eqb (length a) n l) refl

  pub cidr_holds : k ≤ n → length a ≡ n → ok tt ≡ pattern_rule (Cidr a k) n at
  cidr_holds h l = rw (le-leb k n h, eq-eqb (length a) n l) refl

module _ (a m : Bits) (n at : ℕ) where
  pub wildcard_address : (length a ≡ n → ⊥) → refuse 19 at ≡ pattern_rule (Wildcard a m) n at
  wildcard_address h = rw (ne_eqb (length a) n h) refl

  pub wildcard_mask : length a ≡ n → (length m ≡ n → ⊥) → refuse 19 at ≡ pattern_rule (Wildcard a m) n at
  wildcard_mask h k = rw (eq-eqb (length a) n h, ne_eqb (length m) n k) refl

  pub wildcard_holds : length a ≡ n → length m ≡ n → ok tt ≡ pattern_rule (Wildcard a m) n at
  wildcard_holds h k = rw (eq-eqb (length a) n h, eq-eqb (length m) n k) refl

abbrev pub not_above_fact : Ordering → Bool
not_above_fact Less = true
not_above_fact Equal = true
not_above_fact Greater = false

-- whether it is Greater
not_greater : (o : Ordering) (b : Bool) → b ≡ (ordering_index o == 2) → not_above_fact o ≡ not b
not_greater Less b e = ap not (sym e)
not_greater Equal b e = ap not (sym e)
not_greater Greater b e = ap not (sym e)

order_leb : (x y : ℕ) → not_above_fact (order_of x y) ≡ leb x y
order_leb x y = go (ltb x y) refl (eqb x y) refl
  where
    go : (p : Bool) → ltb x y ≡ p → (q : Bool) → eqb x y ≡ q → not_above_fact (cond p Less (cond q Equal Greater)) ≡ leb x y
    go true e q f = sym (le-leb x y (omega (arith, ltb-true x y e)))
    go false e true f = sym (le-leb x y (omega (arith, eqb-true x y f)))
    go false e false f = sym (lt-leb x y (omega (arith, ltb-false x y e, eqb-false x y f)))

module _ (a b : Bits) (n at : ℕ) where
  pub values_wide : 128 < n → refuse 20 at ≡ pattern_rule (IpRange a b) n at
  values_wide h = rw (lt-leb n 128 h) refl

  pub values_low : n ≤ 128 → n < length a → refuse 20 at ≡ pattern_rule (IpRange a b) n at
  values_low h k = rw (le-leb n 128 h, lt-leb (length a) n k) refl

  pub values_high : n ≤ 128 → length a ≤ n → n < length b → refuse 20 at ≡ pattern_rule (IpRange a b) n at
  values_high h k l = rw (le-leb n 128 h, le-leb (length a) n k, lt-leb (length b) n l) refl

  -- o is Greater or not
  pub values_judged : n ≤ 128 → length a ≤ n → length b ≤ n → (o : Ordering) → o ≡ order_of (value_of a) (value_of b) → {x : Bool} → x ≡ (ordering_index o == 2)
      → need (not x) 21 at ≡ pattern_rule (IpRange a b) n at
  values_judged h k l o e {x} g =
      ap (λ z. need z 21 at) (sym (not_greater o x g))
      ∙ ap (λ (z : Ordering). need (not_above_fact z) 21 at) e
      ∙ ap (λ z. need z 21 at) (order_leb (value_of a) (value_of b))
      ∙ rw (le-leb n 128 h, le-leb (length a) n k, le-leb (length b) n l) refl

-- ## A range

pub range_broken : (w : Where) (u : Use) (s e at : ℕ) → e < s → refuse 14 at ≡ range_rule w u (s, e) at
range_broken w u s e at h = rw (lt-leb s e h) refl

pub range_judged : (w : Where) (u : Use) (s e n at : ℕ) → s ≤ e → n ≡ e - s → use_rule w u n at ≡ range_rule w u (s, e) at
range_judged w u s e n at h k = ap (λ m. use_rule w u m at) k ∙ rw (le-leb s e h) refl

-- ## What follows where no rule is broken

abbrev is_ok : {A : Type 0} → Answer A → Bool
is_ok (ok a) = true
is_ok (refuse r at) = false

needed : (b : Bool) (r at : ℕ) → need b r at ≡ ok tt → b ≡ true
needed true r at h = refl
needed false r at h = ap is_ok h

-- a rule, and those behind it
both : (b : Bool) (r at : ℕ) (x : Answer (Unit {0})) → and_then (need b r at) (λ _. x) ≡ ok tt → (b ≡ true) × (x ≡ ok tt)
both true r at x h = (refl, h)
both false r at x h = absurd (false≢true (ap is_ok h))

pub literal_kept : (w : Where) (a : Bits) (n : ℕ) → literal_rule w a n 0 ≡ ok tt → length a ≤ n
literal_kept (Direct s e) a n h = let k : length a ≡ n = eqb-true (length a) n (needed (eqb (length a) n) 16 0 h) in omega arith
literal_kept (Alias x) a n h = leb-true (length a) n (needed (leb (length a) n) 15 0 h)

pub exact_kept : (a : Bits) (n : ℕ) → pattern_rule (Exact a) n 0 ≡ ok tt → length a ≤ n
exact_kept a n h = leb-true (length a) n (needed (leb (length a) n) 15 0 h)

pub cidr_kept : (a : Bits) (k n : ℕ) → pattern_rule (Cidr a k) n 0 ≡ ok tt → (k ≤ n) × (length a ≡ n)
cidr_kept a k n h =
    let r = both (leb k n) 17 0 (need (eqb (length a) n) 18 0) h in
    (leb-true k n r.0, eqb-true (length a) n (needed (eqb (length a) n) 18 0 r.1))

pub wildcard_kept : (a m : Bits) (n : ℕ) → pattern_rule (Wildcard a m) n 0 ≡ ok tt → (length a ≡ n) × (length m ≡ n)
wildcard_kept a m n h =
    let r = needed (eqb (length a) n && eqb (length m) n) 19 0 h in (
      eqb-true (length a) n (and_left (eqb (length a) n) (eqb (length m) n) r),
      eqb-true (length m) n (and_right (eqb (length a) n) (eqb (length m) n) r),
    )

pub values_kept : (a b : Bits) (n : ℕ) → pattern_rule (IpRange a b) n 0 ≡ ok tt → (n ≤ 128) × (length a ≤ n) × (length b ≤ n)
values_kept a b n h =
    let r = (both (leb n 128 && leb (length a) n && leb (length b) n) 20 0 (need (leb (value_of a) (value_of b)) 21 0) h).0 in
    let l = and_left (leb n 128 && leb (length a) n) (leb (length b) n) r in (
      leb-true n 128 (and_left (leb n 128) (leb (length a) n) l),
      leb-true (length a) n (and_right (leb n 128) (leb (length a) n) l),
      leb-true (length b) n (and_right (leb n 128 && leb (length a) n) (leb (length b) n) r),
    )

pub range_kept : (w : Where) (u : Use) (s e : ℕ) → range_rule w u (s, e) 0 ≡ ok tt → (s ≤ e) × (use_rule w u (e - s) 0 ≡ ok tt)
range_kept w u s e kept =
    let r = both (leb s e) 14 0 (use_rule w u (e - s) 0) kept in
    (leb-true s e r.0, r.1)
