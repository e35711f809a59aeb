-- Each form of a range's use holds of, or sets, exactly the values that document 01 says: of packets, and of values.
use mathlib.Core.Path.{◌≡◌, refl, sym, ap, subst, ◌∙◌, fun_ext}
use mathlib.Core.Logic.Iff
use mathlib.Core.Logic.{inl, inr, ◌↔◌}
use mathlib.Core.Bool.{true, false}
use mathlib.Core.Option.{some}
use Prim.Native.Nat.{ℕ, ◌+◌, ◌-◌, ◌^◌, ◌≤◌, ◌<◌}
use native.Mathlib.Nat.{lt_of_lt_of_le, pow-le-pow_right}
use native.Mathlib.Omega.{arith}
use native.Mathlib.Decide.{dec_lt}
use lib.ListN.{length}
use lib.Seq.{ext_get_or}
use Rattle.literals.specs.Bits.{Bits, bit_at, bits_of, pad, value_of}
use Rattle.literals.specs.Patterns.{Cidr, Exact, HoldsOf, IpRange, Pattern, Wildcard}
use Rattle.literals.proofs.Bits.{bit_at_bits, bit_at_value, length_bits, length_pad, value_below, value_of_bits, value_of_pad}
use Rattle.expr.specs.Answers.{ok}
use Rattle.expr.specs.Terms.{Assigns, Core, Matches, Tests, Use, Where}
use Rattle.desugar.specs.Claims.{Outside, Sets, TestsFor}
use Rattle.desugar.specs.Leaves.{between, use_core}
use Rattle.desugar.specs.Negation.{is_test}
use Rattle.desugar.specs.Packets.{Others, Packet, core_means, field_bits, field_value, use_means, with_range}
use Rattle.desugar.specs.Rules.{range_rule}
use Rattle.desugar.proofs.Assigned.{assign_is, before, behind, inside}
use Rattle.desugar.proofs.Bounds.{between_is}
use Rattle.desugar.proofs.Decides.{PatternSuits, RangeSuits, decided, range_decides}
use Rattle.desugar.proofs.Ranges.{field_bit, length_fields, prefix_is, test_chain_value, wildcard_is}
use Rattle.desugar.proofs.Sorts.{literal_short, test_of_use}
use Rattle.desugar.proofs.Tests.{◌≈◌, passes, test_filters}

-- ## Which packets pass

pattern_is : (m : Pattern) (s n : ℕ) → PatternSuits m n → (p : Packet) → (passes (use_core (Matches m) s n) p ≡ true) ↔ HoldsOf m n (field_value p s n)
pattern_is (Exact a) s n h p = rw (length_pad n a h, value_of_pad n a) at (test_chain_value s (pad n a) p)
pattern_is (Cidr a k) s n h p = prefix_is s n (n - k) a p h.1
pattern_is (Wildcard a m) s n h p = wildcard_is s n a m p h.0 h.1
pattern_is (IpRange a b) s n h p =
    let v : value_of (pad n a) ≤ value_of (pad n b) = rw (value_of_pad n a, value_of_pad n b) h.3 in
    let t : (passes (between s (pad n a) (pad n b)) p ≡ true) ↔ ((value_of (pad n a) ≤ field_value p s n) × (field_value p s n ≤ value_of (pad n b))) =
    between_is s n (pad n a) (pad n b) p (length_pad n a h.1) (length_pad n b h.2) v in
    let l : value_of (pad n a) ≡ value_of a = value_of_pad n a in
    let u : value_of (pad n b) ≡ value_of b = value_of_pad n b in
    ((λ e. (omega (arith, (t.0 e).0), omega (arith, (t.0 e).1))), (λ k. t.1 (omega arith, omega arith)))

-- a test that passes exactly where P holds
filter_means : (others : Others) (c : Core) (P : Packet → Type 0) → is_test c ≡ true → ((p : Packet) → (passes c p ≡ true) ↔ P p)
    → core_means others c ≈ (λ p q. (p ≡ q) × P p)
filter_means others c P h f p q = (
  (λ m. (((test_filters others c h p q).0 m).0, (f p).0 ((test_filters others c h p q).0 m).1)),
  (λ m. (test_filters others c h p q).1 (m.0, (f p).1 m.1)),
)

-- where the rules on a use of a range hold, its core means what the use means
pub use_means_fact : (others : Others) (w : Where) (u : Use) (r : ℕ × ℕ) → RangeSuits w u (some r)
    → core_means others (use_core u r.0 (r.1 - r.0)) ≈ use_means others u r.0 (r.1 - r.0)
use_means_fact others w (Assigns a) r h = λ p q. assign_is others r.0 (r.1 - r.0) a p q (literal_short w a (r.1 - r.0) h.1)
use_means_fact others w (Tests a) r h =
    filter_means others (use_core (Tests a) r.0 (r.1 - r.0)) (λ p. field_value p r.0 (r.1 - r.0) ≡ value_of a) (test_of_use w (Tests a) r h)
    (pattern_is (Exact a) r.0 (r.1 - r.0) (literal_short w a (r.1 - r.0) h.1))
use_means_fact others w (Matches m) r h =
    filter_means others (use_core (Matches m) r.0 (r.1 - r.0)) (λ p. HoldsOf m (r.1 - r.0) (field_value p r.0 (r.1 - r.0))) (test_of_use w (Matches m) r h)
    (pattern_is m r.0 (r.1 - r.0) h.1)

-- ## Values

-- a range that is set to a value has it
pub value_set : (p : Packet) (s n v : ℕ) → v < 2 ^ n → field_value (with_range p s n v) s n ≡ v
value_set p s n v h = ap value_of same ∙ value_of_bits n v h
  where
    q : Packet
    q = with_range p s n v

    same : field_bits q s n ≡ bits_of n v
    same =
        ext_get_or false (field_bits q s n) (bits_of n v) (length_fields q s n ∙ sym (length_bits n v)) (λ i k.
        let l : i < n = rw (length_fields q s n) at k in
        let e : s + i - s ≡ i = omega arith in
        sym (bit_at_value i (field_bits q s n)) ∙ field_bit q n s i l ∙ inside p s n v (s + i) (omega arith) (omega arith)
        ∙ ap (λ j. bit_at j v) e ∙ sym (bit_at_bits n v i l))

outside_kept : (p : Packet) (s n v g : ℕ) → Outside s n g → with_range p s n v g ≡ p g
outside_kept p s n v g (inl h) = before p s n v g h
outside_kept p s n v g (inr h) = behind p s n v g h

-- a packet is p with a range set exactly where the range has the value and every other field is as in p
pub set_is : (p q : Packet) (s n v : ℕ) → v < 2 ^ n
    → (q ≡ with_range p s n v) ↔ ((field_value q s n ≡ v) × ((g : ℕ) → Outside s n g → q g ≡ p g))
set_is p q s n v h = (
  (λ e. (ap (λ r. field_value r s n) e ∙ value_set p s n v h, λ g o. ap (λ r. r g) e ∙ outside_kept p s n v g o)),
  (λ k. fun_ext (λ g. go k g (dec_lt g s) (dec_lt g (s + n)))),
)
  where
    go : (field_value q s n ≡ v) × ((g : ℕ) → Outside s n g → q g ≡ p g) → (g : ℕ) → Dec (g < s) → Dec (g < s + n) → q g ≡ with_range p s n v g
    go k g (yes l) d = k.1 g (inl l) ∙ sym (before p s n v g l)
    go k g (no l) (no m) = k.1 g (inr (omega arith)) ∙ sym (behind p s n v g (omega arith))
    go k g (no l) (yes m) =
        let e : s + (g - s) ≡ g = omega arith in
        ap q (sym e) ∙ sym (field_bit q n s (g - s) (omega arith)) ∙ ap (bit_at (g - s)) k.0 ∙ sym (inside p s n v g (omega arith) m)

-- ## The forms

tests_for : (others : Others) (c : Core) (s e : ℕ) (P : ℕ → Type 0)
    → ((p q : Packet) → core_means others c p q ↔ ((p ≡ q) × P (field_value p s (e - s)))) → TestsFor others c s e P
tests_for others c s e P h =
    record {
      packets = h;
      values = λ p v l.
          let q : Packet = with_range p s (e - s) v in
          let z : field_value q s (e - s) ≡ v = value_set p s (e - s) v l in
          ((λ m. subst P z ((h q q).0 m).1), (λ k. (h q q).1 (refl, subst P (sym z) k)));
    }

module _ (others : Others) (w : Where) (s e at : ℕ) where
  -- the rules 14 to 21 on a use of the range
  abbrev Ruled : Use → Type 0
  Ruled u = range_rule w u (s, e) at ≡ ok tt

  suits : (u : Use) → Ruled u → RangeSuits w u (some (s, e))
  suits u h = decided (range_decides w u (s, e) at) h

  pub match_form : (m : Pattern) → Ruled (Matches m) → TestsFor others (use_core (Matches m) s (e - s)) s e (HoldsOf m (e - s))
  match_form m h = tests_for others (use_core (Matches m) s (e - s)) s e (HoldsOf m (e - s)) (use_means_fact others w (Matches m) (s, e) (suits (Matches m) h))

  pub test_form : (a : Bits) → Ruled (Tests a) → TestsFor others (use_core (Tests a) s (e - s)) s e (λ v. v ≡ value_of a)
  test_form a h = tests_for others (use_core (Tests a) s (e - s)) s e (λ v. v ≡ value_of a) (use_means_fact others w (Tests a) (s, e) (suits (Tests a) h))

  pub assign_form : (a : Bits) → Ruled (Assigns a) → Sets others (use_core (Assigns a) s (e - s)) s e (value_of a)
  assign_form a h =
      let k : length a ≤ e - s = literal_short w a (e - s) (suits (Assigns a) h).1 in
      let below : value_of a < 2 ^ (e - s) = lt_of_lt_of_le (value_below a) (pow-le-pow_right (omega arith) k) in
      record {
        packets = use_means_fact others w (Assigns a) (s, e) (suits (Assigns a) h);
        values = λ p q. Iff.trans (use_means_fact others w (Assigns a) (s, e) (suits (Assigns a) h) p q) (set_is p q s (e - s) (value_of a) below);
      }
