-- The cost of a pattern is the draw of its match, and no range pattern costs more than 33,529.
use mathlib.Core.Path.{◌≡◌, refl, sym, ap, ◌∙◌}
use mathlib.Core.Bool.{Bool, true, false, cond, true≢false}
use mathlib.Core.Option.{Option, none, some}
use mathlib.Core.List.{[], ◌∷◌}
use Prim.Native.Nat.{ℕ, suc, ◌+◌, ◌-◌, ◌*◌, ◌^◌, ◌≤◌, ◌<◌}
use native.Mathlib.Nat.{pow-succ'}
use native.Mathlib.Decide.{dec_lt}
use native.Mathlib.Omega.{arith}
use lib.Dec.{eqb, leb}
use lib.ListN.{length}
use Rattle.literals.specs.Bits.{Bits, bit, pad, value_of}
use Rattle.literals.specs.Patterns.{Cidr, Exact, IpRange, Pattern, Wildcard}
use Rattle.literals.proofs.Bits.{bit_small, length_pad, value_below, value_of_pad}
use Rattle.literals.proofs.Logic.{eqb_is}
use Rattle.expr.specs.Answers.{Answer, and_then, map_answer, ok, refuse}
use Rattle.expr.specs.Terms.{Core, Direct, Matches, Ranged, Where, size}
use Rattle.desugar.specs.Bindings.{Env, find_range}
use Rattle.desugar.specs.Claims.{drawn_total}
use Rattle.desugar.specs.Costs.{between_case_size, between_size, chain_size, clear, cost, differences_size, pattern_cost}
use Rattle.desugar.specs.Desugar.{desugar, drawn_of}
use Rattle.desugar.specs.Leaves.{use_core}
use Rattle.desugar.specs.Meter.{Meter, drawing, left, lift, spent}
use Rattle.desugar.proofs.Chains.{stretch_pad, stretch_whole}
use Rattle.desugar.proofs.Decides.{Decides, PatternSuits, RangeSuits, fails, holds, range_decides}
use Rattle.desugar.proofs.StandingBits.{all_128, all_bits, both_all}
use Rattle.desugar.proofs.UseCores.{cidr_leaf, exact_leaf, range_leaf, wildcard_leaf}

-- ## The draw

-- a pattern that keeps the rules costs as many nodes as its core has
pub cost_size : (p : Pattern) (s n : ℕ) → PatternSuits p n → size (use_core (Matches p) s n) ≡ pattern_cost p n
cost_size (Exact a) s n k = (exact_leaf a s n k).count
cost_size (Cidr a m) s n k = (cidr_leaf a s n k.1 m k.0).count
cost_size (Wildcard a m) s n k = (wildcard_leaf a s n k.0 m k.1).count ∙ ap (λ (l : Bits). chain_size (clear l)) (stretch_whole m n k.1)
cost_size (IpRange a b) s n k =
    (range_leaf a s n k.1 b k.2).count ∙ λ i. between_size (stretch_pad a n k.1 i) (stretch_pad b n k.2 i)

-- the match draws its cost, once, or is refused as the cost is: under any bindings, on a range that is written out or that its alias has
pub cost_is_draw : (env : Env Core) (w : Where) (p : Pattern) (s e at : ℕ) → find_range env w ≡ some (s, e)
    → drawn_total env (Ranged w (Matches p)) at ≡ cost p s e at
cost_is_draw env w p s e at found = rw found (go (range_decides w (Matches p) (s, e) at))
  where
    go : {x : Answer (Unit {0})} → Decides (RangeSuits w (Matches p) (some (s, e))) tt x
        → map_answer (λ r. drawn_of 0 r.1) (and_then (lift x (spent [])) (λ r. drawing (size (use_core (Matches p) s (e - s))) at (use_core (Matches p) s (e - s)) r.1))
        ≡ and_then x (λ _. ok (pattern_cost p (e - s)))
    go (holds k) = ap ok (omega (arith, cost_size p s (e - s) k.1))
    go (fails r at n) = refl

-- and with n left of an allowance it is refused by 24 where its cost is more, and leaves the rest
pub cost_spends : (env : Env Core) (w : Where) (p : Pattern) (s e at m : ℕ) → find_range env w ≡ some (s, e) → cost p s e at ≡ ok m → (n : ℕ)
    → map_answer (λ r. r.1) (desugar env (Ranged w (Matches p)) at (left n)) ≡ cond (leb m n) (ok (left (n - m))) (refuse 24 at)
cost_spends env w p s e at m found h n = rw found (go (range_decides w (Matches p) (s, e) at) h)
  where
    drawing_is : (k : ℕ) (c : Core) → map_answer (λ r. r.1) (drawing k at c (left n)) ≡ cond (leb k n) (ok (left (n - k))) (refuse 24 at)
    drawing_is k c = split (leb k n)
      where
        split : (b : Bool) → map_answer (λ (r : Core × Meter). r.1) (cond b (ok (c, left (n - k))) (refuse 24 at)) ≡ cond b (ok (left (n - k))) (refuse 24 at)
        split true = refl
        split false = refl

    go : {x : Answer (Unit {0})} → Decides (RangeSuits w (Matches p) (some (s, e))) tt x → and_then x (λ _. ok (pattern_cost p (e - s))) ≡ ok m
        → map_answer (λ r. r.1) (and_then (lift x (left n)) (λ r. drawing (size (use_core (Matches p) s (e - s))) at (use_core (Matches p) s (e - s)) r.1))
        ≡ cond (leb m n) (ok (left (n - m))) (refuse 24 at)
    go (holds k) c =
        let same : pattern_cost p (e - s) ≡ m = cc in
        drawing_is (size (use_core (Matches p) s (e - s))) (use_core (Matches p) s (e - s))
        ∙ ap (λ j. cond (leb j n) (ok (left (n - j))) (refuse 24 at)) (cost_size p s (e - s) k.1 ∙ same)
    go (fails r q f) c = let z : ◌≡◌ {A = ℕ} 0 1 = cc in absurd (omega arith)

-- ## The highest cost of a range

-- some bit stands, some bit is clear
some_standing : (a : Bits) → 0 < value_of a → 2 ≤ differences_size true a
some_standing [] h = absurd (omega arith)
some_standing (true ∷ a) h = omega arith
some_standing (false ∷ a) h = omega (arith, some_standing a (omega arith))

some_clear : (a : Bits) → value_of a + 1 < 2 ^ length a → 2 ≤ differences_size false a
some_clear [] h = absurd (omega arith)
some_clear (false ∷ a) h = omega arith
some_clear (true ∷ a) h = omega (arith, some_clear a (omega (arith, rw (pow-succ' 2 (length a)) at h)))

some_bit : (a : Bits) → 0 < value_of a → 1 ≤ length a
some_bit [] h = absurd (omega arith)
some_bit (x ∷ a) h = omega arith

more_bits : (b : Bits) (y : ℕ) → y + 2 * value_of b + 1 < 2 * 2 ^ length b → 1 ≤ y + 2 * value_of b → 1 ≤ length b
more_bits [] y h k = absurd (omega arith)
more_bits (x ∷ b) y h k = omega arith

-- What both bounds leave out: the standing bits of the lower one, which is not 0, and the clear bits of the upper one, which is not the highest
-- value. They come to at least 6, since the top bit cannot be the only one of both
least_loss : (a b : Bits) → length a ≡ length b → 0 < value_of a → value_of b + 1 < 2 ^ length b → value_of a ≤ value_of b
    → 6 ≤ differences_size true a + differences_size false b
least_loss [] b l h k o = absurd (omega arith)
least_loss (x ∷ a) [] l h k o = absurd (omega arith)
least_loss (x ∷ a) (y ∷ b) l h k o =
    go x y h k (rw (pow-succ' 2 (length b)) at k) o (dec_lt 0 (value_of a)) (dec_lt (value_of b + 1) (2 ^ length b)) (λ p q r. least_loss a b (omega arith) p q r)
  where
    go : (x y : Bool) → 0 < bit x + 2 * value_of a → bit y + 2 * value_of b + 1 < 2 ^ suc (length b) → bit y + 2 * value_of b + 1 < 2 * 2 ^ length b
        → bit x + 2 * value_of a ≤ bit y + 2 * value_of b → Dec (0 < value_of a) → Dec (value_of b + 1 < 2 ^ length b)
        → (0 < value_of a → value_of b + 1 < 2 ^ length b → value_of a ≤ value_of b → 6 ≤ differences_size true a + differences_size false b)
        → 6 ≤ differences_size true (x ∷ a) + differences_size false (y ∷ b)
    go x y h k m o (yes p) (yes q) r = omega (arith, r p q (omega (arith, bit_small y)))
    go true y h k m o (no p) d r = omega (arith, l, some_clear (y ∷ b) k, more_bits b (bit y) m (omega arith))
    go false y h k m o (no p) d r = absurd (omega (arith, p))
    go x true h k m o (yes p) (no q) r = absurd (omega (arith, q, value_below b))
    go x false h k m o (yes p) (no q) r = omega (arith, l, some_standing (x ∷ a) h, some_bit a p)

not_equal : (m n : ℕ) → eqb m n ≡ false → m ≡ n → ⊥
not_equal m n e k = true≢false (sym ((eqb_is m n).1 k) ∙ e)

-- 255 for each bound, 16,512 for its bits and one more are 33,535, less what both leave out
between_most : (a b : Bits) (n : ℕ) → length a ≡ n → length b ≡ n → n ≤ 128 → value_of a ≤ value_of b → (x y z : Bool)
    → eqb (value_of a) (value_of b) ≡ x → eqb (value_of a) 0 ≡ y → eqb (value_of b + 1) (2 ^ length b) ≡ z → between_case_size x y z a b ≤ 33529
between_most a b n l m w o true y z p q r = omega arith
between_most a b n l m w o false true true p q r = omega arith
between_most a b n l m w o false true false p q r = omega (arith, both_all b, ap all_bits m, all_128 n w)
between_most a b n l m w o false false true p q r = omega (arith, both_all a, ap all_bits l, all_128 n w)
between_most a b n l m w o false false false p q r =
    let some : 0 < value_of a = omega (arith, not_equal (value_of a) 0 q) in
    let less : value_of b + 1 < 2 ^ length b = omega (arith, value_below b, not_equal (value_of b + 1) (2 ^ length b) r) in
    omega (arith, both_all a, both_all b, ap all_bits l, ap all_bits m, all_128 n w, least_loss a b (l ∙ sym m) some less o)

pub range_cost_most : (a b : Bits) (s e at n : ℕ) → cost (IpRange a b) s e at ≡ ok n → n ≤ 33529
range_cost_most a b s e at n = go (range_decides (Direct s e) (Matches (IpRange a b)) (s, e) at)
  where
    most : PatternSuits (IpRange a b) (e - s) → pattern_cost (IpRange a b) (e - s) ≤ 33529
    most k =
        between_most (pad (e - s) a) (pad (e - s) b) (e - s) (length_pad (e - s) a k.1) (length_pad (e - s) b k.2) k.0
        (omega (arith, k.3, value_of_pad (e - s) a, value_of_pad (e - s) b)) _ _ _ refl refl refl

    go : {x : Answer (Unit {0})} → Decides (RangeSuits (Direct s e) (Matches (IpRange a b)) (some (s, e))) tt x
        → and_then x (λ _. ok (pattern_cost (IpRange a b) (e - s))) ≡ ok n → n ≤ 33529
    go (holds k) h = let same : pattern_cost (IpRange a b) (e - s) ≡ n = cc in omega (arith, most k.1)
    go (fails r at f) h = let z : ◌≡◌ {A = ℕ} 0 1 = cc in absurd (omega arith)

-- a match of an unknown alias is refused
pub range_draws_most : (env : Env Core) (w : Where) (a b : Bits) (at n : ℕ) → drawn_total env (Ranged w (Matches (IpRange a b))) at ≡ ok n → n ≤ 33529
range_draws_most env w a b at n h = go (find_range env w) refl
  where
    go : (x : Option (ℕ × ℕ)) → find_range env w ≡ x → n ≤ 33529
    go none f = let k = rw f at h in let z : ◌≡◌ {A = ℕ} 0 1 = cc in absurd (omega arith)
    go (some r) f = range_cost_most a b r.0 r.1 at n (sym (cost_is_draw env w (IpRange a b) r.0 r.1 at f) ∙ h)
