-- The rules 14 to 21 as facts on widths and lengths, and the answers that decide them.
use mathlib.Core.Path.{◌≡◌, refl}
use mathlib.Core.Logic.{◌↔◌}
use mathlib.Core.Bool.{Bool, true, false, false≢true}
use mathlib.Core.Option.{Option, none, some}
use Prim.Native.Nat.{ℕ, ◌-◌, ◌≤◌}
use native.Mathlib.Omega.{arith}
use lib.Dec.{leb, eqb}
use lib.ListN.{length}
use Rattle.literals.specs.Bits.{Bits, value_of}
use Rattle.literals.specs.Patterns.{Cidr, Exact, IpRange, Pattern, Wildcard}
use Rattle.literals.proofs.Logic.{and_iff, eqb_is, leb_is}
use Rattle.expr.specs.Answers.{Answer, and_then, need, ok, refuse}
use Rattle.expr.specs.Terms.{Alias, Assigns, Direct, Matches, Tests, Use, Where}
use Rattle.desugar.specs.Rules.{literal_rule, max_range_bits, pattern_rule, range_rule, use_rule}

-- ## The facts

-- rules 15 to 21, of a use of n bits
abbrev pub LiteralSuits : Where → Bits → ℕ → Type 0
LiteralSuits (Direct s e) a n = length a ≡ n
LiteralSuits (Alias x) a n = length a ≤ n

abbrev pub PatternSuits : Pattern → ℕ → Type 0
PatternSuits (Exact a) n = length a ≤ n
PatternSuits (Cidr a k) n = (k ≤ n) × (length a ≡ n)
PatternSuits (Wildcard a m) n = (length a ≡ n) × (length m ≡ n)
PatternSuits (IpRange a b) n = (n ≤ max_range_bits) × (length a ≤ n) × (length b ≤ n) × (value_of a ≤ value_of b)

abbrev pub UseSuits : Where → Use → ℕ → Type 0
UseSuits w (Assigns a) n = LiteralSuits w a n
UseSuits w (Tests a) n = LiteralSuits w a n
UseSuits w (Matches m) n = PatternSuits m n

-- rules 11 and 14 to 21, of a use of the range that was found
abbrev pub RangeSuits : Where → Use → Option (ℕ × ℕ) → Type 0
RangeSuits w u (some r) = (r.0 ≤ r.1) × UseSuits w u (r.1 - r.0)
RangeSuits w u none = ⊥

-- ## Deciding them

-- an answer that is a where P holds, and a refusal where it does not
pub data Decides {A : Type 0} (P : Type 0) (a : A) : Answer A → Type 0 where
  holds : P → Decides P a (ok a)
  fails : (r at : ℕ) → ¬ P → Decides P a (refuse r at)

pub weaken : {A : Type 0} {P Q : Type 0} {a : A} {x : Answer A} → (P → Q) → (Q → P) → Decides P a x → Decides Q a x
weaken f g (holds p) = holds (f p)
weaken f g (fails r at n) = fails r at (λ q. n (g q))

pub after : {A B : Type 0} {P Q : Type 0} {a : A} {b : B} {x : Answer A} (f : A → Answer B)
    → Decides P a x → Decides Q b (f a) → Decides (P × Q) b (and_then x f)
after f (holds p) d = weaken (λ q. (p, q)) (λ h. h.1) d
after f (fails r at n) d = fails r at (λ h. n h.0)

pub finish : {A B : Type 0} {P : Type 0} {a : A} {x : Answer A} (f : A → B) → Decides P a x → Decides P (f a) (and_then x (λ s. ok (f s)))
finish f (holds p) = holds p
finish f (fails r at n) = fails r at n

pub decides_ok : {A : Type 0} {P : Type 0} {a : A} {x : Answer A} → Decides P a x → P → x ≡ ok a
decides_ok (holds p) q = refl
decides_ok (fails r at n) q = absurd (n q)

pub decided : {A : Type 0} {P : Type 0} {a b : A} {x : Answer A} → Decides P a x → x ≡ ok b → P
decided (holds p) e = p
decided (fails r at n) e = let z : ◌≡◌ {A = ℕ} 0 1 = cc in absurd (omega arith)

pub need_decides : (b : Bool) (r at : ℕ) → Decides (b ≡ true) tt (need b r at)
need_decides true r at = holds refl
need_decides false r at = fails r at (λ e. false≢true e)

need_iff : (b : Bool) {P : Type 0} (r at : ℕ) → (b ≡ true) ↔ P → Decides P tt (need b r at)
need_iff b r at h = weaken h.0 h.1 (need_decides b r at)

need_le : (m n r at : ℕ) → Decides (m ≤ n) tt (need (leb m n) r at)
need_le m n r at = need_iff (leb m n) r at (leb_is m n)

need_eq : (m n r at : ℕ) → Decides (m ≡ n) tt (need (eqb m n) r at)
need_eq m n r at = need_iff (eqb m n) r at (eqb_is m n)

literal_decides : (w : Where) (a : Bits) (n at : ℕ) → Decides (LiteralSuits w a n) tt (literal_rule w a n at)
literal_decides (Direct s e) a n at = need_eq (length a) n 16 at
literal_decides (Alias x) a n at = need_le (length a) n 15 at

pub pattern_decides : (m : Pattern) (n at : ℕ) → Decides (PatternSuits m n) tt (pattern_rule m n at)
pattern_decides (Exact a) n at = need_le (length a) n 15 at
pattern_decides (Cidr a k) n at = after _ (need_le k n 17 at) (need_eq (length a) n 18 at)
pattern_decides (Wildcard a m) n at = need_iff _ 19 at (and_iff _ _ (eqb_is (length a) n) (eqb_is (length m) n))
pattern_decides (IpRange a b) n at =
    weaken (λ h. (h.0.0.0, h.0.0.1, h.0.1, h.1)) (λ h. (((h.0, h.1), h.2), h.3))
    (after _
    (need_iff _ 20 at (and_iff _ _ (and_iff _ _ (leb_is n max_range_bits) (leb_is (length a) n)) (leb_is (length b) n)))
    (need_le (value_of a) (value_of b) 21 at))

use_decides : (w : Where) (u : Use) (n at : ℕ) → Decides (UseSuits w u n) tt (use_rule w u n at)
use_decides w (Assigns a) n at = literal_decides w a n at
use_decides w (Tests a) n at = literal_decides w a n at
use_decides w (Matches m) n at = pattern_decides m n at

pub range_decides : (w : Where) (u : Use) (r : ℕ × ℕ) (at : ℕ) → Decides (RangeSuits w u (some r)) tt (range_rule w u r at)
range_decides w u r at = after _ (need_le r.0 r.1 14 at) (use_decides w u (r.1 - r.0) at)
