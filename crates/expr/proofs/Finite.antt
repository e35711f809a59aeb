-- Laws of functions on numbers that are decided by a test at each number of a range.
use mathlib.Core.Path.{◌≡◌, sym, ap, subst, ◌∙◌}
use mathlib.Core.Bool.{Bool, true, ◌&&◌}
use Prim.Native.Nat.{ℕ, zero, suc, ◌+◌, ◌-◌, ◌≤◌, ◌<◌}
use native.Mathlib.Omega.{arith}
use native.Mathlib.Decide.{dec_lt}
use lib.Dec.{eqb}
use Rattle.literals.proofs.Logic.{eqb_is, and_left, and_right}

-- the test p at each number below n
abbrev pub all_below : ℕ → (ℕ → Bool) → Bool
all_below zero p = true
all_below (suc n) p = p n && all_below n p

pub below : (n : ℕ) (p : ℕ → Bool) → all_below n p ≡ true → (i : ℕ) → i < n → p i ≡ true
below zero p h i l = absurd (omega arith)
below (suc n) p h i l = go (dec_lt i n) (below n p (and_right (p n) (all_below n p) h) i)
  where
    go : Dec (i < n) → (i < n → p i ≡ true) → p i ≡ true
    go (yes k) each = each k
    go (no k) each =
        let e : i ≡ n = omega arith in
        ap p e ∙ and_left (p n) (all_below n p) h

-- a function with the value r at n numbers from a first one on
pub same_in : (f : ℕ → ℕ) (first n r : ℕ) → all_below n (λ i. eqb (f (first + i)) r) ≡ true → (k : ℕ) → first ≤ k → k < first + n → r ≡ f k
same_in f first n r h k l m =
    let e : first + (k - first) ≡ k = omega arith in
    subst (λ j. r ≡ f j) e (sym ((eqb_is (f (first + (k - first))) r).0 (below n (λ i. eqb (f (first + i)) r) h (k - first) (omega arith))))
