-- The core of each use of a range, in the words in which src/leaves.rt, src/masks.rt and src/between.rt write it.
use mathlib.Core.Path.{◌∙◌, ◌≡◌, ap, sym}
use Prim.Native.Nat.{◌+◌, ◌-◌, ◌≤◌, ℕ}
use native.Mathlib.Omega.{arith}
use lib.ListN.{length}
use Rattle.literals.specs.Bits.{Bits}
use Rattle.literals.specs.Patterns.{Cidr, Exact, IpRange, Wildcard}
use Rattle.expr.specs.Terms.{Assign, Assigns, Core, Intersect, Matches, One, Sequence, Test, Tests, size}
use Rattle.desugar.specs.Costs.{between_size, chain_size, clear}
use Rattle.desugar.specs.LeafWords.{stretch}
use Rattle.desugar.specs.Leaves.{assign_chain, between, chain, each_bit, masked_tests, test_chain, use_core}
use Rattle.desugar.proofs.BetweenWords.{size_between}
use Rattle.desugar.proofs.Chains.{length_stretch, size_each_bit, stretch_pad, stretch_rest, stretch_whole}
use Rattle.desugar.proofs.Masked.{size_masked}

-- a core that is written for a use, and how many records it has
pub record Leaf (core written : Core) (n : ℕ) : Type 0 where
  pub is : core ≡ written
  pub count : size core ≡ n

made : {core written : Core} {n : ℕ} → core ≡ written → size written ≡ n → Leaf core written n
made e s = record { is = e; count = ap size e ∙ s }

module _ (a : Bits) (s n : ℕ) (h : length a ≤ n) where
  pub assigns_leaf : Leaf (use_core (Assigns a) s n) (chain Sequence One (each_bit Assign s (stretch a 0 n))) (chain_size n)
  assigns_leaf =
      made (ap (assign_chain s) (sym (stretch_pad a n h))) (size_each_bit Assign Sequence s (stretch a 0 n) ∙ ap chain_size (length_stretch a 0 n))

  pub tests_leaf : Leaf (use_core (Tests a) s n) (chain Intersect One (each_bit Test s (stretch a 0 n))) (chain_size n)
  tests_leaf =
      made (ap (test_chain s) (sym (stretch_pad a n h))) (size_each_bit Test Intersect s (stretch a 0 n) ∙ ap chain_size (length_stretch a 0 n))

  pub exact_leaf : Leaf (use_core (Matches (Exact a)) s n) (chain Intersect One (each_bit Test s (stretch a 0 n))) (chain_size n)
  exact_leaf = tests_leaf

  pub range_leaf : (b : Bits) → length b ≤ n
      → Leaf (use_core (Matches (IpRange a b)) s n) (between s (stretch a 0 n) (stretch b 0 n)) (between_size (stretch a 0 n) (stretch b 0 n))
  range_leaf b k =
      made (λ i. between s (sym (stretch_pad a n h) i) (sym (stretch_pad b n k) i)) (size_between s (stretch a 0 n) (stretch b 0 n))

module _ (a : Bits) (s n : ℕ) (h : length a ≡ n) where
  pub cidr_leaf : (k : ℕ) → k ≤ n
      → Leaf (use_core (Matches (Cidr a k)) s n) (chain Intersect One (each_bit Test (s + (n - k)) (stretch a (n - k) k))) (chain_size k)
  cidr_leaf k t =
      let whole : length a ≡ n - k + k = omega arith in
      made (ap (test_chain (s + (n - k))) (sym (stretch_rest a (n - k) k whole)))
      (size_each_bit Test Intersect (s + (n - k)) (stretch a (n - k) k) ∙ ap chain_size (length_stretch a (n - k) k))

  pub wildcard_leaf : (m : Bits) → length m ≡ n
      → Leaf (use_core (Matches (Wildcard a m)) s n) (chain Intersect One (masked_tests s (stretch a 0 n) (stretch m 0 n))) (chain_size (clear (stretch m 0 n)))
  wildcard_leaf m k =
      made (λ i. chain Intersect One (masked_tests s (sym (stretch_whole a n h) i) (sym (stretch_whole m n k) i)))
      (size_masked s (stretch a 0 n) (stretch m 0 n) (length_stretch a 0 n ∙ sym (length_stretch m 0 n)))
