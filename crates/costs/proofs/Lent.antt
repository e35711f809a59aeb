-- What a match costs by the rule that it breaks and the size of its core, and what a lent pattern is by the refusals of its literals.
use mathlib.Core.Path.{◌≡◌, refl, sym, ap, ◌∙◌}
use mathlib.Core.Bool.{cond}
use mathlib.Core.List.{List}
use Prim.Native.Nat.{ℕ, ◌-◌, ◌≤◌, ◌<◌}
use native.Mathlib.Omega.{arith}
use lib.Dec.{leb}
use lib.ListN.{length, take, get_or-eq_default}
use Rattle.std.specs.Prelude.{Ok, Err}
use Rattle.refusals.specs.Refusals.{number_of}
use Rattle.refusals.specs.declared.Refusal.{Refusal}
use Rattle.literals.specs.declared.BitSlice.{BitSlice}
use Rattle.literals.specs.Bits.{Bits, unpack}
use Rattle.literals.specs.Patterns.{Cidr, Exact, IpRange, Pattern, Wildcard}
use Rattle.literals.specs.Results.{literal_bits, LentFound}
use Rattle.literals.proofs.Values.{lent_whole}
use Rattle.expr.specs.Answers.{Answer, and_then, map_answer, ok, refuse}
use Rattle.expr.specs.Terms.{Direct, Matches, size}
use Rattle.desugar.specs.Costs.{cost, pattern_cost}
use Rattle.desugar.specs.Leaves.{use_core}
use Rattle.desugar.specs.Rules.{range_rule}
use Rattle.desugar.proofs.Costs.{cost_size}
use Rattle.desugar.proofs.Decides.{decided, range_decides}
use Rattle.desugar.proofs.LeafKinds.{kinds_in}
use Rattle.costs.specs.Lent.{lent_cost, lent_literal, lent_pattern, lent_patterns, placed}
use Rattle.costs.specs.Results.{pattern_with}

-- ## A match

module _ (p : Pattern) (s e : ℕ) where
  abbrev rule : Answer (Unit {0})
  rule = range_rule (Direct s e) (Matches p) (s, e) 0

  pub cost_refused : {r : ℕ} → refuse r 0 ≡ rule → refuse r 0 ≡ cost p s e 0
  cost_refused k = ap (λ (x : Answer (Unit {0})). and_then x (λ _. ok (pattern_cost p (e - s)))) k

  pub cost_counted : {n m : ℕ} → rule ≡ ok tt → n ≡ e - s → m ≡ size (use_core (Matches p) s n) → ok m ≡ cost p s e 0
  cost_counted k f g =
      ap ok (g ∙ ap (λ j. size (use_core (Matches p) s j)) f ∙ cost_size p s (e - s) (decided (range_decides (Direct s e) (Matches p) (s, e) 0) k).1)
      ∙ sym (ap (λ (x : Answer (Unit {0})). and_then x (λ _. ok (pattern_cost p (e - s)))) k)

-- ## A lent literal

module _ (bs : List ℕ) (n : ℕ) where
  pub literal_refused : (r : Refusal) → LentFound n bs (Err r) → lent_literal (bs, n) ≡ refuse (number_of r) 0
  literal_refused r f = ap placed (sym f.answer)

  pub literal_kept : (l : BitSlice) → LentFound n bs (Ok l) → lent_literal (bs, n) ≡ ok (literal_bits l)
  literal_kept l f = ap placed (sym f.answer)

  pub literal_whole : (l : BitSlice) → LentFound n bs (Ok l) → length (literal_bits l) ≡ l.len
  literal_whole l f =
      let same : literal_bits l ≡ take n (unpack bs) = λ i. take (f.same.0 i) (unpack (f.same.1 i)) in
      ap length same ∙ lent_whole bs n (sym f.answer) ∙ sym f.same.0

-- ## A lent pattern

-- the patterns 0 to 3: A, then the bits of B that the pattern has
pub pattern_known : (p k : ℕ) (a b : List ℕ × ℕ) → p ≤ 3
    → lent_pattern p k a b ≡ and_then (lent_literal a) (λ x. and_then (lent_literal (b.0, cond (leb 2 p) b.1 0)) λ y. ok (pattern_with p k x y))
pattern_known p k a b h =
    kinds_in 0 4 (λ q. lent_pattern q k a b ≡ and_then (lent_literal a) (λ x. and_then (lent_literal (b.0, cond (leb 2 q) b.1 0)) λ y. ok (pattern_with q k x y)))
    (two (lent_literal a) (lent_literal b) IpRange, (two (lent_literal a) (lent_literal b) Wildcard, (one (lent_literal a) (λ x. Cidr x k), (one (lent_literal a) Exact, tt)))) p (omega arith) (omega arith)
  where
    one : (x : Answer Bits) (f : Bits → Pattern) → map_answer f x ≡ and_then x (λ y. ok (f y))
    one (ok y) f = refl
    one (refuse r q) f = refl

    two : (x y : Answer Bits) (f : Bits → Bits → Pattern) → and_then x (λ u. map_answer (f u) y) ≡ and_then x (λ u. and_then y λ v. ok (f u v))
    two (ok u) (ok v) f = refl
    two (ok u) (refuse r q) f = refl
    two (refuse r q) y f = refl

module _ (s e p k : ℕ) (a : List ℕ) (n : ℕ) (b : List ℕ) (m : ℕ) where
  pub lent_unknown : 3 < p → refuse 5 0 ≡ lent_cost s e p k (a, n) (b, m)
  lent_unknown h =
      let far : 4 ≤ p = omega arith in
      sym (ap (λ (x : Answer Pattern). and_then x (λ q. cost q s e 0)) (get_or-eq_default (lent_patterns k (a, n) (b, m)) (refuse 5 0) far))

  module _ (known : p ≤ 3) {bits : ℕ} (has : bits ≡ cond (leb 2 p) m 0) where
    abbrev rest : Answer Bits → Answer Bits → Answer ℕ
    rest x y = and_then (and_then x λ u. and_then y λ v. ok (pattern_with p k u v)) λ q. cost q s e 0

    opened : lent_cost s e p k (a, n) (b, m) ≡ rest (lent_literal (a, n)) (lent_literal (b, bits))
    opened =
        ap (λ (x : Answer Pattern). and_then x (λ q. cost q s e 0)) (pattern_known p k (a, n) (b, m) known)
        ∙ ap (λ j. rest (lent_literal (a, n)) (lent_literal (b, j))) (sym has)

    pub lent_first : {r : ℕ} → lent_literal (a, n) ≡ refuse r 0 → refuse r 0 ≡ lent_cost s e p k (a, n) (b, m)
    lent_first h = sym (opened ∙ ap (λ x. rest x (lent_literal (b, bits))) h)

    pub lent_second : {r : ℕ} {x : Bits} → lent_literal (a, n) ≡ ok x → lent_literal (b, bits) ≡ refuse r 0 → refuse r 0 ≡ lent_cost s e p k (a, n) (b, m)
    lent_second h g = sym (opened ∙ λ i. rest (h i) (g i))

    pub lent_both : {u v : Bits} → lent_literal (a, n) ≡ ok u → lent_literal (b, bits) ≡ ok v
        → {x : Answer ℕ} → x ≡ cost (pattern_with p k u v) s e 0 → x ≡ lent_cost s e p k (a, n) (b, m)
    lent_both h g t = t ∙ sym (opened ∙ λ i. rest (h i) (g i))
