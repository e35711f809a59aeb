-- The core of a use of a range that keeps the rules, by the kind and the pattern of its record.
use mathlib.Core.Path.{◌≡◌, refl, sym, ap, subst, ◌∙◌}
use mathlib.Core.Logic.{◌⊎◌}
use mathlib.Core.Bool.{Bool}
use mathlib.Core.List.{List}
use Prim.Native.Nat.{ℕ, ◌+◌, ◌-◌, ◌≤◌}
use native.Mathlib.Omega.{arith}
use lib.ListN.{length}
use lib.Seq.{sets}
use Rattle.desugar.specs.declared.judged.JudgedUse.{JudgedUse}
use Rattle.literals.specs.Patterns.{Pattern}
use Rattle.expr.specs.Answers.{ok}
use Rattle.expr.specs.Kinds.{kind_number, pattern_number}
use Rattle.expr.specs.declared.kind.Kind.TheVariants as kind
use Rattle.expr.specs.declared.kind.Pattern.TheVariants as pattern
use Rattle.expr.specs.Terms.{Assign, Core, Intersect, Matches, One, Sequence, Test, Use, Where, size}
use Rattle.expr.specs.Records.{Record}
use Rattle.expr.specs.Form.{pattern_of}
use Rattle.desugar.specs.Rules.{pattern_rule, use_rule}
use Rattle.desugar.specs.Leaves.{between, chain, each_bit, masked_tests, use_core}
use Rattle.desugar.specs.Costs.{between_size, chain_size, clear}
use Rattle.desugar.specs.LeafWords.{stretch}
use Rattle.desugar.specs.Memory.{words}
use Rattle.desugar.specs.WalkWords.{use_of, where_of}
use Rattle.desugar.specs.RangedWords.{record_in}
use Rattle.desugar.proofs.RuleLaws.{literal_kept, exact_kept, cidr_kept, wildcard_kept, values_kept}
use Rattle.desugar.proofs.LeafKinds.{kinds_in, of, sides, cidr_is, wildcard_is, values_is, exact_is, literal_use, assigns_is, tests_is}
use Rattle.desugar.proofs.UseCores.{Leaf, assigns_leaf, tests_leaf, exact_leaf, cidr_leaf, wildcard_leaf, range_leaf}

-- how many records were counted, and what was written, are those of the core
pub counted : {core written : Core} {n : ℕ} → Leaf core written n → (r : ℕ) → r ≡ n → r ≡ size core
counted l r e = e ∙ sym l.count

pub stored_leaf : {core written : Core} {n : ℕ} → Leaf core written n → (xs xs' : List ℕ) (top : ℕ) → xs' ≡ sets xs top (words written) → xs' ≡ sets xs top (words core)
stored_leaf l xs xs' top e = e ∙ ap (λ (c : Core). sets xs top (words c)) (sym l.is)

-- ## Patterns

module _ (h : Record) (n : ℕ) (rule : pattern_rule (pattern_of h) n 0 ≡ ok tt) where
  of_pattern : {p : Pattern} → pattern_of h ≡ p → pattern_rule p n 0 ≡ ok tt
  of_pattern e = subst (λ (m : Pattern). pattern_rule m n 0 ≡ ok tt) e rule

  core_of : (s : ℕ) {p : Pattern} {written : Core} {count : ℕ} → pattern_of h ≡ p → Leaf (use_core (Matches p) s n) written count
      → Leaf (use_core (Matches (pattern_of h)) s n) written count
  core_of s {p} {written} {count} e l = subst (λ (m : Pattern). Leaf (use_core (Matches m) s n) written count) (sym e) l

  pub prefix_fits : h.pattern ≡ 1 → (h.number ≤ n) × (length h.lit_a ≡ n)
  prefix_fits e = cidr_kept h.lit_a h.number n (of_pattern (cidr_is h e))

  pub cidr_core : (s k : ℕ) → k ≡ h.number → h.pattern ≡ 1
      → Leaf (use_core (Matches (pattern_of h)) s n) (chain Intersect One (each_bit Test (s + (n - k)) (stretch h.lit_a (n - k) k))) (chain_size k)
  cidr_core s k q e =
      subst (λ j. Leaf (use_core (Matches (pattern_of h)) s n) (chain Intersect One (each_bit Test (s + (n - j)) (stretch h.lit_a (n - j) j))) (chain_size j)) (sym q)
      (core_of s (cidr_is h e) (cidr_leaf h.lit_a s n (prefix_fits e).1 h.number (prefix_fits e).0))

  pub wildcard_core : (s : ℕ) → h.pattern ≡ 2
      → Leaf (use_core (Matches (pattern_of h)) s n) (chain Intersect One (masked_tests s (stretch h.lit_a 0 n) (stretch h.lit_b 0 n))) (chain_size (clear (stretch h.lit_b 0 n)))
  wildcard_core s e =
      let kept = wildcard_kept h.lit_a h.lit_b n (of_pattern (wildcard_is h e)) in
      core_of s (wildcard_is h e) (wildcard_leaf h.lit_a s n kept.0 h.lit_b kept.1)

  pub values_fit : h.pattern ≡ 3 → (n ≤ 128) × (length h.lit_a ≤ n) × (length h.lit_b ≤ n)
  values_fit e = values_kept h.lit_a h.lit_b n (of_pattern (values_is h e))

  pub values_core : (s : ℕ) → h.pattern ≡ 3
      → Leaf (use_core (Matches (pattern_of h)) s n) (between s (stretch h.lit_a 0 n) (stretch h.lit_b 0 n)) (between_size (stretch h.lit_a 0 n) (stretch h.lit_b 0 n))
  values_core s e = core_of s (values_is h e) (range_leaf h.lit_a s n (values_fit e).1 h.lit_b (values_fit e).2)

  pub exact_core : (s : ℕ) → (h.pattern ≡ 1 → ⊥) → (h.pattern ≡ 2 → ⊥) → (h.pattern ≡ 3 → ⊥)
      → Leaf (use_core (Matches (pattern_of h)) s n) (chain Intersect One (each_bit Test s (stretch h.lit_a 0 n))) (chain_size n)
  exact_core s a b c =
      let e = exact_is h a b c in
      core_of s e (exact_leaf h.lit_a s n (exact_kept h.lit_a n (of_pattern e)))

-- ## Literals

module _ (h : Record) (w : Where) (n : ℕ) (rule : use_rule w (use_of h) n 0 ≡ ok tt) where
  use_core_of : (s : ℕ) {u : Use} {written : Core} {count : ℕ} → use_of h ≡ u → Leaf (use_core u s n) written count → Leaf (use_core (use_of h) s n) written count
  use_core_of s {u} {written} {count} e l = subst (λ (v : Use). Leaf (use_core v s n) written count) (sym e) l

  of_use : {u : Use} → use_of h ≡ u → use_rule w u n 0 ≡ ok tt
  of_use e = subst (λ (v : Use). use_rule w v n 0 ≡ ok tt) e rule

  pub assigns_core : (s : ℕ) → (h.kind ≡ 21) ⊎ (h.kind ≡ 23)
      → Leaf (use_core (use_of h) s n) (chain Sequence One (each_bit Assign s (stretch h.lit_a 0 n))) (chain_size n)
  assigns_core s k = use_core_of s (assigns_is h k) (assigns_leaf h.lit_a s n (literal_kept w h.lit_a n (of_use (assigns_is h k))))

  pub tests_core : (s : ℕ) → (h.kind ≡ 22) ⊎ (h.kind ≡ 24)
      → Leaf (use_core (use_of h) s n) (chain Intersect One (each_bit Test s (stretch h.lit_a 0 n))) (chain_size n)
  tests_core s k = use_core_of s (tests_is h k) (tests_leaf h.lit_a s n (literal_kept w h.lit_a n (of_use (tests_is h k))))

  -- of either kind
  pub literal_size : (s : ℕ) → 21 ≤ h.kind → h.kind ≤ 24 → size (use_core (use_of h) s n) ≡ chain_size n
  literal_size s l m =
      let fits = literal_kept w h.lit_a n (sym (literal_use h l m w n 0) ∙ rule) in
      kinds_in 21 4 (λ k. size (use_core (use_of (of h k)) s n) ≡ chain_size n)
      ((tests_leaf h.lit_a s n fits).count, ((assigns_leaf h.lit_a s n fits).count, ((tests_leaf h.lit_a s n fits).count, ((assigns_leaf h.lit_a s n fits).count, tt)))) h.kind l (omega arith)

  -- a use that is a match keeps the rules of its pattern
  pub matches_kept : use_of h ≡ Matches (pattern_of h) → pattern_rule (pattern_of h) n 0 ≡ ok tt
  matches_kept e = of_use e

-- ## A use of fields, n of them, that keeps the rules

module _ (j : JudgedUse) {n : ℕ} (e : n ≡ j.fields.end - j.fields.start) where
  pub use_kept : use_rule (where_of (record_in j.used)) (use_of (record_in j.used)) n 0 ≡ ok tt
  use_kept = subst (λ (m : ℕ). use_rule (where_of (record_in j.used)) (use_of (record_in j.used)) m 0 ≡ ok tt) (sym e) j.kept

  -- an assignment or a test, by its kind
  module _ (s : ℕ) where
    abbrev literal : List Bool
    literal = stretch (record_in j.used).lit_a 0 n

    pub assigns_on : (j.used.kind ≡ kind.VarAssign) ⊎ (j.used.kind ≡ kind.BitRangeAssign) → Leaf (use_core (use_of (record_in j.used)) s n) (chain Sequence One (each_bit Assign s literal)) (chain_size n)
    assigns_on k = assigns_core (record_in j.used) (where_of (record_in j.used)) n use_kept s (sides (ap kind_number) (ap kind_number) k)

    pub tests_on : (j.used.kind ≡ kind.VarTest) ⊎ (j.used.kind ≡ kind.BitRangeTest) → Leaf (use_core (use_of (record_in j.used)) s n) (chain Intersect One (each_bit Test s literal)) (chain_size n)
    tests_on k = tests_core (record_in j.used) (where_of (record_in j.used)) n use_kept s (sides (ap kind_number) (ap kind_number) k)

  -- a match, by its pattern: what is written for its n fields is its core on them
  module _ (k : use_of (record_in j.used) ≡ Matches (pattern_of (record_in j.used))) (s : ℕ) where
    abbrev h : Record
    h = record_in j.used

    pattern_kept : pattern_rule (pattern_of h) n 0 ≡ ok tt
    pattern_kept = matches_kept h (where_of h) n use_kept k

    on_fields : {written : Core} {count : ℕ} → Leaf (use_core (Matches (pattern_of h)) s n) written count
        → Leaf (use_core (Matches (pattern_of h)) s (j.fields.end - j.fields.start)) written count
    on_fields {written} {count} l = subst (λ (m : ℕ). Leaf (use_core (Matches (pattern_of h)) s m) written count) e l

    pub cidr_on : j.used.pattern ≡ pattern.Cidr
        → Leaf (use_core (Matches (pattern_of h)) s (j.fields.end - j.fields.start)) (chain Intersect One (each_bit Test (s + (n - j.used.number)) (stretch h.lit_a (n - j.used.number) j.used.number))) (chain_size j.used.number)
    cidr_on p = on_fields (cidr_core h n pattern_kept s j.used.number refl (ap pattern_number p))

    pub wildcard_on : j.used.pattern ≡ pattern.Wildcard
        → Leaf (use_core (Matches (pattern_of h)) s (j.fields.end - j.fields.start)) (chain Intersect One (masked_tests s (stretch h.lit_a 0 n) (stretch h.lit_b 0 n))) (chain_size (clear (stretch h.lit_b 0 n)))
    wildcard_on p = on_fields (wildcard_core h n pattern_kept s (ap pattern_number p))

    pub values_on : j.used.pattern ≡ pattern.IpRange
        → Leaf (use_core (Matches (pattern_of h)) s (j.fields.end - j.fields.start)) (between s (stretch h.lit_a 0 n) (stretch h.lit_b 0 n)) (between_size (stretch h.lit_a 0 n) (stretch h.lit_b 0 n))
    values_on p = on_fields (values_core h n pattern_kept s (ap pattern_number p))

    pub exact_on : j.used.pattern ≡ pattern.Exact
        → Leaf (use_core (Matches (pattern_of h)) s (j.fields.end - j.fields.start)) (chain Intersect One (each_bit Test s (stretch h.lit_a 0 n))) (chain_size n)
    exact_on p =
        let other : (m : ℕ) → 1 ≤ m → pattern_number j.used.pattern ≡ m → ⊥ = λ m l q. omega (arith, l, q, ap pattern_number p) in
        on_fields (exact_core h n pattern_kept s (other 1 (omega arith)) (other 2 (omega arith)) (other 3 (omega arith)))
