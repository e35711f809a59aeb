-- A record whose kind and pattern are those that its numbers are used as is used alike.
use mathlib.Core.Path.{◌≡◌, refl, sym, ap, subst, ◌∙◌}
use mathlib.Core.Bool.{cond, ◌||◌}
use mathlib.Core.Logic.{inr}
use mathlib.Core.List.{[], ◌∷◌}
use Prim.Native.Nat.{ℕ, ◌-◌, ◌≤◌, ◌<◌}
use native.Mathlib.Decide.{dec_lt}
use native.Mathlib.Omega.{arith}
use borrow.Author.Tests.{le-leb, lt-leb}
use lib.Dec.{eqb, leb}
use lib.ListN.{get_or-eq_default}
use Rattle.literals.specs.Patterns.{Pattern, Cidr, Exact, IpRange, Wildcard}
use Rattle.expr.specs.Answers.{ok}
use Rattle.expr.specs.Terms.{Assigns, Matches, Tests, Use, Where}
use Rattle.expr.specs.Records.{Record}
use Rattle.expr.specs.Form.{pattern_of}
use Rattle.desugar.specs.Rules.{range_rule, use_rule}
use Rattle.desugar.specs.WalkWords.{where_of, use_of}
use Rattle.desugar.specs.RangedWords.{with_numbers}
use Rattle.desugar.proofs.LeafKinds.{alias_is, matches_outside}

-- a number above the last is used as another
pub used_as : (n last other : ℕ) → last < n → cond (leb n last) n other ≡ other
used_as n last other l = rw (lt-leb n last l) refl

pub used_itself : (n last other : ℕ) → n ≤ last → cond (leb n last) n other ≡ n
used_itself n last other l = rw (le-leb n last l) refl

module _ (h : Record) (kind pattern k p : ℕ) (is_kind : k ≡ cond (leb kind 26) kind 26) (is_pattern : p ≡ cond (leb pattern 3) pattern 0) where
  same_pattern : pattern_of (with_numbers h k p) ≡ pattern_of (with_numbers h kind pattern)
  same_pattern = go (dec_lt 3 pattern)
    where
      go : Dec (3 < pattern) → pattern_of (with_numbers h k p) ≡ pattern_of (with_numbers h kind pattern)
      go (yes l) =
          ap (λ (n : ℕ). pattern_of (with_numbers h k n)) (is_pattern ∙ used_as pattern 3 0 l)
          ∙ sym (get_or-eq_default (Exact h.lit_a ∷ Cidr h.lit_a h.number ∷ Wildcard h.lit_a h.lit_b ∷ IpRange h.lit_a h.lit_b ∷ []) (Exact h.lit_a) l)
      go (no l) = ap (λ (n : ℕ). pattern_of (with_numbers h k n)) (is_pattern ∙ used_itself pattern 3 0 (omega (arith, l)))

  pub same_use : use_of (with_numbers h k p) ≡ use_of (with_numbers h kind pattern)
  same_use = go (dec_lt 26 kind)
    where
      go : Dec (26 < kind) → use_of (with_numbers h k p) ≡ use_of (with_numbers h kind pattern)
      go (yes l) =
          ap (λ (n : ℕ). use_of (with_numbers h n p)) (is_kind ∙ used_as kind 26 26 l)
          ∙ ap Matches same_pattern
          ∙ sym (matches_outside (with_numbers h kind pattern) (inr (omega (arith, l))))
      go (no l) =
          ap (λ (n : ℕ). use_of (with_numbers h n p)) (is_kind ∙ used_itself kind 26 26 (omega (arith, l)))
          ∙ ap (λ (m : Pattern). cond (eqb kind 21 || eqb kind 23) (Assigns h.lit_a) (cond (eqb kind 22 || eqb kind 24) (Tests h.lit_a) (Matches m))) same_pattern

  pub same_where : where_of (with_numbers h k p) ≡ where_of (with_numbers h kind pattern)
  same_where = go (dec_lt 26 kind)
    where
      go : Dec (26 < kind) → where_of (with_numbers h k p) ≡ where_of (with_numbers h kind pattern)
      go (yes l) =
          ap (λ (n : ℕ). where_of (with_numbers h n p)) (is_kind ∙ used_as kind 26 26 l)
          ∙ sym (alias_is (with_numbers h kind pattern) (inr (omega (arith, l))))
      go (no l) = ap (λ (n : ℕ). where_of (with_numbers h n p)) (is_kind ∙ used_itself kind 26 26 (omega (arith, l)))

-- a use of n fields that keeps the rules keeps them on the fields from 0 up to n
pub kept_from_none : (w : Where) (u : Use) (n at : ℕ) → use_rule w u n at ≡ ok tt → range_rule w u (0, n) at ≡ ok tt
kept_from_none w u n at h =
    let all : n ≡ n - 0 = omega arith in
    rw (le-leb 0 n (omega arith)) (subst (λ m. use_rule w u m at ≡ ok tt) all h)
