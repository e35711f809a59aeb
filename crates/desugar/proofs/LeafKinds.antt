-- What the kind and the pattern of a record without children say.
use mathlib.Core.Path.{◌≡◌, refl, sym, ap, subst, ◌∙◌}
use mathlib.Core.Logic.{◌⊎◌, inl, inr}
use mathlib.Core.List.{[], ◌∷◌}
use Prim.Native.Nat.{ℕ, zero, suc, ◌+◌, ◌-◌, ◌≤◌, ◌<◌}
use native.Mathlib.Omega.{arith}
use native.Mathlib.Decide.{dec_lt}
use borrow.Author.Tests.{ne_eqb, le-leb, lt-leb}
use lib.ListN.{get_or}
use Rattle.expr.specs.Kinds.{kind_number}
use Rattle.expr.specs.declared.kind.Kind.{Kind}
use Rattle.expr.specs.declared.kind.Kind.TheVariants as kind
use Rattle.literals.specs.Patterns.{Cidr, Exact, IpRange, Wildcard}
use Rattle.expr.specs.Terms.{Alias, Assigns, Direct, Expr, Matches, Plain, Ranged, Tests, Var, Where}
use Rattle.expr.specs.Records.{Record}
use Rattle.expr.specs.Form.{Node, node0, node1, node2, node3, node_of, pattern_of}
use Rattle.expr.specs.Results.{arity_of, child_count}
use Rattle.expr.proofs.Arities.{arity_in, arity_is}
use Rattle.desugar.specs.Rules.{literal_rule, use_rule}
use Rattle.desugar.specs.WalkWords.{use_of, where_of}
use Rattle.desugar.specs.RangedWords.{atom_of}

-- ## A statement for each of n kinds from a first one on

abbrev pub AllBelow : ℕ → (ℕ → Type 0) → Type 0
AllBelow zero P = Unit {0}
AllBelow (suc n) P = P n × AllBelow n P

below : (n : ℕ) (P : ℕ → Type 0) → AllBelow n P → (i : ℕ) → i < n → P i
below zero P h i l = absurd (omega arith)
below (suc n) P h i l = go (dec_lt i n) (below n P h.1 i)
  where
    go : Dec (i < n) → (i < n → P i) → P i
    go (yes k) each = each k
    go (no k) each =
        let e : n ≡ i = omega arith in
        subst P e h.0

pub kinds_in : (first n : ℕ) (P : ℕ → Type 0) → AllBelow n (λ i. P (first + i)) → (k : ℕ) → first ≤ k → k < first + n → P k
kinds_in first n P h k l m =
    let e : first + (k - first) ≡ k = omega arith in
    subst P e (below n (λ i. P (first + i)) h (k - first) (omega arith))

-- the record h with another kind
abbrev pub of : Record → ℕ → Record
of h k =
    record {
      kind = k;
      name = h.name;
      start = h.start;
      end = h.end;
      pattern = h.pattern;
      number = h.number;
      lit_a = h.lit_a;
      lit_b = h.lit_b;
    }

-- a case of either side
pub sides : {A B C D : Type 0} → (A → C) → (B → D) → A ⊎ B → C ⊎ D
sides f g (inl a) = inl (f a)
sides f g (inr b) = inr (g b)

-- ## Patterns

pub cidr_is : (h : Record) → h.pattern ≡ 1 → pattern_of h ≡ Cidr h.lit_a h.number
cidr_is h e = rw e refl

pub wildcard_is : (h : Record) → h.pattern ≡ 2 → pattern_of h ≡ Wildcard h.lit_a h.lit_b
wildcard_is h e = rw e refl

pub values_is : (h : Record) → h.pattern ≡ 3 → pattern_of h ≡ IpRange h.lit_a h.lit_b
values_is h e = rw e refl

pub exact_is : (h : Record) → (h.pattern ≡ 1 → ⊥) → (h.pattern ≡ 2 → ⊥) → (h.pattern ≡ 3 → ⊥) → pattern_of h ≡ Exact h.lit_a
exact_is h one two three = go h.pattern one two three
  where
    go : (p : ℕ) → (p ≡ 1 → ⊥) → (p ≡ 2 → ⊥) → (p ≡ 3 → ⊥)
        → get_or (Exact h.lit_a ∷ Cidr h.lit_a h.number ∷ Wildcard h.lit_a h.lit_b ∷ IpRange h.lit_a h.lit_b ∷ []) p (Exact h.lit_a) ≡ Exact h.lit_a
    go zero a b c = refl
    go (suc zero) a b c = absurd (a refl)
    go (suc (suc zero)) a b c = absurd (b refl)
    go (suc (suc (suc zero))) a b c = absurd (c refl)
    go (suc (suc (suc (suc p)))) a b c = refl

-- ## Uses

-- kinds 21 to 24 have a literal
pub literal_use : (h : Record) → 21 ≤ h.kind → h.kind ≤ 24 → (w : Where) (n at : ℕ) → use_rule w (use_of h) n at ≡ literal_rule w h.lit_a n at
literal_use h l m w n at =
    kinds_in 21 4 (λ k. use_rule w (use_of (of h k)) n at ≡ literal_rule w h.lit_a n at) (refl, (refl, (refl, (refl, tt)))) h.kind l (omega arith)

pub assigns_is : (h : Record) → (h.kind ≡ 21) ⊎ (h.kind ≡ 23) → use_of h ≡ Assigns h.lit_a
assigns_is h (inl e) = rw e refl
assigns_is h (inr e) = rw e refl

pub tests_is : (h : Record) → (h.kind ≡ 22) ⊎ (h.kind ≡ 24) → use_of h ≡ Tests h.lit_a
tests_is h (inl e) = rw e refl
tests_is h (inr e) = rw e refl

-- all others have a pattern
pub matches_is : (h : Record) → ((h.kind ≡ 21) ⊎ (h.kind ≡ 23) → ⊥) → ((h.kind ≡ 22) ⊎ (h.kind ≡ 24) → ⊥) → use_of h ≡ Matches (pattern_of h)
matches_is h a b =
    rw (ne_eqb h.kind 21 (λ e. a (inl e)), ne_eqb h.kind 23 (λ e. a (inr e)), ne_eqb h.kind 22 (λ e. b (inl e)), ne_eqb h.kind 24 (λ e. b (inr e))) refl

pub matches_outside : (h : Record) → (h.kind < 21) ⊎ (25 ≤ h.kind) → use_of h ≡ Matches (pattern_of h)
matches_outside h o = matches_is h (no (omega arith, omega arith, omega arith, omega arith) o) (no (omega arith, omega arith, omega arith, omega arith) o)
  where
    no : {a b : ℕ} → (21 ≤ a) × (a < 25) × (21 ≤ b) × (b < 25) → (h.kind < 21) ⊎ (25 ≤ h.kind) → (h.kind ≡ a) ⊎ (h.kind ≡ b) → ⊥
    no r (inl l) (inl e) = omega arith
    no r (inl l) (inr e) = omega arith
    no r (inr l) (inl e) = omega arith
    no r (inr l) (inr e) = omega arith

-- ## Ranges

pub direct_is : (h : Record) → 23 ≤ h.kind → h.kind ≤ 25 → where_of h ≡ Direct h.start h.end
direct_is h l m = rw (le-leb 23 h.kind l, le-leb h.kind 25 m) refl

pub alias_is : (h : Record) → (h.kind < 23) ⊎ (25 < h.kind) → where_of h ≡ Alias h.name
alias_is h (inl l) = rw (lt-leb 23 h.kind l) refl
alias_is h (inr m) = rw (le-leb 23 h.kind (omega arith), lt-leb h.kind 25 m) refl

-- ## Nodes without children

same_node : {e f : Expr} → node0 e ≡ node0 f → e ≡ f
same_node {e} {f} h = ap (λ (n : Node). term_of n) h
  where
    term_of : Node → Expr
    term_of (node0 t) = t
    term_of (node1 g) = e
    term_of (node2 g) = e
    term_of (node3 g) = e

pub plain_is : (h : Record) (e : Expr) → h.kind ≤ 6 → node_of h ≡ node0 e → Plain (atom_of h) ≡ e
plain_is h e l n =
    same_node
    (sym (kinds_in 0 7 (λ k. node_of (of h k) ≡ node0 (Plain (atom_of (of h k)))) (refl, (refl, (refl, (refl, (refl, (refl, (refl, tt))))))) h.kind (omega arith) (omega arith)) ∙ n)

pub variable_is : (h : Record) (e : Expr) → h.kind ≡ 20 → node_of h ≡ node0 e → Var h.name ≡ e
variable_is h e k n = same_node (sym (ap (λ j. node_of (of h j)) k) ∙ n)

pub ranged_is : (h : Record) (e : Expr) → 6 < h.kind → h.kind ≤ 26 → (h.kind ≡ 20 → ⊥) → node_of h ≡ node0 e → Ranged (where_of h) (use_of h) ≡ e
ranged_is h e l m v n = go (dec_lt h.kind 20)
  where
    none : 0 ≡ arity_of h.kind
    none = sym (ap child_count n) ∙ arity_is h

    branches : Dec (h.kind < 13) → Dec (h.kind < 17) → Dec (h.kind < 18) → Dec (h.kind < 19) → h.kind < 20 → ⊥
    branches (yes a) b c d k = omega (arith, none, arity_in 7 6 2 refl h.kind (omega arith) (omega arith))
    branches (no a) (yes b) c d k = omega (arith, none, arity_in 13 4 1 refl h.kind (omega arith) (omega arith))
    branches (no a) (no b) (yes c) d k = omega (arith, none, arity_in 17 1 3 refl h.kind (omega arith) (omega arith))
    branches (no a) (no b) (no c) (yes d) k = omega (arith, none, arity_in 18 1 2 refl h.kind (omega arith) (omega arith))
    branches (no a) (no b) (no c) (no d) k = omega (arith, none, arity_in 19 1 1 refl h.kind (omega arith) (omega arith))

    go : Dec (h.kind < 20) → Ranged (where_of h) (use_of h) ≡ e
    go (yes k) = absurd (branches (dec_lt h.kind 13) (dec_lt h.kind 17) (dec_lt h.kind 18) (dec_lt h.kind 19) k)
    go (no k) =
        same_node
        (sym (kinds_in 21 6 (λ j. node_of (of h j) ≡ node0 (Ranged (where_of (of h j)) (use_of (of h j)))) (refl, (refl, (refl, (refl, (refl, (refl, tt)))))) h.kind (omega arith) (omega arith)) ∙ n)

-- ## By the kind that was read

pub atom_small : (k : Kind) → (k ≡ kind.Zero) ⊎ ((k ≡ kind.One) ⊎ ((k ≡ kind.Top) ⊎ ((k ≡ kind.Dup) ⊎ ((k ≡ kind.End) ⊎ ((k ≡ kind.Assign) ⊎ (k ≡ kind.Test)))))) → kind_number k ≤ 6
atom_small k (inl e) = omega (arith, ap kind_number e)
atom_small k (inr (inl e)) = omega (arith, ap kind_number e)
atom_small k (inr (inr (inl e))) = omega (arith, ap kind_number e)
atom_small k (inr (inr (inr (inl e)))) = omega (arith, ap kind_number e)
atom_small k (inr (inr (inr (inr (inl e))))) = omega (arith, ap kind_number e)
atom_small k (inr (inr (inr (inr (inr (inl e)))))) = omega (arith, ap kind_number e)
atom_small k (inr (inr (inr (inr (inr (inr e)))))) = omega (arith, ap kind_number e)

-- a kind that is no atom's and no variable's
module _ (k : Kind) (not_Zero : k ≡ kind.Zero → ⊥) (not_One : k ≡ kind.One → ⊥) (not_Top : k ≡ kind.Top → ⊥) (not_Dup : k ≡ kind.Dup → ⊥) (not_End : k ≡ kind.End → ⊥) (not_Assign : k ≡ kind.Assign → ⊥) (not_Test : k ≡ kind.Test → ⊥) (not_Var : k ≡ kind.Var → ⊥) where
  pub above_atoms : (6 < kind_number k) × (kind_number k ≡ 20 → ⊥)
  above_atoms = go k refl
    where
      go : (j : Kind) → k ≡ j → (6 < kind_number j) × (kind_number j ≡ 20 → ⊥)
      go kind.Zero e = absurd (not_Zero e)
      go kind.One e = absurd (not_One e)
      go kind.Top e = absurd (not_Top e)
      go kind.Dup e = absurd (not_Dup e)
      go kind.End e = absurd (not_End e)
      go kind.Assign e = absurd (not_Assign e)
      go kind.Test e = absurd (not_Test e)
      go kind.Union e = (omega arith, λ z. omega (arith, z))
      go kind.Intersect e = (omega arith, λ z. omega (arith, z))
      go kind.Xor e = (omega arith, λ z. omega (arith, z))
      go kind.Difference e = (omega arith, λ z. omega (arith, z))
      go kind.Sequence e = (omega arith, λ z. omega (arith, z))
      go kind.LtlUntil e = (omega arith, λ z. omega (arith, z))
      go kind.Complement e = (omega arith, λ z. omega (arith, z))
      go kind.Star e = (omega arith, λ z. omega (arith, z))
      go kind.LtlNext e = (omega arith, λ z. omega (arith, z))
      go kind.TestNegation e = (omega arith, λ z. omega (arith, z))
      go kind.IfThenElse e = (omega arith, λ z. omega (arith, z))
      go kind.Let e = (omega arith, λ z. omega (arith, z))
      go kind.LetBitRange e = (omega arith, λ z. omega (arith, z))
      go kind.Var e = absurd (not_Var e)
      go kind.VarAssign e = (omega arith, λ z. omega (arith, z))
      go kind.VarTest e = (omega arith, λ z. omega (arith, z))
      go kind.BitRangeAssign e = (omega arith, λ z. omega (arith, z))
      go kind.BitRangeTest e = (omega arith, λ z. omega (arith, z))
      go kind.BitRangeMatch e = (omega arith, λ z. omega (arith, z))
      go kind.VarMatch e = (omega arith, λ z. omega (arith, z))

-- the kinds of a use with a literal, and the others
pub literal_kind : (k : Kind) → (k ≡ kind.VarAssign) ⊎ ((k ≡ kind.VarTest) ⊎ ((k ≡ kind.BitRangeAssign) ⊎ (k ≡ kind.BitRangeTest))) → (21 ≤ kind_number k) × (kind_number k ≤ 24)
literal_kind k (inl e) = (omega (arith, ap kind_number e), omega (arith, ap kind_number e))
literal_kind k (inr (inl e)) = (omega (arith, ap kind_number e), omega (arith, ap kind_number e))
literal_kind k (inr (inr (inl e))) = (omega (arith, ap kind_number e), omega (arith, ap kind_number e))
literal_kind k (inr (inr (inr e))) = (omega (arith, ap kind_number e), omega (arith, ap kind_number e))

module _ (k : Kind) (not_VarAssign : k ≡ kind.VarAssign → ⊥) (not_VarTest : k ≡ kind.VarTest → ⊥) (not_BitRangeAssign : k ≡ kind.BitRangeAssign → ⊥) (not_BitRangeTest : k ≡ kind.BitRangeTest → ⊥) where
  pub no_literal : (kind_number k < 21) ⊎ (25 ≤ kind_number k)
  no_literal = go k refl
    where
      go : (j : Kind) → k ≡ j → (kind_number j < 21) ⊎ (25 ≤ kind_number j)
      go kind.Zero e = inl (omega arith)
      go kind.One e = inl (omega arith)
      go kind.Top e = inl (omega arith)
      go kind.Dup e = inl (omega arith)
      go kind.End e = inl (omega arith)
      go kind.Assign e = inl (omega arith)
      go kind.Test e = inl (omega arith)
      go kind.Union e = inl (omega arith)
      go kind.Intersect e = inl (omega arith)
      go kind.Xor e = inl (omega arith)
      go kind.Difference e = inl (omega arith)
      go kind.Sequence e = inl (omega arith)
      go kind.LtlUntil e = inl (omega arith)
      go kind.Complement e = inl (omega arith)
      go kind.Star e = inl (omega arith)
      go kind.LtlNext e = inl (omega arith)
      go kind.TestNegation e = inl (omega arith)
      go kind.IfThenElse e = inl (omega arith)
      go kind.Let e = inl (omega arith)
      go kind.LetBitRange e = inl (omega arith)
      go kind.Var e = inl (omega arith)
      go kind.VarAssign e = absurd (not_VarAssign e)
      go kind.VarTest e = absurd (not_VarTest e)
      go kind.BitRangeAssign e = absurd (not_BitRangeAssign e)
      go kind.BitRangeTest e = absurd (not_BitRangeTest e)
      go kind.BitRangeMatch e = inr (omega arith)
      go kind.VarMatch e = inr (omega arith)
