-- A test relates a packet to itself or not, and which can be computed. So negation is right with no excluded middle.
use mathlib.Core.Path.{◌≡◌, refl, sym, ap, ap₂, ◌∙◌}
use mathlib.Core.Logic.{◌⊎◌, inl, inr, ◌↔◌}
use mathlib.Core.Bool.{Bool, true, false, cond, not, ◌&&◌, ◌||◌, beq, false≢true}
use Rattle.literals.proofs.Logic.{and_both, and_left, and_right, beq_is, or_cases, or_left, or_right}
use Rattle.expr.specs.Terms.{Assign, Atom, Core, Difference, Dup, End, Intersect, LtlUntil, One, Op2, Sequence, Test, Top, Union, Xor, Zero, atom_kind, leaf, one, op2_kind, test_kind, two}
use Rattle.desugar.specs.Negation.{again, is_one, is_test, join, negate}
use Rattle.desugar.specs.Packets.{Others, Packet, Relation, atom_means, core_means, op2_means}
pub use Rattle.desugar.specs.Packets.{passes_atom, passes_pair, passes}
use Rattle.desugar.proofs.Sorts.{test_of_negate}

-- two relations that relate the same packets
infix 15 ◌≈◌
abbrev pub ◌≈◌ : Relation → Relation → Type 0
◌≈◌ R S = (p q : Packet) → R p q ↔ S p q

-- R relates a packet only to itself, and where x says so
abbrev pub Filters : Relation → (Packet → Bool) → Type 0
Filters R x = (p q : Packet) → R p q ↔ ((p ≡ q) × (x p ≡ true))

not_true : (b : Bool) → (not b ≡ true) ↔ (¬ (b ≡ true))
not_true true = ((λ e. absurd (false≢true e)), (λ n. absurd (n refl)))
not_true false = ((λ e k. false≢true k), (λ n. refl))

module _ (others : Others) where
  filters_atom : (a : Atom) → test_kind (atom_kind a) ≡ true → Filters (atom_means others a) (passes_atom a)
  filters_atom Zero h p q = ((λ e. absurd e), (λ e. false≢true e.1))
  filters_atom One h p q = ((λ e. (e, refl)), (λ e. e.0))
  filters_atom Top h p q = absurd (false≢true h)
  filters_atom Dup h p q = absurd (false≢true h)
  filters_atom End h p q = absurd (false≢true h)
  filters_atom (Assign f v) h p q = absurd (false≢true h)
  filters_atom (Test f v) h p q = ((λ e. (e.0, (beq_is (p f) v).1 e.1)), (λ e. (e.0, (beq_is (p f) v).0 e.1)))

  module _ {R S : Relation} {x y : Packet → Bool} (f : Filters R x) (g : Filters S y) where
    filters_union : Filters (op2_means others Union R S) (λ p. x p || y p)
    filters_union p q = (there, back)
      where
        there : R p q ⊎ S p q → (p ≡ q) × ((x p || y p) ≡ true)
        there (inl r) = (((f p q).0 r).0, or_left (x p) (y p) ((f p q).0 r).1)
        there (inr s) = (((g p q).0 s).0, or_right (x p) (y p) ((g p q).0 s).1)

        pick : (p ≡ q) → (x p ≡ true) ⊎ (y p ≡ true) → R p q ⊎ S p q
        pick e (inl h) = inl ((f p q).1 (e, h))
        pick e (inr h) = inr ((g p q).1 (e, h))

        back : (p ≡ q) × ((x p || y p) ≡ true) → R p q ⊎ S p q
        back h = pick h.0 (or_cases (x p) (y p) h.1)

    filters_intersect : Filters (op2_means others Intersect R S) (λ p. x p && y p)
    filters_intersect p q = (
      (λ h. (((f p q).0 h.0).0, and_both ((f p q).0 h.0).1 ((g p q).0 h.1).1)),
      (λ h. ((f p q).1 (h.0, and_left (x p) (y p) h.1), (g p q).1 (h.0, and_right (x p) (y p) h.1))),
    )

    filters_difference : Filters (op2_means others Difference R S) (λ p. x p && not (y p))
    filters_difference p q = (
      (λ h. (((f p q).0 h.0).0, and_both ((f p q).0 h.0).1 ((not_true (y p)).1 (λ e. h.1 ((g p q).1 (((f p q).0 h.0).0, e)))))),
      (λ h. ((f p q).1 (h.0, and_left (x p) _ h.1), λ s. (not_true (y p)).0 (and_right (x p) _ h.1) ((g p q).0 s).1)),
    )

    filters_xor : Filters (op2_means others Xor R S) (λ p. not (beq (x p) (y p)))
    filters_xor p q = (there, λ h. back h.0 (x p) (y p) refl refl h.1)
      where
        differ : (a b : Bool) → ¬ (a ≡ b) → not (beq a b) ≡ true
        differ a b n = (not_true (beq a b)).1 (λ e. n ((beq_is a b).0 e))

        there : (R p q × ¬ S p q) ⊎ (¬ R p q × S p q) → (p ≡ q) × (not (beq (x p) (y p)) ≡ true)
        there (inl h) = (((f p q).0 h.0).0, differ (x p) (y p) (λ e. h.1 ((g p q).1 (((f p q).0 h.0).0, sym e ∙ ((f p q).0 h.0).1))))
        there (inr h) = (((g p q).0 h.1).0, differ (x p) (y p) (λ e. h.0 ((f p q).1 (((g p q).0 h.1).0, e ∙ ((g p q).0 h.1).1))))

        back : (p ≡ q) → (a b : Bool) → x p ≡ a → y p ≡ b → not (beq a b) ≡ true → (R p q × ¬ S p q) ⊎ (¬ R p q × S p q)
        back e true true m n d = absurd (false≢true d)
        back e true false m n d = inl ((f p q).1 (e, m), λ s. false≢true (sym n ∙ ((g p q).0 s).1))
        back e false true m n d = inr ((λ r. false≢true (sym m ∙ ((f p q).0 r).1)), (g p q).1 (e, n))
        back e false false m n d = absurd (false≢true d)

    filters_sequence : Filters (op2_means others Sequence R S) (λ p. x p && y p)
    filters_sequence p q = (
      (λ h. let e : p ≡ h.0 = ((f p h.0).0 h.1).0 in
          (e ∙ ((g h.0 q).0 h.2).0, and_both ((f p h.0).0 h.1).1 (ap y e ∙ ((g h.0 q).0 h.2).1))),
      (λ h. (p, (f p p).1 (refl, and_left (x p) (y p) h.1), (g p q).1 (h.0, and_right (x p) (y p) h.1))),
    )

  filters_pair : (o : Op2) → test_kind (op2_kind o) ≡ true → {R S : Relation} {x y : Packet → Bool} → Filters R x → Filters S y
      → Filters (op2_means others o R S) (λ p. passes_pair o (x p) (y p))
  filters_pair Union h f g = filters_union f g
  filters_pair Intersect h f g = filters_intersect f g
  filters_pair Xor h f g = filters_xor f g
  filters_pair Difference h f g = filters_difference f g
  filters_pair Sequence h f g = filters_sequence f g
  filters_pair LtlUntil h f g = absurd (false≢true h)

  -- the meaning of a core that is a test
  pub test_filters : (c : Core) → is_test c ≡ true → Filters (core_means others c) (passes c)
  test_filters (leaf a) h = filters_atom a h
  test_filters (one o c) h = absurd (false≢true h)
  test_filters (two o a b) h =
      filters_pair o (and_left (test_kind (op2_kind o)) _ h)
      (test_filters a (and_left (is_test a) _ (and_right (test_kind (op2_kind o)) _ h)))
      (test_filters b (and_right (is_test a) _ (and_right (test_kind (op2_kind o)) _ h)))

-- ## Negation and desugaring again

one_passes : (c : Core) → is_one c ≡ true → (p : Packet) → passes c p ≡ true
one_passes (leaf Zero) e p = e
one_passes (leaf One) e p = refl
one_passes (leaf Top) e p = e
one_passes (leaf Dup) e p = e
one_passes (leaf End) e p = e
one_passes (leaf (Assign f v)) e p = e
one_passes (leaf (Test f v)) e p = absurd (false≢true e)
one_passes (one o c) e p = e
one_passes (two o a b) e p = absurd (false≢true e)

and_true : (a : Bool) → (a && true) ≡ a
and_true true = refl
and_true false = refl

passes_sequence : (a b : Core) (p : Packet) (x y : Bool) → is_one a ≡ x → is_one b ≡ y
    → passes (cond x b (cond y a (two Sequence a b))) p ≡ (passes a p && passes b p)
passes_sequence a b p true y h k = rw (one_passes a h p)
passes_sequence a b p false true h k = rw (one_passes b k p) (sym (and_true (passes a p)))
passes_sequence a b p false false h k = refl

pub passes_join : (o : Op2) (a b : Core) (p : Packet) → passes (join o a b) p ≡ passes_pair o (passes a p) (passes b p)
passes_join Union a b p = refl
passes_join Intersect a b p = refl
passes_join Xor a b p = refl
passes_join Difference a b p = refl
passes_join Sequence a b p = passes_sequence a b p (is_one a) (is_one b) refl refl
passes_join LtlUntil a b p = refl

pub passes_again : (c : Core) (p : Packet) → passes (again c) p ≡ passes c p
passes_again (leaf a) p = refl
passes_again (one o c) p = refl
passes_again (two o a b) p = passes_join o (again a) (again b) p ∙ ap₂ (passes_pair o) (passes_again a p) (passes_again b p)

not_of_or : (x y : Bool) → (not x && not y) ≡ not (x || y)
not_of_or true y = refl
not_of_or false y = refl

not_of_and : (x y : Bool) → (not x || not y) ≡ not (x && y)
not_of_and true y = refl
not_of_and false y = refl

not_of_without : (x y : Bool) → (not x || y) ≡ not (x && not y)
not_of_without true true = refl
not_of_without true false = refl
not_of_without false y = refl

not_of_beq : (x y : Bool) → beq x (not y) ≡ not (beq x y)
not_of_beq true true = refl
not_of_beq true false = refl
not_of_beq false true = refl
not_of_beq false false = refl

pub passes_negate : (c : Core) → is_test c ≡ true → (p : Packet) → passes (negate c) p ≡ not (passes c p)
passes_negate (leaf Zero) h p = refl
passes_negate (leaf One) h p = refl
passes_negate (leaf Top) h p = absurd (false≢true h)
passes_negate (leaf Dup) h p = absurd (false≢true h)
passes_negate (leaf End) h p = absurd (false≢true h)
passes_negate (leaf (Assign f v)) h p = absurd (false≢true h)
passes_negate (leaf (Test f v)) h p = not_of_beq (p f) v
passes_negate (one o c) h p = absurd (false≢true h)
passes_negate (two Union a b) h p =
    ap₂ ◌&&◌ (passes_negate a (and_left (is_test a) _ h) p) (passes_negate b (and_right (is_test a) _ h) p) ∙ not_of_or (passes a p) (passes b p)
passes_negate (two Intersect a b) h p =
    ap₂ ◌||◌ (passes_negate a (and_left (is_test a) _ h) p) (passes_negate b (and_right (is_test a) _ h) p) ∙ not_of_and (passes a p) (passes b p)
passes_negate (two Xor a b) h p = refl
passes_negate (two Difference a b) h p =
    ap₂ ◌||◌ (passes_negate a (and_left (is_test a) _ h) p) (passes_again b p) ∙ not_of_without (passes a p) (passes b p)
passes_negate (two Sequence a b) h p =
    ap₂ ◌||◌ (passes_negate a (and_left (is_test a) _ h) p) (passes_negate b (and_right (is_test a) _ h) p) ∙ not_of_and (passes a p) (passes b p)
passes_negate (two LtlUntil a b) h p = absurd (false≢true h)

module _ (others : Others) where
  -- the negation of a test relates a packet to itself exactly where the test does not
  pub negate_means : (c : Core) → is_test c ≡ true → (p q : Packet) → core_means others (negate c) p q ↔ ((p ≡ q) × ¬ core_means others c p p)
  negate_means c h p q = (
    (λ m. (
      ((test_filters others (negate c) (test_of_negate c h) p q).0 m).0,
      λ m'. (not_true (passes c p)).0 (sym (passes_negate c h p) ∙ ((test_filters others (negate c) (test_of_negate c h) p q).0 m).1) ((test_filters others c h p p).0 m').1,
    )),
    (λ m. (test_filters others (negate c) (test_of_negate c h) p q).1
        (m.0, passes_negate c h p ∙ (not_true (passes c p)).1 (λ e. m.1 ((test_filters others c h p p).1 (refl, e))))),
  )
