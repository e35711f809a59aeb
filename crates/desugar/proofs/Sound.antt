-- Desugaring keeps the meaning: where it succeeds, with or without limit, the core relates the packets that the written term relates.
use mathlib.Core.Path.{◌≡◌, refl, sym, subst, ap}
use mathlib.Core.Logic.Iff
use mathlib.Core.Logic.{◌⊎◌, inl, inr, ◌↔◌}
use mathlib.Core.Bool.{Bool, true, false, cond, false≢true}
use mathlib.Core.Option.{Option, none, some, get_or}
use mathlib.Core.List.{[], ◌∷◌}
use Prim.Native.Nat.{ℕ, ◌+◌, ◌-◌}
use lib.Dec.{leb, eqb}
use Rattle.expr.specs.Answers.{Answer, and_then, ok, refuse}
use Rattle.expr.specs.Terms.{Alias, Assign, Binary, Complement, Core, Difference, Direct, Dup, End, Expr, IfThenElse, Intersect, Let, LetBitRange, LtlNext, LtlUntil, Name, One, Op1, Op2, Plain, Ranged, Sequence, Star, Test, TestNegation, Top, Unary, Union, Use, Var, Where, Xor, Zero, leaf, one, op1_kind, op2_kind, records, size, two}
use Rattle.desugar.specs.Bindings.{Env, lookup_alias, lookup_variable, range, variable}
use Rattle.desugar.specs.Desugar.{desugar}
use Rattle.desugar.specs.Leaves.{use_core}
use Rattle.desugar.specs.Meter.{Draws, Meter, ◌>>=◌, drawing, left, lift, spent}
use Rattle.desugar.specs.Negation.{is_one, is_test, join, join_draw, negate}
use Rattle.desugar.specs.Packets.{OneStep, Others, Packet, Relation, Rounds, core_means, done, means, more, one_step, op1_means, op2_means, range_means, use_means}
use Rattle.desugar.specs.Rules.{bound_variable, known_range, range_rule}
use Rattle.desugar.proofs.Decides.{Decides, fails, holds, need_decides, range_decides}
use Rattle.desugar.proofs.Patterns.{use_means_fact}
use Rattle.desugar.proofs.Tests.{◌≈◌, negate_means, passes, test_filters}

-- ## Results of steps that may draw

-- P holds of a result, if there is one
abbrev pub IfOk : {A : Type 0} → (A → Type 0) → Answer (A × Meter) → Type 0
IfOk P (ok r) = P r.0
IfOk P (refuse r at) = Unit {0}

abbrev pub Gives : {A : Type 0} → (A → Type 0) → Draws A → Type 0
Gives P m = (k : Meter) → IfOk P (m k)

bind_ok : {A B : Type 0} (P : A → Type 0) (Q : B → Type 0) (x : Answer (A × Meter)) (h : A → Draws B)
    → IfOk P x → ((a : A) → P a → Gives Q (h a)) → IfOk Q (and_then x (λ r. h r.0 r.1))
bind_ok P Q (ok r) h p g = g r.0 p r.1
bind_ok P Q (refuse r at) h p g = tt

bind_gives : {A B : Type 0} (P : A → Type 0) (Q : B → Type 0) (m : Draws A) (h : A → Draws B)
    → Gives P m → ((a : A) → P a → Gives Q (h a)) → Gives Q (m >>= h)
bind_gives P Q m h p g k = bind_ok P Q (m k) h (p k) g

if_cond : {A : Type 0} (P : A → Type 0) (b : Bool) (a : A) (k : Meter) (at : ℕ) → P a → IfOk P (cond b (ok (a, k)) (refuse 24 at))
if_cond P true a k at p = p
if_cond P false a k at p = tt

draw_gives : {A : Type 0} (P : A → Type 0) (n at : ℕ) (a : A) → P a → Gives P (drawing n at a)
draw_gives P n at a p (spent k) = p
draw_gives P n at a p (left k) = if_cond P (leb n k) a (left (k - n)) at p

-- after a rule, which is known to hold from there on
rule_gives : {P : Type 0} {B : Type 0} (Q : B → Type 0) {x : Answer (Unit {0})} (h : Draws B)
    → Decides P tt x → (P → Gives Q h) → Gives Q (lift x >>= (λ _. h))
rule_gives Q h (holds p) g k = g p k
rule_gives Q h (fails r at n) g k = tt

rounds_map : {R S : Relation} → ((p q : Packet) → R p q → S p q) → {p q : Packet} → Rounds R p q → Rounds S p q
rounds_map f (done e) = done e
rounds_map f (more r rs) = more (f _ _ r) (rounds_map f rs)

module _ (others : Others) where
  -- ## The operators

  op1_same : (o : Op1) → one_step (op1_kind o) ≡ true → {R S : Relation} → R ≈ S → op1_means others o R ≈ op1_means others o S
  op1_same Complement k h p q = absurd (false≢true k)
  op1_same Star k h p q = (rounds_map (λ p q. (h p q).0), rounds_map (λ p q. (h p q).1))
  op1_same LtlNext k h p q = absurd (false≢true k)

  op2_map : (o : Op2) → one_step (op2_kind o) ≡ true → (R S R' S' : Relation) → R ≈ R' → S ≈ S' → (p q : Packet) → op2_means others o R S p q → op2_means others o R' S' p q
  op2_map Union k R S R' S' f g p q (inl r) = inl ((f p q).0 r)
  op2_map Union k R S R' S' f g p q (inr s) = inr ((g p q).0 s)
  op2_map Intersect k R S R' S' f g p q h = ((f p q).0 h.0, (g p q).0 h.1)
  op2_map Xor k R S R' S' f g p q (inl h) = inl ((f p q).0 h.0, λ s. h.1 ((g p q).1 s))
  op2_map Xor k R S R' S' f g p q (inr h) = inr ((λ r. h.0 ((f p q).1 r)), (g p q).0 h.1)
  op2_map Difference k R S R' S' f g p q h = ((f p q).0 h.0, λ s. h.1 ((g p q).1 s))
  op2_map Sequence k R S R' S' f g p q h = (h.0, (f p h.0).0 h.1, (g h.0 q).0 h.2)
  op2_map LtlUntil k R S R' S' f g p q h = absurd (false≢true k)

  swapped : {R S : Relation} → R ≈ S → S ≈ R
  swapped h p q = ((h p q).1, (h p q).0)

  op2_same : (o : Op2) → one_step (op2_kind o) ≡ true → (R S R' S' : Relation) → R ≈ R' → S ≈ S' → op2_means others o R S ≈ op2_means others o R' S'
  op2_same o k R S R' S' f g p q = (op2_map o k R S R' S' f g p q, op2_map o k R' S' R S (swapped f) (swapped g) p q)

  -- a core that is One relates a packet to itself alone
  one_means : (c : Core) → is_one c ≡ true → (p q : Packet) → core_means others c p q ↔ (p ≡ q)
  one_means (leaf Zero) h p q = absurd (false≢true h)
  one_means (leaf One) h p q = Iff.rfl
  one_means (leaf Top) h p q = absurd (false≢true h)
  one_means (leaf Dup) h p q = absurd (false≢true h)
  one_means (leaf End) h p q = absurd (false≢true h)
  one_means (leaf (Assign f v)) h p q = absurd (false≢true h)
  one_means (leaf (Test f v)) h p q = absurd (false≢true h)
  one_means (one o c) h p q = absurd (false≢true h)
  one_means (two o a b) h p q = absurd (false≢true h)

  sequence_means : (a b : Core) (x y : Bool) → is_one a ≡ x → is_one b ≡ y
      → core_means others (cond x b (cond y a (two Sequence a b))) ≈ op2_means others Sequence (core_means others a) (core_means others b)
  sequence_means a b true y h k p q = (
    (λ m. (p, (one_means a h p p).1 refl, m)),
    (λ m. subst (λ r. core_means others b r q) (sym ((one_means a h p m.0).0 m.1)) m.2),
  )
  sequence_means a b false true h k p q = (
    (λ m. (q, m, (one_means b k q q).1 refl)),
    (λ m. subst (λ r. core_means others a p r) ((one_means b k m.0 q).0 m.2) m.1),
  )
  sequence_means a b false false h k p q = Iff.rfl

  join_means : (o : Op2) (a b : Core) → core_means others (join o a b) ≈ op2_means others o (core_means others a) (core_means others b)
  join_means Union a b p q = Iff.rfl
  join_means Intersect a b p q = Iff.rfl
  join_means Xor a b p q = Iff.rfl
  join_means Difference a b p q = Iff.rfl
  join_means Sequence a b p q = sequence_means a b (is_one a) (is_one b) refl refl p q
  join_means LtlUntil a b p q = Iff.rfl

  -- ## The walk

  -- bindings that agree: each variable's core relates the packets that its meaning relates, if its definition has only one-step kinds,
  -- and the aliases are the same
  pub data EnvMeans : Env Core → Env Relation → Env (Type 0) → Type 1 where
    nothing : EnvMeans [] [] []
    variables : {x : Name} {c : Core} {R : Relation} {P : Type 0} {cs : Env Core} {Rs : Env Relation} {Ps : Env (Type 0)}
        → (P → core_means others c ≈ R) → EnvMeans cs Rs Ps → EnvMeans (variable x c ∷ cs) (variable x R ∷ Rs) (variable x P ∷ Ps)
    ranges : {x : Name} {s e : ℕ} {cs : Env Core} {Rs : Env Relation} {Ps : Env (Type 0)}
        → EnvMeans cs Rs Ps → EnvMeans (range x s e ∷ cs) (range x s e ∷ Rs) (range x s e ∷ Ps)

  alias_same : (x : Name) {cs : Env Core} {Rs : Env Relation} {Ps : Env (Type 0)} → EnvMeans cs Rs Ps → lookup_alias cs x ≡ lookup_alias Rs x
  alias_same x nothing = refl
  alias_same x (variables h hs) = alias_same x hs
  alias_same x (ranges {x = y} {s = s} {e = e} hs) = ap (cond (eqb x y) (some (s, e))) (alias_same x hs)

  data Looked : Option Core → Option Relation → Option (Type 0) → Type 1 where
    found : {c : Core} {R : Relation} {P : Type 0} → (P → core_means others c ≈ R) → Looked (some c) (some R) (some P)
    missing : Looked none none none

  nearest : (b : Bool) (c : Core) (R : Relation) (P : Type 0) {o : Option Core} {o' : Option Relation} {o'' : Option (Type 0)}
      → (P → core_means others c ≈ R) → Looked o o' o'' → Looked (cond b (some c) o) (cond b (some R) o') (cond b (some P) o'')
  nearest true c R P h k = found h
  nearest false c R P h k = k

  variable_same : (x : Name) {cs : Env Core} {Rs : Env Relation} {Ps : Env (Type 0)} → EnvMeans cs Rs Ps
      → Looked (lookup_variable cs x) (lookup_variable Rs x) (lookup_variable Ps x)
  variable_same x nothing = missing
  variable_same x (variables {x = y} {c = c} {R = R} {P = P} h hs) = nearest (eqb x y) c R P h (variable_same x hs)
  variable_same x (ranges hs) = variable_same x hs

  range_gives : (w : Where) (u : Use) (o : Option (ℕ × ℕ)) (at : ℕ)
      → Gives (λ c. Unit {0} → core_means others c ≈ range_means others u o)
      (lift (known_range o at) >>= (λ r. lift (range_rule w u r at) >>= λ _. drawing (size (use_core u r.0 (r.1 - r.0))) at (use_core u r.0 (r.1 - r.0))))
  range_gives w u (some r) at =
      rule_gives (λ c. Unit {0} → core_means others c ≈ use_means others u r.0 (r.1 - r.0)) _ (range_decides w u r at) (λ h.
      draw_gives (λ c. Unit {0} → core_means others c ≈ use_means others u r.0 (r.1 - r.0)) _ at (use_core u r.0 (r.1 - r.0)) (λ _. use_means_fact others w u r h))
  range_gives w u none at = λ k. tt

  variable_gives : {o : Option Core} {R : Option Relation} {P : Option (Type 0)} (r : Option (ℕ × ℕ)) (at : ℕ) → Looked o R P
      → Gives (λ c. get_or P (Unit {0}) → core_means others c ≈ get_or R (λ p q. ⊥)) (lift (bound_variable o r at) >>= (λ c. drawing (size c) at c))
  variable_gives r at (found {c} {R} {P} h) = draw_gives (λ c. P → core_means others c ≈ R) (size c) at c h
  variable_gives (some r) at missing = λ k. tt
  variable_gives none at missing = λ k. tt

  -- a desugared condition, its negation and two desugared branches
  if_means : (c t e : Core) (C T E : Relation) → is_test c ≡ true → core_means others c ≈ C → core_means others t ≈ T → core_means others e ≈ E
      → core_means others (two Union (two Sequence c t) (two Sequence (negate c) e)) ≈ (λ p q. (C p p × T p q) ⊎ (¬ C p p × E p q))
  if_means c t e C T E h f g k p q = (there, back)
    where
      n : (r : Packet) → core_means others (negate c) p r ↔ ((p ≡ r) × ¬ core_means others c p p)
      n r = negate_means others c h p r

      there : core_means others (two Union (two Sequence c t) (two Sequence (negate c) e)) p q → (C p p × T p q) ⊎ (¬ C p p × E p q)
      there (inl m) =
          let z : (p ≡ m.0) × (passes c p ≡ true) = (test_filters others c h p m.0).0 m.1 in
          inl ((f p p).0 ((test_filters others c h p p).1 (refl, z.1)), subst (λ r. T r q) (sym z.0) ((g m.0 q).0 m.2))
      there (inr m) =
          let z : (p ≡ m.0) × ¬ core_means others c p p = (n m.0).0 m.1 in
          inr ((λ y. z.1 ((f p p).1 y)), subst (λ r. E r q) (sym z.0) ((k m.0 q).0 m.2))

      back : (C p p × T p q) ⊎ (¬ C p p × E p q) → core_means others (two Union (two Sequence c t) (two Sequence (negate c) e)) p q
      back (inl m) = inl (p, (f p p).1 m.0, (g p q).1 m.1)
      back (inr m) = inr (p, (n p).1 (refl, λ y. m.0 ((f p p).0 y)), (k p q).1 m.1)

  joined_means : (o : Op2) → one_step (op2_kind o) ≡ true → (c d : Core) (R S : Relation) → core_means others c ≈ R → core_means others d ≈ S → core_means others (join o c d) ≈ op2_means others o R S
  joined_means o k c d R S f g p q = Iff.trans (join_means o c d p q) (op2_same o k (core_means others c) (core_means others d) R S f g p q)

  not_means : (c : Core) (R : Relation) → is_test c ≡ true → core_means others c ≈ R → core_means others (negate c) ≈ (λ p q. (p ≡ q) × ¬ R p p)
  not_means c R h f p q =
      Iff.trans (negate_means others c h p q) ((λ m. (m.0, λ r. m.1 ((f p p).1 r))), (λ m. (m.0, λ r. m.1 ((f p p).0 r))))

  -- a core relates the packets that the written term relates, if the term has only one-step kinds
  abbrev Kept : Env Relation → Env (Type 0) → Expr → Core → Type 0
  Kept Rs Ps e c = OneStep Ps e → core_means others c ≈ means others Rs e

  pub desugar_means : {cs : Env Core} {Rs : Env Relation} {Ps : Env (Type 0)} → EnvMeans cs Rs Ps → (e : Expr) (at : ℕ)
      → Gives (λ c. OneStep Ps e → core_means others c ≈ means others Rs e) (desugar cs e at)
  desugar_means {cs} {Rs} {Ps} hs (Plain a) at = draw_gives (Kept Rs Ps (Plain a)) 1 at (leaf a) (λ h p q. Iff.rfl)
  desugar_means {cs} {Rs} {Ps} hs (Unary o e) at =
      bind_gives (Kept Rs Ps e) (Kept Rs Ps (Unary o e)) (desugar cs e (at + 1)) _ (desugar_means hs e (at + 1)) (λ c f.
      draw_gives (Kept Rs Ps (Unary o e)) 1 at (one o c) (λ h. op1_same o h.0 (f h.1)))
  desugar_means {cs} {Rs} {Ps} hs (Binary o a b) at =
      bind_gives (Kept Rs Ps a) (Kept Rs Ps (Binary o a b)) (desugar cs a (at + 1)) _ (desugar_means hs a (at + 1)) (λ c f.
      bind_gives (Kept Rs Ps b) (Kept Rs Ps (Binary o a b)) (desugar cs b (at + 1 + records a)) _ (desugar_means hs b (at + 1 + records a)) (λ d g.
      draw_gives (Kept Rs Ps (Binary o a b)) (join_draw o c d) at (join o c d)
      (λ h. joined_means o h.0 c d (means others Rs a) (means others Rs b) (f h.1) (g h.2))))
  desugar_means {cs} {Rs} {Ps} hs (TestNegation e) at =
      bind_gives (Kept Rs Ps e) (Kept Rs Ps (TestNegation e)) (desugar cs e (at + 1)) _ (desugar_means hs e (at + 1)) (λ c f.
      rule_gives (Kept Rs Ps (TestNegation e)) _ (need_decides (is_test c) 22 at) (λ t.
      draw_gives (Kept Rs Ps (TestNegation e)) (size (negate c)) at (negate c) (λ h. not_means c (means others Rs e) t (f h))))
  desugar_means {cs} {Rs} {Ps} hs (IfThenElse c t e) at =
      let Q : Core → Type 0 = Kept Rs Ps (IfThenElse c t e) in
      bind_gives (Kept Rs Ps c) Q (desugar cs c (at + 1)) _ (desugar_means hs c (at + 1)) (λ c' f.
      bind_gives (Kept Rs Ps t) Q (desugar cs t (at + 1 + records c)) _ (desugar_means hs t (at + 1 + records c)) (λ t' g.
      bind_gives (Kept Rs Ps e) Q (desugar cs e (at + 1 + records c + records t)) _ (desugar_means hs e (at + 1 + records c + records t)) (λ e' k.
      rule_gives Q _ (need_decides (is_test c') 23 at) (λ s.
      draw_gives Q (size (negate c') + 3) at (two Union (two Sequence c' t') (two Sequence (negate c') e'))
      (λ h. if_means c' t' e' (means others Rs c) (means others Rs t) (means others Rs e) s (f h.0) (g h.1) (k h.2))))))
  desugar_means {cs} {Rs} {Ps} hs (Let x d b) at =
      bind_gives (Kept Rs Ps d) (Kept Rs Ps (Let x d b)) (desugar cs d (at + 1)) _ (desugar_means hs d (at + 1)) (λ c f.
      desugar_means {cs = variable x c ∷ cs} {Rs = variable x (means others Rs d) ∷ Rs} {Ps = variable x (OneStep Ps d) ∷ Ps} (variables f hs) b (at + 1 + records d))
  desugar_means {cs} {Rs} {Ps} hs (LetBitRange x s e b) at = desugar_means {cs = range x s e ∷ cs} {Rs = range x s e ∷ Rs} {Ps = range x s e ∷ Ps} (ranges hs) b (at + 1)
  desugar_means {cs} {Rs} {Ps} hs (Var x) at = variable_gives (lookup_alias cs x) at (variable_same x hs)
  desugar_means {cs} {Rs} {Ps} hs (Ranged (Direct s e) u) at = range_gives (Direct s e) u (some (s, e)) at
  desugar_means {cs} {Rs} {Ps} hs (Ranged (Alias x) u) at = rw (← (alias_same x hs)) (range_gives (Alias x) u (lookup_alias cs x) at)
