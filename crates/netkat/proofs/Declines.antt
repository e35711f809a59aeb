-- By which number and at which place each operation declines: the causes in specs/Demands.antt are exactly the refusals of the definitions,
-- and no refusal has the number 0.
use mathlib.Core.Path.{◌≡◌, refl, sym, ap, subst, ◌∙◌}
use mathlib.Core.Logic.{◌↔◌, inl, inr}
use mathlib.Core.Bool.{Bool, true, false, ◌&&◌, false≢true}
use mathlib.Core.List.{List, []}
use Prim.Native.Nat.{ℕ, ◌+◌, ◌-◌, ◌*◌, ◌^◌, ◌≤◌, ◌<◌}
use native.Mathlib.Decide.{dec_lt}
use native.Mathlib.Omega.{arith}
use lib.Dec.{leb, ltb}
use lib.ListN.{length}
use borrow.Author.Tests.{lt-leb, lt-ltb, ltb-true}
use Rattle.literals.specs.Patterns.{Pattern}
use Rattle.literals.proofs.Logic.{and_iff, false_of, leb_is, not_le_of}
use Rattle.expr.specs.Answers.{Answer, and_then, map_answer, need, ok, refuse}
use Rattle.expr.specs.Form.{decode, encode, encode_core, max_depth, max_records, written}
use Rattle.expr.specs.Operations.{fields_bytes, fragment_bytes, into_room, is_test_fragment, num_fields, raised, substitute, substitute_bytes}
use Rattle.expr.specs.Terms.{Core, Direct, Expr, Matches, Name, depth, records, size}
use Rattle.expr.proofs.Refusals.{decode_numbers}
use Rattle.desugar.specs.Bindings.{compute_subrange}
use Rattle.desugar.specs.Claims.{Limit}
use Rattle.desugar.specs.Costs.{cost, pattern_cost}
use Rattle.desugar.specs.Desugar.{desugar, desugar_bytes, work_for}
use Rattle.desugar.specs.Meter.{drawn, left, spent}
use Rattle.desugar.specs.Negation.{is_test}
use Rattle.desugar.specs.Rules.{range_rule}
use Rattle.desugar.proofs.Limit.{Costs, desugar_costs, draws_of, gives, limit_of, limited, stops}
use Rattle.costs.specs.Lent.{lent_cost, lent_pattern}
use Rattle.cores.specs.Claims.{CoreNumber}
use Rattle.cores.specs.Reading.{decode_core, into_list, read_core}
use Rattle.cores.proofs.CorePlaces.{core_numbers, number_some}
use Rattle.packets.specs.Running.{max_packets, packet_bytes, passing, run_packets, wide_enough}
use Rattle.packets.specs.Claims.{PacketsNumber}
use Rattle.packets.proofs.Meaning.{short_is, short_of}
use Rattle.netkat.specs.Check.{check, check_bytes, first_failure, test_sort}
use Rattle.netkat.specs.Claims.{Allowed, CostNumber, FirstHighest}
use Rattle.netkat.specs.Demands.{CheckDeclined, CoreDeclined, CostDeclined, DesugarDeclined, FieldsDeclined, InLimits, PacketsDeclined, SubrangeInside, SubstituteDeclined}
use Rattle.netkat.specs.Points.{Point, walk}
use Rattle.netkat.proofs.AtPoint.{refusal_of, seen_answer, seen_at}
use Rattle.netkat.proofs.Costs.{cost_numbers}
use Rattle.netkat.proofs.HighestField.{First, first_highest, first_refused, found, none, refused_at_first}
use Rattle.netkat.proofs.Numbers.{Numbered, failure_numbers}
use Rattle.netkat.proofs.Rules.{same_refusal, then_same}
use Rattle.netkat.proofs.Whole.{by_limits, by_room, not_allowed, rest, too_little_memory, unmapped, within_limits}

-- an answer is refused exactly for these causes, and no number is 0
pub record Decided {A : Type 0} (declined : ℕ → ℕ → Type 0) (x : Answer A) : Type 0 where
  pub causes : (k p : ℕ) → declined k p ↔ (x ≡ refuse k p)
  pub named : (k p : ℕ) → x ≡ refuse k p → 1 ≤ k

-- from the causes both ways, and their numbers
decided : {A : Type 0} (D : ℕ → ℕ → Type 0) (x : Answer A) → ((k p : ℕ) → D k p → x ≡ refuse k p) → ((k p : ℕ) → x ≡ refuse k p → D k p)
    → ((k p : ℕ) → D k p → 1 ≤ k) → Decided D x
decided D x f g n = record { causes = λ k p. (f k p, g k p); named = λ k p e. n k p (g k p e) }

pub decided_map : {A B : Type 0} {D : ℕ → ℕ → Type 0} (f : A → B) (x : Answer A) → Decided D x → Decided D (map_answer f x)
decided_map f x h =
    record {
      causes = λ k p. ((λ d. ap (map_answer f) ((h.causes k p).0 d)), (λ e. (h.causes k p).1 (unmapped f x e)));
      named = λ k p e. h.named k p (unmapped f x e);
    }

-- ## Refusals as equations

ok_is_no_refusal : {A : Type 0} {a : A} {k p : ℕ} → ok a ≡ refuse k p → ⊥
ok_is_no_refusal e = let z : ◌≡◌ {A = ℕ} 0 1 = cc in absurd (omega arith)

-- a cause of one number and place is a cause of the number and place that were answered
at_refusal : {A : Type 0} (D : ℕ → ℕ → Type 0) {q m k p : ℕ} → ◌≡◌ {A = Answer A} (refuse q m) (refuse k p) → D q m → D k p
at_refusal D {q} {m} {k} {p} e d = let a : q ≡ k = cc in let b : m ≡ p = cc in subst (λ i. D i p) a (subst (λ i. D q i) b d)

-- ## Form, Test fragment

form_decided : (bs : List ℕ) → Decided (λ k p. decode bs ≡ refuse k p) (decode bs)
form_decided bs = decided _ (decode bs) (λ k p e. e) (λ k p e. e) (λ k p e. (decode_numbers bs e).0)

pub fragment_decided : (bs : List ℕ) → Decided (λ k p. decode bs ≡ refuse k p) (fragment_bytes bs)
fragment_decided bs = decided_map is_test_fragment (decode bs) (form_decided bs)

-- ## Check

check_refused : (e : Expr) {k p : ℕ} → (check [] e 0 ≡ refuse k p) ↔ (first_failure (walk [] e 0) ≡ refuse k p)
check_refused e = (
  refusal_of (test_sort [] e) (first_failure (walk [] e 0)),
  (λ h. ap (λ (y : Answer (Unit {0})). and_then y (λ _. ok (test_sort [] e))) h),
)

failure_named : (e : Expr) {k p : ℕ} → first_failure (walk [] e 0) ≡ refuse k p → 1 ≤ k
failure_named e h = let n = subst (Numbered 11 23) h (failure_numbers (walk [] e 0)) in omega (arith, n.0)

pub check_decided : (bs : List ℕ) → Decided (CheckDeclined bs) (check_bytes bs)
check_decided bs = decided (CheckDeclined bs) (check_bytes bs) forth (λ k p. back k p (decode bs) refl) numbers
  where
    forth : (k p : ℕ) → CheckDeclined bs k p → check_bytes bs ≡ refuse k p
    forth k p (CheckDeclined.form r q f) = ap (λ (x : Answer Expr). and_then x (λ e. check [] e 0)) f
    forth k p (CheckDeclined.rule e r q f h) = ap (λ (x : Answer Expr). and_then x (λ e. check [] e 0)) f ∙ (check_refused e).1 h

    back : (k p : ℕ) (x : Answer Expr) → decode bs ≡ x → and_then x (λ e. check [] e 0) ≡ refuse k p → CheckDeclined bs k p
    back k p (ok e) f h = CheckDeclined.rule e k p f ((check_refused e).0 h)
    back k p (refuse q m) f h = CheckDeclined.form k p (f ∙ same_refusal h)

    numbers : (k p : ℕ) → CheckDeclined bs k p → 1 ≤ k
    numbers k p (CheckDeclined.form r q f) = (decode_numbers bs f).0
    numbers k p (CheckDeclined.rule e r q f h) = failure_named e h

-- ## Cost

module _ (s e p k : ℕ) (a b : List ℕ × ℕ) where
  pub cost_decided : Decided (CostDeclined s e p k a b) (lent_cost s e p k a b)
  cost_decided = decided (CostDeclined s e p k a b) (lent_cost s e p k a b) forth (λ r q. back r q (lent_pattern p k a b) refl) numbers
    where
      costed : Answer Pattern → Answer ℕ
      costed x = and_then x λ m. cost m s e 0

      forth : (r q : ℕ) → CostDeclined s e p k a b r q → lent_cost s e p k a b ≡ refuse r q
      forth r q (CostDeclined.form n t f) = ap costed f
      forth r q (CostDeclined.rule m n t f h) =
          ap costed f ∙ ap (λ (x : Answer (Unit {0})). and_then x (λ _. ok (pattern_cost m (e - s)))) (refusal_of (tt {0}) (range_rule (Direct s e) (Matches m) (s, e) 0) h)

      back : (r q : ℕ) (x : Answer Pattern) → lent_pattern p k a b ≡ x → costed x ≡ refuse r q → CostDeclined s e p k a b r q
      back r q (ok m) f h =
          CostDeclined.rule m r q f
          (ap (λ (x : Answer (Unit {0})). and_then x (λ _. ok (tt {0}))) (refusal_of (pattern_cost m (e - s)) (range_rule (Direct s e) (Matches m) (s, e) 0) h))
      back r q (refuse n t) f h = CostDeclined.form r q (f ∙ same_refusal h)

      at_least_one : (r : ℕ) → CostNumber r → 1 ≤ r
      at_least_one r (inl h) = omega arith
      at_least_one r (inr (inl h)) = omega arith
      at_least_one r (inr (inr (inl h))) = omega arith
      at_least_one r (inr (inr (inr (inl h)))) = omega arith
      at_least_one r (inr (inr (inr (inr h)))) = omega (arith, h.0)

      numbers : (r q : ℕ) → CostDeclined s e p k a b r q → 1 ≤ r
      numbers r q d = at_least_one r (cost_numbers s e p k a b r q (forth r q d)).0

-- ## Field count

pub fields_decided : (bs : List ℕ) → Decided (FieldsDeclined bs) (fields_bytes bs)
fields_decided bs = decided (FieldsDeclined bs) (fields_bytes bs) forth (λ k p. back k p (decode bs) refl) numbers
  where
    forth : (k p : ℕ) → FieldsDeclined bs k p → fields_bytes bs ≡ refuse k p
    forth k p (FieldsDeclined.form r q f) = ap (λ (x : Answer Expr). and_then x (λ e. num_fields e 0)) f
    forth k p (FieldsDeclined.field e q f h) =
        ap (λ (x : Answer Expr). and_then x (λ e. num_fields e 0)) f ∙ refused_at_first (first_highest [] e 0) q h.member h.highest h.least

    back : (k p : ℕ) (x : Answer Expr) → decode bs ≡ x → and_then x (λ e. num_fields e 0) ≡ refuse k p → FieldsDeclined bs k p
    back k p (ok e) f h =
        let q = first_refused (first_highest [] e 0) h in
        subst (λ i. FieldsDeclined bs i p) q.number (subst (λ i. FieldsDeclined bs 25 i) q.place (FieldsDeclined.field e q.point f (record { member = q.member; highest = q.highest; least = q.least })))
    back k p (refuse q m) f h = FieldsDeclined.form k p (f ∙ same_refusal h)

    numbers : (k p : ℕ) → FieldsDeclined bs k p → 1 ≤ k
    numbers k p (FieldsDeclined.form r q f) = (decode_numbers bs f).0
    numbers k p (FieldsDeclined.field e q f h) = omega arith

-- ## Read core

module _ (bs : List ℕ) (room : ℕ) where
  abbrev C : ℕ → ℕ → Type 0
  C k p = CoreDeclined bs room k p

  decoded : {x : Answer Core} → decode_core bs ≡ x → read_core bs room ≡ and_then x (λ c. into_list c room)
  decoded f = ap (λ (x : Answer Core). and_then x (λ c. into_list c room)) f

  abbrev listed : Core → Answer ℕ → Bool → Answer (Core × ℕ)
  listed c x b = and_then x λ n. and_then (need b 10 0) λ _. ok (c, n)

  -- with no highest field there is a count
  short_list : (c : Core) (x : Answer ℕ) → First (walk [] (written c) 0) x → ((p : Point) → ¬ FirstHighest (written c) p) → listed c x false ≡ refuse 10 0
  short_list c x (none n h) k = refl
  short_list c x (found p m h l) k = absurd (k p (record { member = m; highest = h; least = l }))

  core_forth : (k p : ℕ) → C k p → read_core bs room ≡ refuse k p
  core_forth k p (CoreDeclined.form r q f) = decoded f
  core_forth k p (CoreDeclined.field c q f h) =
      decoded f
      ∙ ap (λ (x : Answer ℕ). listed c x (leb (3 * size c) room)) (refused_at_first (first_highest [] (written c) 0) q h.member h.highest h.least)
  core_forth k p (CoreDeclined.short c f h l) =
      decoded f ∙ ap (listed c (num_fields (written c) 0)) (lt-leb (3 * size c) room l) ∙ short_list c (num_fields (written c) 0) (first_highest [] (written c) 0) h

  core_back : (k p : ℕ) → read_core bs room ≡ refuse k p → C k p
  core_back k p h = read (decode_core bs) refl (sym (decoded refl) ∙ h)
    where
      named : (c : Core) → decode_core bs ≡ ok c → (x : Answer ℕ) → First (walk [] (written c) 0) x → (b : Bool) → leb (3 * size c) room ≡ b
          → listed c x b ≡ refuse k p → C k p
      named c f x (found q m h l) b e j = at_refusal C j (CoreDeclined.field c q f (record { member = m; highest = h; least = l }))
      named c f x (none n h) true e j = absurd (ok_is_no_refusal j)
      named c f x (none n h) false e j =
          at_refusal C j (CoreDeclined.short c f (λ p g. h p g.member g.highest) (not_le_of (3 * size c) room e))

      read : (x : Answer Core) → decode_core bs ≡ x → and_then x (λ c. into_list c room) ≡ refuse k p → C k p
      read (ok c) f j = named c f (num_fields (written c) 0) (first_highest [] (written c) 0) (leb (3 * size c) room) refl j
      read (refuse q m) f j = at_refusal C j (CoreDeclined.form q m f)

  core_named : (k p : ℕ) → C k p → 1 ≤ k
  core_named k p (CoreDeclined.form r q f) = number_some (core_numbers bs f)
  core_named k p (CoreDeclined.field c q f h) = omega arith
  core_named k p (CoreDeclined.short c f h l) = omega arith

  pub core_declined_numbers : (k p : ℕ) → C k p → CoreNumber k
  core_declined_numbers k p (CoreDeclined.form r q f) = inl (core_numbers bs f)
  core_declined_numbers k p (CoreDeclined.field c q f h) = inr (inl refl)
  core_declined_numbers k p (CoreDeclined.short c f h l) = inr (inr refl)

  pub core_decided : Decided C (read_core bs room)
  core_decided = decided C (read_core bs room) core_forth core_back core_named

-- ## Run packets

module _ (bs : List ℕ) (room : ℕ) (slice lengths : List ℕ) where
  abbrev Q : ℕ → ℕ → Type 0
  Q k p = PacketsDeclined bs room slice lengths k p

  abbrev ps : List (List ℕ)
  ps = packet_bytes lengths slice

  abbrev few : Bool
  few = leb 1 (length lengths) && leb (length lengths) max_packets

  few_is : (few ≡ true) ↔ ((1 ≤ length lengths) × (length lengths ≤ max_packets))
  few_is = and_iff (leb 1 (length lengths)) (leb (length lengths) max_packets) (leb_is 1 (length lengths)) (leb_is (length lengths) max_packets)

  -- what is left to answer of a core that was read
  abbrev left_of_fact : Core → ℕ → Bool → Bool → Answer ℕ
  left_of_fact c n t f = and_then (need t 48 0) λ _. and_then (need f 49 0) λ _. and_then (wide_enough n ps 0) λ _. ok (passing c ps)

  opened : {x : Answer (Core × ℕ)} → read_core bs room ≡ x → run_packets bs room slice lengths ≡ and_then x (λ r. left_of_fact r.0 r.1 (is_test r.0) few)
  opened f = ap (λ (x : Answer (Core × ℕ)). and_then x (λ r. left_of_fact r.0 r.1 (is_test r.0) few)) f

  packets_forth : (k p : ℕ) → Q k p → run_packets bs room slice lengths ≡ refuse k p
  packets_forth k p (PacketsDeclined.reading r q d) = opened (((core_decided bs room).causes r q).0 d)
  packets_forth k p (PacketsDeclined.no_test c n f t) = opened f ∙ ap (λ b. left_of_fact c n b few) t
  packets_forth k p (PacketsDeclined.count c n f t l) = opened f ∙ (λ i. left_of_fact c n (t i) (false_of few (λ e. l (few_is.0 e)) i))
  packets_forth k p (PacketsDeclined.short c n i f t l s) =
      opened f ∙ (λ j. left_of_fact c n (t j) (few_is.1 l j)) ∙ ap (λ x. and_then x λ _. ok (passing c ps)) (short_is n ps i s)

  packets_back : (k p : ℕ) → run_packets bs room slice lengths ≡ refuse k p → Q k p
  packets_back k p h = read (read_core bs room) refl (sym (opened refl) ∙ h)
    where
      wide : (c : Core) (n : ℕ) → read_core bs room ≡ ok (c, n) → is_test c ≡ true → few ≡ true → (x : Answer (Unit {0})) → wide_enough n ps 0 ≡ x
          → (and_then x λ _. ok (passing c ps)) ≡ refuse k p → Q k p
      wide c n f t l (ok y) w e = absurd (ok_is_no_refusal e)
      wide c n f t l (refuse r q) w e =
          let s = short_of n ps r q w in
          at_refusal Q e (subst (λ m. Q m q) (sym s.0) (PacketsDeclined.short c n q f t (few_is.0 l) s.1))

      counted : (c : Core) (n : ℕ) → read_core bs room ≡ ok (c, n) → is_test c ≡ true → (b : Bool) → few ≡ b → left_of_fact c n true b ≡ refuse k p → Q k p
      counted c n f t false l e = at_refusal Q e (PacketsDeclined.count c n f t (λ m. false≢true (sym l ∙ few_is.1 m)))
      counted c n f t true l e = wide c n f t l (wide_enough n ps 0) refl e

      tested : (c : Core) (n : ℕ) → read_core bs room ≡ ok (c, n) → (b : Bool) → is_test c ≡ b → left_of_fact c n b few ≡ refuse k p → Q k p
      tested c n f false t e = at_refusal Q e (PacketsDeclined.no_test c n f t)
      tested c n f true t e = counted c n f t few refl e

      read : (x : Answer (Core × ℕ)) → read_core bs room ≡ x → and_then x (λ r. left_of_fact r.0 r.1 (is_test r.0) few) ≡ refuse k p → Q k p
      read (ok q) f e = tested q.0 q.1 f (is_test q.0) refl e
      read (refuse r q) f e = at_refusal Q e (PacketsDeclined.reading r q (((core_decided bs room).causes r q).1 f))

  packets_named : (k p : ℕ) → Q k p → 1 ≤ k
  packets_named k p (PacketsDeclined.reading r q d) = core_named bs room k p d
  packets_named k p (PacketsDeclined.no_test c n f t) = omega arith
  packets_named k p (PacketsDeclined.count c n f t l) = omega arith
  packets_named k p (PacketsDeclined.short c n i f t l s) = omega arith

  pub packets_declined_numbers : (k p : ℕ) → Q k p → PacketsNumber k
  packets_declined_numbers k p (PacketsDeclined.reading r q d) = inl (core_declined_numbers bs room k p d)
  packets_declined_numbers k p (PacketsDeclined.no_test c n f t) = inr (inl refl)
  packets_declined_numbers k p (PacketsDeclined.count c n f t l) = inr (inr (inl refl))
  packets_declined_numbers k p (PacketsDeclined.short c n i f t l s) = inr (inr (inr refl))

  pub packets_decided : Decided Q (run_packets bs room slice lengths)
  packets_decided = decided Q (run_packets bs room slice lengths) packets_forth packets_back packets_named

-- ## Subrange

module _ (a b s e : ℕ) where
  abbrev inside : Bool
  inside = ltb (a + s) (2 ^ 32) && (ltb (a + e) (2 ^ 32) && (leb s e && leb (a + e) b))

  below : (m n : ℕ) → (ltb m n ≡ true) ↔ (m < n)
  below m n = (ltb-true m n, lt-ltb m n)

  facts : (inside ≡ true) ↔ ((a + s < 2 ^ 32) × ((a + e < 2 ^ 32) × ((s ≤ e) × (a + e ≤ b))))
  facts =
      and_iff (ltb (a + s) (2 ^ 32)) (ltb (a + e) (2 ^ 32) && (leb s e && leb (a + e) b)) (below (a + s) (2 ^ 32))
      (and_iff (ltb (a + e) (2 ^ 32)) (leb s e && leb (a + e) b) (below (a + e) (2 ^ 32))
      (and_iff (leb s e) (leb (a + e) b) (leb_is s e) (leb_is (a + e) b)))

  inside_is : (inside ≡ true) ↔ SubrangeInside a b s e
  inside_is = (
    (λ h. let k = facts.0 h in record { start = k.0; end = k.1.0; order = k.1.1.0; inside = k.1.1.1 }),
    (λ h. facts.1 (h.start, (h.end, (h.order, h.inside)))),
  )

  pub subrange_decided : Decided (λ k p. ¬ SubrangeInside a b s e × (k ≡ 28) × (p ≡ 0)) (compute_subrange a b s e)
  subrange_decided = decided _ (compute_subrange a b s e) forth (λ k p. back k p inside refl) (λ k p d. omega (arith, d.1))
    where
      forth : (k p : ℕ) → ¬ SubrangeInside a b s e × (k ≡ 28) × (p ≡ 0) → compute_subrange a b s e ≡ refuse k p
      forth k p d = rw (false_of inside (λ h. d.0 (inside_is.0 h)), d.1, d.2)

      back : (k p : ℕ) (c : Bool) → inside ≡ c → and_then {B = ℕ × ℕ} (need c 28 0) (λ _. ok (a + s, a + e)) ≡ refuse k p → ¬ SubrangeInside a b s e × (k ≡ 28) × (p ≡ 0)
      back k p true i h = absurd (ok_is_no_refusal h)
      back k p false i h = ((λ d. absurd (false≢true (sym i ∙ inside_is.1 d))), cc, cc)

-- ## Substitute

in_limits : (s : Expr) → ((leb (records s) max_records && leb (depth s) max_depth) ≡ true) ↔ InLimits s
in_limits s = and_iff (leb (records s) max_records) (leb (depth s) max_depth) (leb_is (records s) max_records) (leb_is (depth s) max_depth)

module _ (bs : List ℕ) (x : Name) (rs : List ℕ) (room : ℕ) where
  -- behind the form of the term, and behind that of the replacement
  abbrev result : Expr → Expr → Answer (List ℕ)
  result e t =
      and_then (need (leb (records (substitute x t e)) max_records && leb (depth (substitute x t e)) max_depth) 27 0) λ _. into_room (encode (substitute x t e)) room

  abbrev replaced : Expr → Answer Expr → Answer (List ℕ)
  replaced e y = and_then (raised y) (λ t. result e t)

  abbrev D : ℕ → ℕ → Type 0
  D k p = SubstituteDeclined bs x rs room k p

  read_both : (e t : Expr) → decode bs ≡ ok e → decode rs ≡ ok t → substitute_bytes bs x rs room ≡ result e t
  read_both e t f g = rw (f, g)

  forth : (k p : ℕ) → D k p → substitute_bytes bs x rs room ≡ refuse k p
  forth k p (SubstituteDeclined.form r q f) = rw f
  forth k p (SubstituteDeclined.replacement e r q f g) = rw (f, g)
  forth k p (SubstituteDeclined.large e t f g h) = read_both e t f g ∙ rw (false_of _ (λ y. h ((in_limits (substitute x t e)).0 y)))
  forth k p (SubstituteDeclined.long e t f g h l) =
      read_both e t f g ∙ rw ((in_limits (substitute x t e)).1 h, lt-leb (length (encode (substitute x t e))) room l)

  behind_limits : (e t : Expr) → decode bs ≡ ok e → decode rs ≡ ok t → (k p : ℕ) (c : Bool)
      → (leb (records (substitute x t e)) max_records && leb (depth (substitute x t e)) max_depth) ≡ c
      → and_then (need c 27 0) (λ _. into_room (encode (substitute x t e)) room) ≡ refuse k p → D k p
  behind_limits e t f g k p false i h =
      at_refusal D h (SubstituteDeclined.large e t f g (λ l. absurd (false≢true (sym i ∙ (in_limits (substitute x t e)).1 l))))
  behind_limits e t f g k p true i h =
      by_room (λ y. y ≡ refuse k p → D k p) (encode (substitute x t e)) room (λ out. ok out)
      (λ l z. at_refusal D z (SubstituteDeclined.long e t f g ((in_limits (substitute x t e)).0 i) l))
      (λ l z. absurd (ok_is_no_refusal z))
      (then_same (into_room (encode (substitute x t e)) room) ∙ h)

  behind_term : (e : Expr) → decode bs ≡ ok e → (k p : ℕ) (y : Answer Expr) → decode rs ≡ y → replaced e y ≡ refuse k p → D k p
  behind_term e f k p (ok t) g h = behind_limits e t f g k p _ refl h
  behind_term e f k p (refuse q m) g h = at_refusal D h (SubstituteDeclined.replacement e q m f g)

  back : (k p : ℕ) (y : Answer Expr) → decode bs ≡ y → and_then y (λ e. replaced e (decode rs)) ≡ refuse k p → D k p
  back k p (ok e) f h = behind_term e f k p (decode rs) refl h
  back k p (refuse q m) f h = at_refusal D h (SubstituteDeclined.form q m f)

  numbers : (k p : ℕ) → D k p → 1 ≤ k
  numbers k p (SubstituteDeclined.form r q f) = (decode_numbers bs f).0
  numbers k p (SubstituteDeclined.replacement e r q f g) = omega arith
  numbers k p (SubstituteDeclined.large e t f g h) = omega arith
  numbers k p (SubstituteDeclined.long e t f g h l) = omega arith

  pub substitute_decided : Decided D (substitute_bytes bs x rs room)
  substitute_decided = decided D (substitute_bytes bs x rs room) forth (λ k p. back k p (decode bs) refl) numbers

-- ## Desugar

-- a rule that fails is the refusal of desugaring without limit
unlimited_refused : (e : Expr) {k p : ℕ} → (map_answer (λ r. r.0) (desugar [] e 0 (spent [])) ≡ refuse k p) ↔ (first_failure (walk [] e 0) ≡ refuse k p)
unlimited_refused e = (
  (λ h. (check_refused e).0 (sym (seen_answer (seen_at [] [] e 0 refl)) ∙ ap (map_answer is_test) h)),
  (λ h. unmapped is_test _ (seen_answer (seen_at [] [] e 0 refl) ∙ (check_refused e).1 h)),
)

module _ (bs : List ℕ) (n work room : ℕ) where
  abbrev E : ℕ → ℕ → Type 0
  E k p = DesugarDeclined bs n work room k p

  read_term : (e : Expr) → Allowed n → work_for n ≤ work → decode bs ≡ ok e → desugar_bytes bs n work room ≡ rest e n room
  read_term e a m f = within_limits bs n work room a m ∙ ap (λ (x : Answer Expr). and_then x (λ e. rest e n room)) f

  walk_refused : (e : Expr) {k p : ℕ} → desugar [] e 0 (left n) ≡ refuse k p → rest e n room ≡ refuse k p
  walk_refused e h = rw h

  desugar_forth : (k p : ℕ) → E k p → desugar_bytes bs n work room ≡ refuse k p
  desugar_forth k p (DesugarDeclined.allowance h) = not_allowed bs n work room h
  desugar_forth k p (DesugarDeclined.memory a h) = too_little_memory bs n work room a h
  desugar_forth k p (DesugarDeclined.form r q a m f) = within_limits bs n work room a m ∙ ap (λ (x : Answer Expr). and_then x (λ e. rest e n room)) f
  desugar_forth k p (DesugarDeclined.rule e ds r q a m f l d h) =
      read_term e a m f ∙ walk_refused e (unmapped (λ r. r.0) _ (l.enough n [] d ∙ (unlimited_refused e).1 h))
  desugar_forth k p (DesugarDeclined.beyond e ds a m f l d) = read_term e a m f ∙ walk_refused e (l.short n d)
  desugar_forth k p (DesugarDeclined.long e c ds a m f u d h) =
      read_term e a m f ∙ rw (limited [] e 0 c ds u n d, lt-leb (length (encode_core c)) room h)

  walked : (e : Expr) → Allowed n → work_for n ≤ work → decode bs ≡ ok e → (k p : ℕ) (c : Costs (desugar [] e 0)) → Limit [] e 0 (draws_of c)
      → Dec (n < drawn (draws_of c)) → rest e n room ≡ refuse k p → E k p
  walked e a m f k p c l (yes q) h = at_refusal E (sym (walk_refused e (l.short n q)) ∙ h) (DesugarDeclined.beyond e (draws_of c) a m f l q)
  walked e a m f k p (stops r at ds s g w) l (no q) h =
      let d : drawn ds ≤ n = omega arith in
      at_refusal E (sym (walk_refused e (g n d)) ∙ h)
      (DesugarDeclined.rule e ds r at a m f l d ((unlimited_refused e).0 (ap (map_answer (λ r. r.0)) (s []))))
  walked e a m f k p (gives c ds s g w) l (no q) h =
      let d : drawn ds ≤ n = omega arith in
      by_room (λ y. y ≡ refuse k p → E k p) (encode_core c) room (λ out. ok (out, n - (n - drawn ds)))
      (λ z y. at_refusal E y (DesugarDeclined.long e c ds a m f (s []) d z))
      (λ z y. absurd (ok_is_no_refusal y))
      (rw (g n d) at h)

  desugar_back : (k p : ℕ) → desugar_bytes bs n work room ≡ refuse k p → E k p
  desugar_back k p =
      by_limits (λ y. y ≡ refuse k p → E k p) n work _
      (λ h y. at_refusal E y (DesugarDeclined.allowance h))
      (λ a h y. at_refusal E y (DesugarDeclined.memory a h))
      (λ a m. read a m (decode bs) refl)
    where
      read : Allowed n → work_for n ≤ work → (x : Answer Expr) → decode bs ≡ x → and_then x (λ e. rest e n room) ≡ refuse k p → E k p
      read a m (ok e) f h = walked e a m f k p (desugar_costs [] e 0) (limit_of [] e 0 (desugar_costs [] e 0)) (dec_lt n _) h
      read a m (refuse q t) f h = at_refusal E h (DesugarDeclined.form q t a m f)

  desugar_numbers : (k p : ℕ) → E k p → 1 ≤ k
  desugar_numbers k p (DesugarDeclined.allowance h) = omega arith
  desugar_numbers k p (DesugarDeclined.memory a h) = omega arith
  desugar_numbers k p (DesugarDeclined.form r q a m f) = (decode_numbers bs f).0
  desugar_numbers k p (DesugarDeclined.rule e ds r q a m f l d h) = failure_named e h
  desugar_numbers k p (DesugarDeclined.beyond e ds a m f l d) = omega arith
  desugar_numbers k p (DesugarDeclined.long e c ds a m f u d h) = omega arith

  pub desugar_decided : Decided E (desugar_bytes bs n work room)
  desugar_decided = decided E (desugar_bytes bs n work room) desugar_forth desugar_back desugar_numbers
