-- Laws of what becomes of the cores of a node's operands: draws, cores that are moved, Sequence's dropping, records written below
-- their operands, and negations.
use mathlib.Core.Path.{◌≡◌, refl, sym, ap, subst, ◌∙◌}
use mathlib.Core.Bool.{Bool, true, false, ◌&&◌, true≢false}
use mathlib.Core.List.{List, [], ◌∷◌, ◌++◌}
use Prim.Native.Nat.{ℕ, ◌+◌, ◌-◌, ◌*◌, ◌≤◌, ◌<◌}
use native.Mathlib.Omega.{arith}
use lib.Dec.{leb, eqb}
use lib.ListN.{length, get_or}
use lib.Seq.{sets}
use borrow.Author.Tests.{leb-true, leb-false, le-leb, lt-leb, eq-eqb, ne_eqb}
use Rattle.std.specs.Prelude.{Result, Ok, Err}
use Rattle.refusals.specs.declared.Refused.{Refused}
use Rattle.desugar.specs.declared.operands.Walked.{Walked}
use Rattle.desugar.specs.declared.guarded.Guarded.{Guarded}
use Rattle.expr.specs.Answers.{Answer, ok, refuse}
use Rattle.expr.specs.Terms.{Op1, Op2, Union, Intersect, Xor, Difference, Sequence, LtlUntil, Core, leaf, one, two, op1_kind, op2_kind, size}
use Rattle.desugar.specs.Meter.{Meter, left, drawing}
use Rattle.desugar.specs.Negation.{is_test, is_one, join, join_draw, again, negate}
use Rattle.desugar.specs.Memory.{words, Holds, Kept, Lies}
use Rattle.desugar.specs.NegationOutcome.{outcome, Negates}
use Rattle.desugar.specs.WalkWords.{WalkedAs, Operands, drops, negating, choosing, negated_size, negated_at, BranchRoom, United}
use Rattle.desugar.specs.declared.test_negation.NegationError.{NegationError}
use Rattle.desugar.specs.declared.test_negation.NegationError.TheVariants.{NotTest, TooLarge}
use Rattle.desugar.proofs.Regions.{lies_at, moved, joined, stored, over, under, kept_then, kept_less, kept_sets, length_words, size_pos}
use Rattle.desugar.proofs.Frames.{lies_kept}
use Rattle.desugar.proofs.WalkLaws.{wider}
use Rattle.desugar.proofs.Room.{Joined, node, left_dropped_fact, right_dropped_fact, join_draws}

-- ## Draws

module _ {A : Type 0} (n at : ℕ) (a : A) (k : ℕ) where
  pub draw_within : n ≤ k → drawing n at a (left k) ≡ ok (a, left (k - n))
  draw_within h = rw (le-leb n k h)

  pub draw_beyond : k < n → drawing n at a (left k) ≡ refuse 24 at
  draw_beyond h = rw (lt-leb n k h)

-- a walk's end seen from an earlier memory, and under another name of the answer
pub walked_since : {x y : Answer (Core × Meter)} {top top' : ℕ} {xs ys : List ℕ} (used next allowance levels : ℕ) (zs : List ℕ) → y ≡ x → top' ≡ top → Kept top xs ys
    → (r : Result Walked Refused) → WalkedAs x used next top' allowance levels ys zs r → WalkedAs y used next top allowance levels xs zs r
walked_since {x} {y} {top} {top'} {xs} {ys} used next allowance levels zs e t k r h =
    wider y x used used next next top top' allowance allowance levels levels xs ys zs r e refl refl (omega (arith, t)) (omega (arith, t)) (omega arith) k h

-- ## Cores that are moved

pub lies_copied : {xs ys : List ℕ} {at to count : ℕ} → ((zs : List ℕ) → length zs ≡ 3 * count → Holds xs at zs → Holds ys to zs)
    → (c : Core) → Lies xs at count c → Lies ys to count c
lies_copied f c l = record { holds = f (words c) (length_words c ∙ ap (λ (k : ℕ). 3 * k) (sym l.count)) l.holds; count = l.count }

lies_over : {xs : List ℕ} {at n : ℕ} {c : Core} (j : ℕ) (vs : List ℕ) → j + length vs ≤ at → Lies xs at n c → Lies (sets xs j vs) at n c
lies_over j vs h l = record { holds = over j vs h l.holds; count = l.count }

lies_under : {xs : List ℕ} {at n : ℕ} {c : Core} (j : ℕ) (vs : List ℕ) → at + 3 * n ≤ j → Lies xs at n c → Lies (sets xs j vs) at n c
lies_under {c = c} j vs h l = record { holds = under j vs (omega (arith, length_words c, l.count)) l.holds; count = l.count }

-- ## Sequence's dropping

module _ (o : Op2) (c : Core) {xs : List ℕ} {kind : ℕ} (is : op2_kind o ≡ kind) (numbers : xs ≡ words c) where
  -- another operator
  pub drops_no : (kind ≡ 11 → ⊥) → false ≡ drops o c
  drops_no n = sym (ap (λ (b : Bool). b && is_one c) (ne_eqb (op2_kind o) 11 (λ e. n (sym is ∙ e))))

  -- a core of more than one record
  pub drops_larger : kind ≡ 11 → (length xs ≡ 3 → ⊥) → false ≡ drops o c
  drops_larger k n =
      sym (ap (λ (b : Bool). b && is_one c) (eq-eqb (op2_kind o) 11 (is ∙ k))
      ∙ larger c (λ e. n (ap length numbers ∙ length_words c ∙ ap (λ m. 3 * m) e)))
    where
      larger : (c : Core) → (size c ≡ 1 → ⊥) → is_one c ≡ false
      larger (leaf a) n = absurd (n refl)
      larger (one o c) n = refl
      larger (two o a b) n = refl

  -- a core of one record is what its kind says
  pub drops_single : kind ≡ 11 → length xs ≡ 3 → eqb (get_or xs 0 0) 1 ≡ drops o c
  drops_single k e = single c numbers ∙ sym (ap (λ (b : Bool). b && is_one c) (eq-eqb (op2_kind o) 11 (is ∙ k)))
    where
      single : (c : Core) → xs ≡ words c → eqb (get_or xs 0 0) 1 ≡ is_one c
      single (leaf a) w = ap (λ (ys : List ℕ). eqb (get_or ys 0 0) 1) w
      single (one o c) w = absurd (omega (arith, e, ap length w, length_words (one o c), size_pos c))
      single (two o a b) w = absurd (omega (arith, e, ap length w, length_words (two o a b), size_pos a, size_pos b))

-- the first operand is kept and the second dropped: the first is the result
join_drops : (o : Op2) (c d : Core) → drops o c ≡ false → drops o d ≡ true → (join_draw o c d ≡ 0) × (join o c d ≡ c)
join_drops Union c d p q = absurd (true≢false (sym q))
join_drops Intersect c d p q = absurd (true≢false (sym q))
join_drops Xor c d p q = absurd (true≢false (sym q))
join_drops Difference c d p q = absurd (true≢false (sym q))
join_drops Sequence c d p q = (rw (p, q), rw (p, q))
join_drops LtlUntil c d p q = absurd (true≢false (sym q))

-- both are kept
join_keeps : (o : Op2) (c d : Core) → drops o c ≡ false → drops o d ≡ false → (join_draw o c d ≡ 1) × (join o c d ≡ two o c d)
join_keeps Union c d p q = (refl, refl)
join_keeps Intersect c d p q = (refl, refl)
join_keeps Xor c d p q = (refl, refl)
join_keeps Difference c d p q = (refl, refl)
join_keeps Sequence c d p q = (rw (p, q), rw (p, q))
join_keeps LtlUntil c d p q = (refl, refl)

module _ (o : Op2) (c d : Core) (at k : ℕ) (p : drops o c ≡ false) where
  pub join_dropped : drops o d ≡ true → drawing (join_draw o c d) at (join o c d) (left k) ≡ ok (c, left k)
  join_dropped q =
      let j = join_drops o c d p q in
      (λ i. drawing (j.0 i) at (j.1 i) (left k)) ∙ draw_within 0 at c k (omega arith) ∙ ap (λ (n : ℕ). ok (c, left n)) (omega arith)

  pub join_kept : drops o d ≡ false → drawing (join_draw o c d) at (join o c d) (left k) ≡ drawing 1 at (two o c d) (left k)
  join_kept q =
      let j = join_keeps o c d p q in
      λ i. drawing (j.0 i) at (j.1 i) (left k)

-- ## Operators' records

-- two cores one behind the other
two_words : {xs : List ℕ} {at n m : ℕ} (c d : Core) → Lies xs at n c → Lies xs (at + 3 * n) m d → Holds xs at (words c ++ words d)
two_words c d l r = joined (words c) (words d) l.holds (moved r.holds (omega (arith, length_words c, l.count)) refl)

pub one_operand : (o : Op1) (c : Core) {kind : ℕ} {w : Walked} {xs : List ℕ} → op1_kind o ≡ kind → Lies xs w.core.at w.core.count c → Operands (one o c) kind w xs
one_operand o c e l = record {
  rest = words c;
  words_are = ap (λ (k : ℕ). k ∷ 0 ∷ 0 ∷ words c) e;
  holds = l.holds;
  count = omega (arith, l.count);
}

pub two_operands : (o : Op2) (c d : Core) {kind n m : ℕ} {w : Walked} {xs : List ℕ} → op2_kind o ≡ kind → w.core.count ≡ n + m
    → Lies xs w.core.at n c → Lies xs (w.core.at + 3 * n) m d → Operands (two o c d) kind w xs
two_operands o c d e f l r = record {
  rest = words c ++ words d;
  words_are = ap (λ (k : ℕ). k ∷ 0 ∷ 0 ∷ (words c ++ words d)) e;
  holds = two_words c d l r;
  count = omega (arith, f, l.count, r.count);
}

put_record : {xs : List ℕ} (at kind : ℕ) (rest : List ℕ) → Holds xs (at + 3) rest → Holds (sets xs at (kind ∷ 0 ∷ 0 ∷ [])) at (kind ∷ 0 ∷ 0 ∷ rest)
put_record {xs} at kind rest h =
    joined (kind ∷ 0 ∷ 0 ∷ []) rest (stored xs at (kind ∷ 0 ∷ 0 ∷ []) (omega (arith, h.fits))) (over at (kind ∷ 0 ∷ 0 ∷ []) (omega arith) h)

-- the record is written below its operands
pub sealed : {c : Core} {kind : ℕ} {w : Walked} {xs : List ℕ} → 3 ≤ w.core.at → Operands c kind w xs
    → Lies (sets xs (w.core.at - 3) (kind ∷ 0 ∷ 0 ∷ [])) (w.core.at - 3) (w.core.count + 1) c
sealed {c} {kind} {w} {xs} h p = record {
  holds = moved (put_record (w.core.at - 3) kind p.rest (moved p.holds (omega arith) refl)) refl (sym p.words_are);
  count = sym p.count;
}

put_two : {xs : List ℕ} (o : Op2) (c d : Core) (at n m : ℕ) → Lies xs (at + 3) n c → Lies xs (at + 3 + 3 * n) m d
    → Lies (sets xs at (op2_kind o ∷ 0 ∷ 0 ∷ [])) at (1 + n + m) (two o c d)
put_two o c d at n m l r = record {
  holds = put_record at (op2_kind o) (words c ++ words d) (two_words c d l r);
  count = omega (arith, l.count, r.count);
}

-- an If of its four cores, when its other branch has moved to their end
module _ (g : Guarded) where
  abbrev n : ℕ
  n = g.condition.count

  abbrev m : ℕ
  m = g.branch.count

  abbrev top : ℕ
  top = g.condition.at - 6

  -- where the record of the second Sequence goes
  abbrev mid : ℕ
  mid = g.branch.at + 3 * m

  module _ {xs ys zs : List ℕ} {size : ℕ} {e : Walked} {c t c' d : Core} (u : United xs g size e c t c' d)
      (k : Kept (negated_at g + 3 * size) xs ys) (l : Lies ys (negated_at g + 3 * size) e.core.count d)
      (is : zs ≡ sets (sets (sets ys mid (11 ∷ 0 ∷ 0 ∷ [])) (top + 3) (11 ∷ 0 ∷ 0 ∷ [])) top (7 ∷ 0 ∷ 0 ∷ [])) where
    pub united_kept : Kept top xs zs
    united_kept =
        subst (λ (m : List ℕ). Kept top xs m) (sym is)
        (kept_then (kept_less (omega (arith, g.low, g.behind)) k)
        (kept_then (kept_sets top _ mid (11 ∷ 0 ∷ 0 ∷ []) (omega (arith, g.low, g.behind)))
        (kept_then (kept_sets top _ (top + 3) (11 ∷ 0 ∷ 0 ∷ []) (omega arith)) (kept_sets top _ top (7 ∷ 0 ∷ 0 ∷ []) (omega arith)))))

    pub united_lies : Lies zs top (3 + n + m + size + e.core.count) (two Union (two Sequence c t) (two Sequence c' d))
    united_lies =
        let first : Lies ys (top + 3 + 3) n c = lies_at (omega (arith, g.low)) refl (lies_kept k (omega (arith, g.behind)) u.condition) in
        let second : Lies ys (top + 3 + 3 + 3 * n) m t = lies_at (omega (arith, g.low, g.behind)) refl (lies_kept k (omega arith) u.first) in
        let third : Lies ys (mid + 3) size c' = lies_kept k (omega arith) u.negated in
        let lower = put_two Sequence c' d mid size e.core.count third l in
        let upper =
        put_two Sequence c t (top + 3) n m (lies_under mid (11 ∷ 0 ∷ 0 ∷ []) (omega (arith, g.low, g.behind)) first) (lies_under mid (11 ∷ 0 ∷ 0 ∷ []) (omega (arith, g.low, g.behind)) second)
        in
        subst (λ (a : List ℕ). Lies a top (3 + n + m + size + e.core.count) (two Union (two Sequence c t) (two Sequence c' d))) (sym is)
        (lies_at refl (omega arith)
        (put_two Union (two Sequence c t) (two Sequence c' d) top (1 + n + m) (1 + size + e.core.count) upper
        (lies_at (omega (arith, g.low, g.behind)) refl (lies_over (top + 3) (11 ∷ 0 ∷ 0 ∷ []) (omega (arith, g.low, g.behind)) lower))))

-- ## Negations

outcome_no_test : (b w : Bool) (n : ℕ) → Err NotTest ≡ outcome b w n → b ≡ false
outcome_no_test false w n e = refl
outcome_no_test true false n e = let z : ◌≡◌ {A = ℕ} 0 1 = cc in absurd (omega arith)
outcome_no_test true true n e = let z : ◌≡◌ {A = ℕ} 0 1 = cc in absurd (omega arith)

outcome_large : (b w : Bool) (n : ℕ) → Err TooLarge ≡ outcome b w n → (b ≡ true) × (w ≡ false)
outcome_large false w n e = let z : ◌≡◌ {A = ℕ} 0 1 = cc in absurd (omega arith)
outcome_large true false n e = (refl, refl)
outcome_large true true n e = let z : ◌≡◌ {A = ℕ} 0 1 = cc in absurd (omega arith)

outcome_size : (b w : Bool) (n s : ℕ) → Ok s ≡ outcome b w n → (b ≡ true) × (w ≡ true) × (s ≡ n)
outcome_size false w n s e = let z : ◌≡◌ {A = ℕ} 0 1 = cc in absurd (omega arith)
outcome_size true false n s e = let z : ◌≡◌ {A = ℕ} 0 1 = cc in absurd (omega arith)
outcome_size true true n s e = (refl, refl, cc)

module _ {xs : List ℕ} {c : Core} {at limit : ℕ} {r : Result ℕ NegationError} (h : Negates xs c at limit r) where
  not_test : r ≡ Err NotTest → is_test c ≡ false
  not_test e = outcome_no_test (is_test c) (leb (size (negate c)) limit) (size (negate c)) (sym e ∙ h.is)

  too_large : r ≡ Err TooLarge → (is_test c ≡ true) × (limit < size (negate c))
  too_large e =
      let t : (is_test c ≡ true) × (leb (size (negate c)) limit ≡ false) = outcome_large (is_test c) (leb (size (negate c)) limit) (size (negate c)) (sym e ∙ h.is) in
      (t.0, leb-false _ _ t.1)

  pub of_size : (s : ℕ) → r ≡ Ok s → (is_test c ≡ true) × (size (negate c) ≤ limit) × (s ≡ size (negate c))
  of_size s e =
      let t : (is_test c ≡ true) × (leb (size (negate c)) limit ≡ true) × (s ≡ size (negate c)) = outcome_size (is_test c) (leb (size (negate c)) limit) (size (negate c)) s (sym e ∙ h.is) in
      (t.0, leb-true _ _ t.1, t.2)

  pub negation_lies : (s : ℕ) → r ≡ Ok s → Lies xs at s (negate c)
  negation_lies s e = record { holds = h.holds (of_size s e).0 (of_size s e).1; count = (of_size s e).2 }

  -- rule 22 and the draw
  pub negating_no : (place k : ℕ) → r ≡ Err NotTest → negating c place (left k) ≡ refuse 22 place
  negating_no place k e = rw (not_test e)

  pub negating_large : (place : ℕ) → r ≡ Err TooLarge → negating c place (left limit) ≡ refuse 24 place
  negating_large place e = rw (too_large e).0 (draw_beyond (size (negate c)) place (negate c) limit (too_large e).1)

  pub negating_fits : (place s : ℕ) → r ≡ Ok s → negating c place (left limit) ≡ ok (negate c, left (limit - s))
  negating_fits place s e =
      rw (of_size s e).0
      (draw_within (size (negate c)) place (negate c) limit (of_size s e).1 ∙ ap (λ (k : ℕ). ok (negate c, left (limit - k))) (sym (of_size s e).2))

  -- rule 23 and the draw
  module _ (t d : Core) (place k : ℕ) where
    pub choosing_no : r ≡ Err NotTest → choosing c t d place (left k) ≡ refuse 23 place
    choosing_no e = rw (not_test e)

    pub choosing_large : k ≤ limit → r ≡ Err TooLarge → choosing c t d place (left k) ≡ refuse 24 place
    choosing_large l e =
        rw (too_large e).0
        (draw_beyond (size (negate c) + 3) place (two Union (two Sequence c t) (two Sequence (negate c) d)) k (omega (arith, l, (too_large e).1)))

    pub choosing_fits : (s : ℕ) → r ≡ Ok s → choosing c t d place (left k) ≡ drawing (s + 3) place (two Union (two Sequence c t) (two Sequence (negate c) d)) (left k)
    choosing_fits s e =
        rw (of_size s e).0
        (ap (λ (n : ℕ). drawing (n + 3) place (two Union (two Sequence c t) (two Sequence (negate c) d)) (left k)) (sym (of_size s e).2))

-- the room of an If whose condition's negation has s records
pub branch_room : {xs : List ℕ} {g : Guarded} {e : Walked} {r : Result ℕ NegationError} (s : ℕ) → r ≡ Ok s → BranchRoom xs g (negated_size r) e → BranchRoom xs g s e
branch_room {xs} {g} {e} s is p = subst (λ (k : ℕ). BranchRoom xs g k e) (ap negated_size is) p

-- ## How large a negation is

join_size : (o : Op2) (a b : Core) → size (join o a b) ≤ 1 + size a + size b
join_size o a b = go (join_draws o a b)
  where
    go : {c : Core} {n : ℕ} → Joined o a b c n → size c ≤ 1 + size a + size b
    go (node f) = omega arith
    go (left_dropped_fact e p) = omega arith
    go (right_dropped_fact e p q) = omega arith

pub again_size : (c : Core) → size (again c) ≤ size c
again_size (leaf a) = omega arith
again_size (one o c) = omega (arith, again_size c)
again_size (two o a b) = omega (arith, join_size o (again a) (again b), again_size a, again_size b)

-- at most half as many records again, and one
pub negate_size : (c : Core) → 2 * size (negate c) ≤ 3 * size c + 1
negate_size (leaf a) = omega arith
negate_size (one o c) = omega arith
negate_size (two Union a b) = omega (arith, negate_size a, negate_size b)
negate_size (two Intersect a b) = omega (arith, negate_size a, negate_size b)
negate_size (two Xor a b) = omega (arith, size_pos a, size_pos b)
negate_size (two Difference a b) = omega (arith, negate_size a, again_size b)
negate_size (two Sequence a b) = omega (arith, negate_size a, negate_size b)
negate_size (two LtlUntil a b) = omega arith

-- what is known of the size of a negation that may not be there
pub negated_bounds : {xs : List ℕ} {c : Core} {at limit : ℕ} (r : Result ℕ NegationError) → Negates xs c at limit r → (negated_size r ≤ limit) × (2 * negated_size r ≤ 3 * size c + 1)
negated_bounds {c = c} (Ok s) h = (omega (arith, of_size h s refl), omega (arith, of_size h s refl, negate_size c))
negated_bounds (Err e) h = (omega arith, omega arith)

-- it stays while nothing below its end changes
pub negates_kept : {n : ℕ} {xs ys : List ℕ} {c : Core} {at limit : ℕ} {r : Result ℕ NegationError} → Kept n xs ys → at + 3 * negated_size r ≤ n → Negates xs c at limit r → Negates ys c at limit r
negates_kept {ys = ys} {c = c} {at = at} {limit = limit} {r = r} k l h = record { is = h.is; holds = holds }
  where
    holds : is_test c ≡ true → size (negate c) ≤ limit → Holds ys at (words (negate c))
    holds t f =
        let e : r ≡ Ok (size (negate c)) = h.is ∙ rw (t, le-leb (size (negate c)) limit f) in
        (lies_kept k (omega (arith, l, ap negated_size e)) (negation_lies h (size (negate c)) e)).holds
