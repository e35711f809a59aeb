-- The records of a bound's core, from its highest bit down, and how many they are.
use mathlib.Core.Path.{◌∙◌, ◌≡◌, ap, refl, sym}
use mathlib.Core.Bool.{Bool, beq, cond, false, not, true}
use mathlib.Core.List.{List, [], ◌++◌, ◌∷◌, append-nil}
use Prim.Native.Nat.{◌*◌, ◌+◌, ◌-◌, ◌<◌, ◌≤◌, suc, zero, ℕ}
use native.Mathlib.Nat.{add-zero, sub-zero}
use native.Mathlib.Numerals.{add-one}
use native.Mathlib.Omega.{arith}
use lib.ListN.{get_or, length, length-append}
use lib.Seq.{length-sets, sets}
use Rattle.literals.specs.Bits.{Bits, bit}
use Rattle.expr.specs.Terms.{Core, Intersect, One, Test, Union, Zero, leaf, size}
use Rattle.desugar.specs.Costs.{bound_size, chain_size, differences_size}
use Rattle.desugar.specs.LeafWords.{Differs, Ready, difference, difference_size, linked, stretch, term, tops}
use Rattle.desugar.specs.Leaves.{bound, chain, differences, high_first}
use Rattle.desugar.specs.Memory.{words, size_all, Holds, Kept}
use Rattle.desugar.specs.declared.leaves.Progress.{Progress}
use Rattle.desugar.proofs.Chains.{length_linked, length_stretch, link_last, link_more, linked_append, size_chain, sizes_append, words_chain}
use Rattle.desugar.proofs.Regions.{left, moved, sets_append, sets_is, stored, under}

-- ## Sizes

length_high : (s : ℕ) (a : Bits) → length (high_first s a) ≡ length a
length_high s [] = refl
length_high s (b ∷ a) = omega (arith, length-append (high_first (suc s) a) (leaf (Test s b) ∷ []), length_high (suc s) a)

sizes_high : (s : ℕ) (a : Bits) → size_all (high_first s a) ≡ length a
sizes_high s [] = refl
sizes_high s (b ∷ a) = omega (arith, sizes_append (high_first (suc s) a) (leaf (Test s b) ∷ []), sizes_high (suc s) a)

size_exact : (s : ℕ) (a : Bits) → size (chain Intersect One (high_first s a)) ≡ chain_size (length a)
size_exact s a = omega (arith, size_chain Intersect One (high_first s a), length_high s a, sizes_high s a)

-- the terms and their operators
size_differences : (d : Bool) (s : ℕ) (a : Bits) → size_all (differences d s a) + length (differences d s a) ≡ differences_size d a
size_differences d s [] = refl
size_differences d s (b ∷ a) =
    omega (arith, sizes_append (differences d (suc s) a) (own (beq b d)), length-append (differences d (suc s) a) (own (beq b d)), size_differences d (suc s) a, size_own (beq b d))
  where
    tests : List Core
    tests = high_first (suc s) a ++ leaf (Test s (not d)) ∷ []

    own : Bool → List Core
    own x = cond x (chain Intersect One tests ∷ []) []

    size_own : (x : Bool) → size_all (own x) + length (own x) ≡ cond x (2 * length a + 2) 0
    size_own true = omega (arith, size_exact s (not d ∷ a))
    size_own false = refl

pub size_bound : (d : Bool) (s : ℕ) (a : Bits) → size (bound d s a) ≡ bound_size d a
size_bound d s a =
    let cs : List Core = differences d s a in
    let exact : Core = chain Intersect One (high_first s a) in
    omega (arith, size_chain Union Zero (cs ++ exact ∷ []), sizes_append cs (exact ∷ []), length-append cs (exact ∷ []), size_differences d s a, size_exact s a)

-- ## From the highest bit down

-- p is the bit below those from index q on
module _ (s : ℕ) (a : Bits) (w : ℕ) {p q : ℕ} (e : q ≡ suc p) (h : q ≤ w) where
  opened : stretch a p (w - p) ≡ get_or a p false ∷ stretch a q (w - q)
  opened =
      let n : w - p ≡ suc (w - q) = omega arith in
      ap (stretch a p) n ∙ ap (λ k. get_or a p false ∷ stretch a k (w - q)) (sym e)

  field : suc (s + p) ≡ s + q
  field = omega arith

  tops_more : tops s a w p ≡ tops s a w q ++ leaf (Test (s + p) (get_or a p false)) ∷ []
  tops_more =
      ap (high_first (s + p)) opened
      ∙ ap (λ k. high_first k (stretch a q (w - q)) ++ leaf (Test (s + p) (get_or a p false)) ∷ []) field

  term_is : (v : Bool) → chain Intersect One (tops s a w q ++ leaf (Test (s + p) v) ∷ []) ≡ term s a w p v
  term_is v = ap (λ k. chain Intersect One (tops s a w k ++ leaf (Test (s + p) v) ∷ [])) e

  differences_more : (d : Bool)
      → differences d (s + p) (stretch a p (w - p)) ≡ differences d (s + q) (stretch a q (w - q)) ++ difference d s a w p
  differences_more d =
      ap (differences d (s + p)) opened
      ∙ ap (λ k. differences d k (stretch a q (w - q))
      ++ cond (beq (get_or a p false) d) (chain Intersect One (high_first k (stretch a q (w - q)) ++ leaf (Test (s + p) (not d)) ∷ []) ∷ []) []) field
      ∙ ap (λ c. differences d (s + q) (stretch a q (w - q)) ++ cond (beq (get_or a p false) d) (c ∷ []) []) (term_is (not d))

-- how many records the terms of the bits from index p on have
pub size_more : (d : Bool) (a : Bits) (w : ℕ) {p q : ℕ} → q ≡ suc p → q ≤ w
    → differences_size d (stretch a p (w - p)) ≡ differences_size d (stretch a q (w - q)) + difference_size d a w p
size_more d a w {p} {q} e h =
    let k : 2 * length (stretch a q (w - q)) + 2 ≡ 2 * (w - p) = omega (arith, length_stretch a q (w - q)) in
    ap (differences_size d) (opened 0 a w e h) ∙ ap (λ n. differences_size d (stretch a q (w - q)) + cond (beq (get_or a p false) d) n 0) k

pub size_whole : (d : Bool) (a : Bits) (w : ℕ) {p : ℕ} → p ≡ 0 → chain_size w + differences_size d (stretch a p (w - p)) ≡ bound_size d (stretch a 0 w)
size_whole d a w {p} e =
    let n : w - p ≡ w = omega arith in
    let t : differences_size d (stretch a p (w - p)) ≡ differences_size d (stretch a 0 w) = (λ i. differences_size d (stretch a (e i) (n i))) in
    omega (arith, length_stretch a 0 w)

-- the terms of the highest bits have no more records than all
pub size_below : (d : Bool) (a : Bits) (w p : ℕ) → p ≤ w → differences_size d (stretch a p (w - p)) ≤ differences_size d (stretch a 0 w)
size_below d a w zero h = rw (sub-zero w) (omega arith)
size_below d a w (suc p) h = omega (arith, size_more d a w {p = p} refl h, size_below d a w p (omega arith))

-- ## Writing

length_tops : (s : ℕ) (a : Bits) (w p : ℕ) → length (linked Intersect (tops s a w p)) ≡ 6 * (w - p)
length_tops s a w p =
    let t : Bits = stretch a p (w - p) in
    omega (arith, length_linked Intersect (tops s a w p), length_stretch a p (w - p), length_high (s + p) t, sizes_high (s + p) t)

-- what is written so far are the tests of the bits from index q on, and p is the next bit
module _ (s : ℕ) (a : Bits) (w : ℕ) {p q : ℕ} (e : q ≡ suc p) (h : q ≤ w) (l : List ℕ) (at : ℕ) {to : ℕ} {xs : List ℕ}
    (sofar : xs ≡ sets l at (linked Intersect (tops s a w q))) (place : to ≡ at + 6 * (w - q)) where
  behind : to ≡ at + length (linked Intersect (tops s a w q))
  behind = omega (arith, length_tops s a w q)

  pub top_more : {b : Bool} → b ≡ get_or a p false → sets xs to (8 ∷ 0 ∷ 0 ∷ 6 ∷ (s + p) ∷ bit b ∷ []) ≡ sets l at (linked Intersect (tops s a w p))
  top_more next =
      (λ i. sets (sofar i) to (8 ∷ 0 ∷ 0 ∷ 6 ∷ (s + p) ∷ bit (next i) ∷ []))
      ∙ link_more Intersect (tops s a w q) (leaf (Test (s + p) (get_or a p false))) l at behind
      ∙ ap (λ (cs : List Core). sets l at (linked Intersect cs)) (sym (tops_more s a w e h))

  pub top_last : (v : Bool) → sets xs to (6 ∷ (s + p) ∷ bit v ∷ []) ≡ sets l at (words (term s a w p v))
  top_last v =
      ap (λ (ys : List ℕ). sets ys to (6 ∷ (s + p) ∷ bit v ∷ [])) sofar
      ∙ link_last Intersect (tops s a w q) (leaf (Test (s + p) v)) l at behind One
      ∙ ap (λ c. sets l at (words c)) (term_is s a w e h v)

-- no bit has links yet
-- links stay when numbers are stored behind them
pub ready_under : {s : ℕ} {a : Bits} {w : ℕ} {xs xs' : List ℕ} {r : Progress} (ys : List ℕ) → Ready s a w xs r → xs' ≡ sets xs r.to ys
    → Ready s a w xs' (record { to = r.to + length ys; from = r.from; done = r.done })
ready_under {s} {a} {w} {xs} {xs'} {r} ys h e = record {
  reach = h.reach;
  before = omega (arith, h.before);
  stand = rw e (under r.to ys (omega (arith, h.before, length_tops s a w r.done)) h.stand);
}

-- links copied to where the next records go
pub links_copied : {s : ℕ} {a : Bits} {w : ℕ} {xs xs' : List ℕ} {r : Progress} → Ready s a w xs r → Kept r.to xs xs'
    → ((ys : List ℕ) → length ys ≡ 6 * (w - r.done) → Holds xs r.from ys → Holds xs' r.to ys)
    → ((k : ℕ) → r.to + 6 * (w - r.done) ≤ k → get_or xs' k 0 ≡ get_or xs k 0)
    → xs' ≡ sets xs r.to (linked Intersect (tops s a w r.done))
links_copied {s} {a} {w} {xs} {xs'} {r} h kept copied behind =
    let long = length_tops s a w r.done in
    sets_is (linked Intersect (tops s a w r.done)) kept (copied _ long h.stand) (λ k l. behind k (omega arith))

-- the links of a term that is written
links_stand : (s : ℕ) (a : Bits) (w p : ℕ) (v : Bool) (xs : List ℕ) (at : ℕ) → p < w → at + 3 * chain_size (w - p) ≤ length xs
    → Holds (sets xs at (words (term s a w p v))) at (linked Intersect (tops s a w (p + 1)))
links_stand s a w p v xs at l h =
    let us : List ℕ = linked Intersect (tops s a w (suc p)) in
    let vs : List ℕ = words (leaf (Test (s + p) v)) in
    let e : words (term s a w p v) ≡ us ++ vs = words_chain Intersect One (tops s a w (suc p)) (leaf (Test (s + p) v)) in
    let long : length (words (term s a w p v)) ≡ 6 * (w - suc p) + 3 = ap length e ∙ length-append us vs ∙ ap (λ n. n + 3) (length_tops s a w (suc p)) in
    rw (add-one p) (left us vs (moved (stored xs at (words (term s a w p v)) (omega arith)) refl e))

-- the term of a bit, where it has one
module _ (d : Bool) (s : ℕ) (a : Bits) (w p : ℕ) (xs : List ℕ) {r : Progress} (l : p < r.done) (h : Ready s a w xs r) where
  pub difference_one : beq (get_or a p false) d ≡ true → r.to + 6 * (w - p) ≤ length xs → {ys zs : List ℕ}
      → ys ≡ sets xs r.to (7 ∷ 0 ∷ 0 ∷ []) → zs ≡ sets ys (r.to + 3) (words (term s a w p (not d)))
      → Differs d s a w p xs r.to zs (record { to = r.to + 6 * (w - p); from = r.to + 3; done = p + 1 })
  difference_one e room {ys} {zs} first second =
      let at : ℕ = r.to in
      let own : List ℕ = words (term s a w p (not d)) in
      let both : zs ≡ sets xs at (7 ∷ 0 ∷ 0 ∷ (own ++ [])) =
      second
      ∙ ap (λ (l : List ℕ). sets l (at + 3) own) first
      ∙ sets_append xs at (7 ∷ 0 ∷ 0 ∷ []) own
      ∙ ap (λ (l : List ℕ). sets xs at (7 ∷ 0 ∷ 0 ∷ l)) (sym (append-nil own)) in
      record {
        written = rw e both;
        next = rw e (omega arith);
        above = omega arith;
        ready = record {
          reach = omega (arith, h.reach);
          before = omega (arith, h.reach);
          stand = rw second (links_stand s a w p (not d) ys (at + 3) (omega (arith, h.reach)) (omega (arith, h.reach, ap length first, length-sets xs at (7 ∷ 0 ∷ 0 ∷ []))));
        };
      }

-- what is written so far are the terms of the bits from index q on
module _ (d : Bool) (s : ℕ) (a : Bits) (w q : ℕ) (l : List ℕ) (at : ℕ) {to : ℕ} {xs : List ℕ}
    (sofar : xs ≡ sets l at (linked Union (differences d (s + q) (stretch a q (w - q)))))
    (place : to ≡ at + 3 * differences_size d (stretch a q (w - q))) where
  abbrev terms : List Core
  terms = differences d (s + q) (stretch a q (w - q))

  end : to ≡ at + length (linked Union terms)
  end = omega (arith, length_linked Union terms, size_differences d (s + q) (stretch a q (w - q)))

  pub bound_more : {p : ℕ} → q ≡ suc p → q ≤ w → {ys : List ℕ} {r : Progress} → Differs d s a w p xs to ys r
      → ys ≡ sets l at (linked Union (differences d (s + p) (stretch a p (w - p))))
  bound_more {p} e h step =
      let own : List ℕ = linked Union (difference d s a w p) in
      step.written
      ∙ (λ i. sets (sofar i) (end i) own)
      ∙ sets_append l at (linked Union terms) own
      ∙ ap (sets l at) (sym (linked_append Union terms (difference d s a w p)) ∙ ap (linked Union) (sym (differences_more s a w e h d)))

  pub bound_last : q ≡ 0 → 0 < w → {b : Bool} → b ≡ get_or a 0 false → sets xs to (words (term s a w 0 b)) ≡ sets l at (words (bound d s (stretch a 0 w)))
  bound_last e h {b} low =
      let exact : term s a w 0 b ≡ chain Intersect One (high_first s (stretch a 0 w)) =
      ap (term s a w 0) low
      ∙ ap (chain Intersect One) (sym (tops_more s a w {p = 0} refl (omega arith)) ∙ (λ i. high_first (add-zero s i) (stretch a 0 (sub-zero w i)))) in
      let all : terms ≡ differences d s (stretch a 0 w) =
      (λ i. differences d (s + e i) (stretch a (e i) (w - e i))) ∙ (λ i. differences d (add-zero s i) (stretch a 0 (sub-zero w i))) in
      ap (λ (ys : List ℕ). sets ys to (words (term s a w 0 b))) sofar
      ∙ link_last Union terms (term s a w 0 b) l at end Zero
      ∙ (λ i. sets l at (words (chain Union Zero (all i ++ exact i ∷ []))))
