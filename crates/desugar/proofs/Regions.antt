-- Laws of regions: a region taken apart and put together, and what stores leave of it.
use mathlib.Core.Path.{◌≡◌, refl, sym, ap, ◌∙◌, subst}
use mathlib.Core.Bool.{Bool, true, false}
use mathlib.Core.Logic.{◌⊎◌, inl, inr}
use mathlib.Core.List.{List, [], ◌∷◌, ◌++◌}
use Prim.Native.Nat.{ℕ, zero, suc, ◌+◌, ◌-◌, ◌*◌, ◌/◌, ◌≤◌, ◌<◌}
use native.Mathlib.Nat.{not-suc-le-zero, le_of_suc-le-suc, add-suc, add-zero, suc-add, zero-add}
use native.Mathlib.Omega.{arith}
use borrow.Author.Count.{below_more}
use borrow.Author.Tests.{ltb-false, ltb-true}
use lib.Dec.{ltb}
use lib.ListN.{length, take, drop, get_or, set, length-append, length-set, get_or-append, length-take, length-drop}
use lib.Seq.{sets, length-sets, get_or-append-add, get_or-set_same, get_or-set_other, ext_get_or, get_or-take, get_or-drop}
use Rattle.expr.specs.Terms.{Core, leaf, one, two, size}
use Rattle.desugar.specs.Memory.{words, Holds, Kept, CopyRoom, Lies}

-- the same element, at an index that is equal
pub same_at : (xs : List ℕ) {i j : ℕ} → i ≡ j → get_or xs i 0 ≡ get_or xs j 0
same_at xs e = ap (λ (n : ℕ). get_or xs n 0) e

-- ## A region taken apart

pub head : {xs : List ℕ} {i y : ℕ} {ys : List ℕ} → Holds xs i (y ∷ ys) → get_or xs i 0 ≡ y
head {xs} h = same_at xs (omega arith) ∙ h.each 0 (omega arith)

pub left : {xs : List ℕ} {i : ℕ} (us vs : List ℕ) → Holds xs i (us ++ vs) → Holds xs i us
left us vs h = record {
  fits = omega (arith, h.fits, length-append us vs);
  each = λ k l. h.each k (omega (arith, l, length-append us vs)) ∙ get_or-append us vs 0 k l;
}

pub right : {xs : List ℕ} {i : ℕ} (us vs : List ℕ) → Holds xs i (us ++ vs) → Holds xs (i + length us) vs
right {xs} us vs h = record {
  fits = omega (arith, h.fits, length-append us vs);
  each = λ k l. same_at xs (omega arith) ∙ h.each (length us + k) (omega (arith, l, length-append us vs)) ∙ get_or-append-add us vs k 0;
}

-- the same region, at an offset and of a list that are equal
pub moved : {xs : List ℕ} {i j : ℕ} {ys zs : List ℕ} → Holds xs i ys → i ≡ j → ys ≡ zs → Holds xs j zs
moved {xs} {i} {j} {ys} {zs} h e f = subst (λ (n : ℕ). Holds xs n zs) e (subst (λ (l : List ℕ). Holds xs i l) f h)

pub tail : {xs : List ℕ} {i y : ℕ} {ys : List ℕ} → Holds xs i (y ∷ ys) → Holds xs (i + 1) ys
tail {xs} {i} {y} {ys} h = right (y ∷ []) ys h

-- ## A region put together

pub none : (xs : List ℕ) (i : ℕ) → i ≤ length xs → Holds xs i []
none xs i h = record { fits = omega arith; each = λ k l. absurd (not-suc-le-zero l) }

pub cons : {xs : List ℕ} {i y : ℕ} {ys : List ℕ} → get_or xs i 0 ≡ y → Holds xs (i + 1) ys → Holds xs i (y ∷ ys)
cons {xs} {i} {y} {ys} e h = record { fits = omega (arith, h.fits); each = at }
  where
    at : (k : ℕ) → k < suc (length ys) → get_or xs (i + k) 0 ≡ get_or (y ∷ ys) k 0
    at zero l = same_at xs (omega arith) ∙ e
    at (suc k) l = same_at xs (omega arith) ∙ h.each k (le_of_suc-le-suc l)

pub joined : {xs : List ℕ} {i : ℕ} (us vs : List ℕ) → Holds xs i us → Holds xs (i + length us) vs → Holds xs i (us ++ vs)
joined {xs} {i} [] vs h t = moved t (omega arith) refl
joined {xs} {i} (u ∷ us) vs h t = cons (head h) (joined {i = i + 1} us vs (tail h) (moved t (omega arith) refl))

-- ## What a run of stores leaves

pub sets_below : (xs : List ℕ) (i : ℕ) (vs : List ℕ) (k : ℕ) → k < i → get_or (sets xs i vs) k 0 ≡ get_or xs k 0
sets_below xs i [] k h = refl
sets_below xs i (v ∷ vs) k h = sets_below (set xs i v) (suc i) vs k (omega arith) ∙ get_or-set_other xs i k v 0 (omega arith)

pub sets_above : (xs : List ℕ) (i : ℕ) (vs : List ℕ) (k : ℕ) → i + length vs ≤ k → get_or (sets xs i vs) k 0 ≡ get_or xs k 0
sets_above xs i [] k h = refl
sets_above xs i (v ∷ vs) k h = sets_above (set xs i v) (suc i) vs k (omega arith) ∙ get_or-set_other xs i k v 0 (omega arith)

-- two runs of stores, one behind the other, are one
pub sets_append : (xs : List ℕ) (i : ℕ) (us vs : List ℕ) → sets (sets xs i us) (i + length us) vs ≡ sets xs i (us ++ vs)
sets_append xs i [] vs = ap (λ k. sets xs k vs) (add-zero i)
sets_append xs i (u ∷ us) vs =
    ap (λ k. sets (sets xs i (u ∷ us)) k vs) (add-suc i (length us) ∙ sym (suc-add i (length us))) ∙ sets_append (set xs i u) (suc i) us vs

-- the stores' own region
pub stored : (xs : List ℕ) (i : ℕ) (vs : List ℕ) → i + length vs ≤ length xs → Holds (sets xs i vs) i vs
stored xs i [] h = none xs i (omega arith)
stored xs i (v ∷ vs) h =
    cons
    (sets_below (set xs i v) (suc i) vs i (omega arith) ∙ get_or-set_same xs i v 0 (omega arith))
    (moved (stored (set xs i v) (suc i) vs (omega (arith, length-set xs i v))) (omega arith) refl)

-- a region that lies above the stores, and one that lies below
pub over : {xs : List ℕ} {i : ℕ} {ys : List ℕ} (j : ℕ) (vs : List ℕ) → j + length vs ≤ i → Holds xs i ys → Holds (sets xs j vs) i ys
over {xs} {i} j vs a h = record {
  fits = omega (arith, h.fits, length-sets xs j vs);
  each = λ k l. sets_above xs j vs (i + k) (omega arith) ∙ h.each k l;
}

pub under : {xs : List ℕ} {i : ℕ} {ys : List ℕ} (j : ℕ) (vs : List ℕ) → i + length ys ≤ j → Holds xs i ys → Holds (sets xs j vs) i ys
under {xs} {i} j vs a h = record {
  fits = omega (arith, h.fits, length-sets xs j vs);
  each = λ k l. sets_below xs j vs (i + k) (omega arith) ∙ h.each k l;
}

-- ## What is kept below an index

pub kept_all : (n : ℕ) (xs : List ℕ) → Kept n xs xs
kept_all n xs = record { long = refl; each = λ k l. refl }

pub kept_then : {n : ℕ} {xs ys zs : List ℕ} → Kept n xs ys → Kept n ys zs → Kept n xs zs
kept_then p q = record { long = q.long ∙ p.long; each = λ k l. q.each k l ∙ p.each k l }

pub kept_less : {m n : ℕ} {xs ys : List ℕ} → m ≤ n → Kept n xs ys → Kept m xs ys
kept_less h p = record { long = p.long; each = λ k l. p.each k (omega arith) }

pub kept_sets : (n : ℕ) (xs : List ℕ) (i : ℕ) (vs : List ℕ) → n ≤ i → Kept n xs (sets xs i vs)
kept_sets n xs i vs h = record { long = length-sets xs i vs; each = λ k l. sets_below xs i vs k (omega arith) }

pub kept_holds : {n : ℕ} {xs xs' : List ℕ} {i : ℕ} {ys : List ℕ} → Kept n xs xs' → i + length ys ≤ n → Holds xs i ys → Holds xs' i ys
kept_holds p a h = record {
  fits = omega (arith, h.fits, p.long);
  each = λ k l. p.each _ (omega arith) ∙ h.each k l;
}

-- a list that differs from xs only where it has the numbers ys is xs with these stored
pub sets_is : {xs xs' : List ℕ} {i : ℕ} (ys : List ℕ) → Kept i xs xs' → Holds xs' i ys → ((k : ℕ) → i + length ys ≤ k → get_or xs' k 0 ≡ get_or xs k 0)
    → xs' ≡ sets xs i ys
sets_is {xs} {xs'} {i} ys p h above =
    ext_get_or 0 xs' (sets xs i ys) (p.long ∙ sym (length-sets xs i ys)) (λ k l. go k (ltb k i) (ltb k (i + length ys)) refl refl)
  where
    own : Holds (sets xs i ys) i ys
    own = stored xs i ys (omega (arith, h.fits, p.long))

    go : (k : ℕ) (x y : Bool) → ltb k i ≡ x → ltb k (i + length ys) ≡ y → get_or xs' k 0 ≡ get_or (sets xs i ys) k 0
    go k true y e f = let l = ltb-true k i e in p.each k l ∙ sym (sets_below xs i ys k l)
    go k false true e f =
        let l : k - i < length ys = omega (arith, ltb-false k i e, ltb-true k (i + length ys) f) in
        let at : k ≡ i + (k - i) = omega (arith, ltb-false k i e) in
        same_at xs' at ∙ h.each (k - i) l ∙ sym (own.each (k - i) l) ∙ same_at (sets xs i ys) (sym at)
    go k false false e f = let l = ltb-false k (i + length ys) f in above k l ∙ sym (sets_above xs i ys k l)

-- ## A region as a part of the list

pub part : (xs : List ℕ) (i : ℕ) (ys : List ℕ) → Holds xs i ys → take (length ys) (drop i xs) ≡ ys
part xs i ys h =
    let long : length (take (length ys) (drop i xs)) ≡ length ys = simp (length-take, length-drop) (omega (arith, h.fits)) in
    ext_get_or 0 (take (length ys) (drop i xs)) ys long
    (λ k l. get_or-take (length ys) (drop i xs) k 0 (omega arith) ∙ get_or-drop i xs k 0 ∙ h.each k (omega arith))

-- ## A region that is copied, one number a turn

-- after i turns: the first i numbers are copied, and the others stand where they stood
pub record Copied (xs₀ xs : List ℕ) (from to count i : ℕ) : Type 0 where
  pub kept : Kept to xs₀ xs
  pub moved : (k : ℕ) → k < i → get_or xs (to + k) 0 ≡ get_or xs₀ (from + k) 0
  pub others : (k : ℕ) → i ≤ k → k < count → get_or xs (from + k) 0 ≡ get_or xs₀ (from + k) 0
  pub behind : (k : ℕ) → to + count ≤ k → get_or xs k 0 ≡ get_or xs₀ k 0

pub copied_none : (xs : List ℕ) (from to count : ℕ) → Copied xs xs from to count 0
copied_none xs from to count = record { kept = kept_all to xs; moved = λ k l. absurd (omega arith); others = λ k l m. refl; behind = λ k l. refl }

module _ (xs₀ xs : List ℕ) (from to count i : ℕ) (room : CopyRoom (length xs₀) from to count) where
  -- what is yet to be copied is not overwritten
  others_apart : (to ≤ from) ⊎ (from + count ≤ to) → (k : ℕ) → i < k → k < count → from + k ≡ to + i → ⊥
  others_apart (inl h) k l m e = omega arith
  others_apart (inr h) k l m e = omega arith

  pub copied_more : i < count → Copied xs₀ xs from to count i → Copied xs₀ (set xs (to + i) (get_or xs (from + i) 0)) from to count (i + 1)
  copied_more l c = record {
    kept = kept_then c.kept (kept_sets to xs (to + i) (get_or xs (from + i) 0 ∷ []) (omega arith));
    moved = below_more (λ (k : ℕ). get_or (set xs (to + i) (get_or xs (from + i) 0)) (to + k) 0 ≡ get_or xs₀ (from + k) 0) i
        (λ k l. get_or-set_other xs (to + i) (to + k) (get_or xs (from + i) 0) 0 (omega arith) ∙ c.moved k l)
        (get_or-set_same xs (to + i) (get_or xs (from + i) 0) 0 (omega (arith, c.kept.long, room.target)) ∙ c.others i (omega arith) l);
    others = λ k m n. get_or-set_other xs (to + i) (from + k) (get_or xs (from + i) 0) 0 (others_apart room.apart k (omega arith) n) ∙ c.others k (omega arith) n;
    behind = λ k m. get_or-set_other xs (to + i) k (get_or xs (from + i) 0) 0 (omega arith) ∙ c.behind k m;
  }

  pub copied_all : count ≤ i → Copied xs₀ xs from to count i → (ys : List ℕ) → length ys ≡ count → Holds xs₀ from ys → Holds xs to ys
  copied_all done c ys long h = record {
    fits = omega (arith, c.kept.long, room.target);
    each = λ k l. c.moved k (omega arith) ∙ h.each k l;
  }

-- ## Cores

pub size_pos : (c : Core) → 1 ≤ size c
size_pos (leaf a) = omega arith
size_pos (one o c) = omega arith
size_pos (two o a b) = omega arith

-- three numbers for each record
pub length_words : (c : Core) → length (words c) ≡ 3 * size c
length_words (leaf a) = refl
length_words (one o c) = omega (arith, length_words c)
length_words (two o a b) = omega (arith, length-append (words a) (words b), length_words a, length_words b)

-- the same core, at an index and of a count that are equal
pub lies_at : {xs : List ℕ} {at to n m : ℕ} {c : Core} → at ≡ to → n ≡ m → Lies xs at n c → Lies xs to m c
lies_at e f l = record { holds = moved l.holds e refl; count = sym f ∙ l.count }

-- the numbers of a core that lies in memory, as a slice
pub region_words : {xs : List ℕ} {at n : ℕ} {c : Core} → Lies xs at n c → take (3 * n) (drop at xs) ≡ words c
region_words {xs} {at} {n} {c} l = ap (λ k. take k (drop at xs)) (ap (λ m. 3 * m) l.count ∙ sym (length_words c)) ∙ part xs at (words c) l.holds

-- a core's numbers are the core, from the first on
pub slice_lies : {xs : List ℕ} {c : Core} → xs ≡ words c → Lies xs 0 (length xs / 3) c
slice_lies {xs} {c} e = record {
  holds = record { fits = omega (arith, ap length e); each = λ k l. same_at xs (zero-add k) ∙ ap (λ (ys : List ℕ). get_or ys k 0) e };
  count = omega (arith, ap length e, length_words c);
}
