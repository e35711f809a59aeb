-- Operators whose operands are being read, in the lent list.
use mathlib.Core.Path.{◌≡◌, refl, sym, ap, ◌∙◌}
use mathlib.Core.Bool.{Bool, true, false, not, cond, ◌&&◌, ◌||◌, false≢true}
use mathlib.Core.List.{List, [], ◌∷◌}
use Prim.Native.Nat.{ℕ, zero, suc, ◌+◌, ◌-◌, ◌≤◌, ◌<◌}
use native.Mathlib.Nat.{zero-add}
use native.Mathlib.Numerals.{add-one}
use native.Mathlib.Omega.{arith}
use borrow.Author.Tests.{lt-ltb, le-ltb, ltb-true, ltb-false, ne_eqb}
use lib.Dec.{ltb, eqb}
use lib.ListN.{length, get_or, set}
use lib.Seq.{get_or-set_same, get_or-set_other}
use Rattle.expr.specs.Kinds.{kind_number}
use Rattle.literals.specs.Bits.{bit}
use Rattle.expr.specs.Results.{arity_of}
use Rattle.expr.proofs.Arities.{arity_small}
use Rattle.packets.specs.Results.{leaf_mask, combined, settles, first, second, framed, mask_in, frame_in, frames_in, State, state_of, skipping, fed, closed_mask, opened, opened_kind, looked, stepped, Stepped}
use Rattle.cores.specs.declared.records.CoreRecord.{CoreRecord}
use Rattle.packets.specs.declared.frames.Progress.{Progress}

-- ## Frames in memory

-- what lies behind the frames does not count
pub frames_below : (xs : List (List ℕ)) (i : ℕ) (v : List ℕ) (n : ℕ) → n ≤ i → frames_in (set xs i v) n ≡ frames_in xs n
frames_below xs i v zero h = refl
frames_below xs i v (suc n) h =
    let same : get_or (set xs i v) n [] ≡ get_or xs n [] = get_or-set_other xs i n v [] (λ e. omega (arith, e)) in
    λ j. frame_in (same j) ∷ frames_below xs i v n (omega arith) j

-- a frame that was written
pub frame_put : (k m : ℕ) → frame_in (framed k m) ≡ cond (ltb k 16) (first k) (second (k - 16) m)
frame_put k m = let mask : mask_in (framed k m) ≡ m = omega arith in λ j. cond (ltb k 16) (first k) (second (k - 16) (mask j))

frames_put : (xs : List (List ℕ)) (n : ℕ) → n < length xs → (k m : ℕ) → frames_in (set xs n (framed k m)) (n + 1) ≡ cond (ltb k 16) (first k) (second (k - 16) m) ∷ frames_in xs n
frames_put xs n h k m =
    (λ i. frames_in (set xs n (framed k m)) (add-one n i))
    ∙ (λ i. frame_in (get_or-set_same xs n (framed k m) [] h i) ∷ frames_below xs n (framed k m) n (omega arith) i)
    ∙ λ i. frame_put k m i ∷ frames_in xs n

-- ## The loop of feed

skipping_none : (st : State) → skipping 0 st ≡ st
skipping_none st = λ i. record { skip = zero-add st.skip i; frames = st.frames; mask = st.mask }

skipping_more : (n : ℕ) (st : State) → skipping n (skipping 1 st) ≡ skipping (n + 1) st
skipping_more n st = let e : n + (1 + st.skip) ≡ n + 1 + st.skip = omega arith in λ i. record { skip = e i; frames = st.frames; mask = st.mask }

-- no operator is settled that has its first operand
high_settled : (k m : ℕ) → ltb k 16 ≡ false → settles k m ≡ false
high_settled k m h = go (eqb m 0) (λ i. other 8 (omega arith) i || (other 10 (omega arith) i || other 11 (omega arith) i))
  where
    other : (j : ℕ) → j < 16 → eqb k j ≡ false
    other j l = ne_eqb k j (λ e. omega (arith, e, l, ltb-false k 16 h))

    go : {y : Bool} (x : Bool) → y ≡ false → (x && y) ≡ false
    go true e = e
    go false e = refl

-- the frames from the first up to depth are left, and the last mask is m
pub record Feeding (list₀ : List (List ℕ)) (from value : ℕ) (list : List (List ℕ)) (depth m skip : ℕ) : Type 0 where
  pub long : length list ≡ length list₀
  pub low : depth + skip ≤ from
  pub is : fed (frames_in list₀ from) value ≡ skipping skip (fed (frames_in list depth) m)

module _ {list₀ : List (List ℕ)} {from value : ℕ} {list : List (List ℕ)} {depth m skip : ℕ} (f : Feeding list₀ from value list depth m skip) where
  module _ (some : 0 < depth) (room : from ≤ length list₀) where
    abbrev n : ℕ
    n = depth - 1

    same_depth : depth ≡ suc n
    same_depth = omega arith

    pub feed_inside : n < length list
    feed_inside = omega (arith, f.low, f.long, room)

    abbrev frame : List ℕ
    frame = get_or list n []

    abbrev kind : ℕ
    kind = get_or frame 0 0

    opened_is : fed (frames_in list₀ from) value ≡ skipping skip (fed (frame_in frame ∷ frames_in list n) m)
    opened_is = f.is ∙ ap (λ d. skipping skip (fed (frames_in list d) m)) same_depth

    -- an operator that is closed
    pub feed_closed : {s : Bool} {m' skip' : ℕ} → s ≡ settles kind m → (ltb kind 16 && not s) ≡ false → m' ≡ closed_mask frame m → skip' ≡ skip + bit s
        → Feeding list₀ from value list n m' skip'
    feed_closed {s} {m'} {skip'} e t c k = go (ltb kind 16) refl s e t k c
      where
        go : (b : Bool) → ltb kind 16 ≡ b → (x : Bool) → x ≡ settles kind m → (b && not x) ≡ false → skip' ≡ skip + bit x
            → m' ≡ cond b m (combined (kind - 16) (mask_in frame) m) → Feeding list₀ from value list n m' skip'
        go true p false q r u v = absurd (false≢true (sym r))
        go true p true q r u v = record {
          long = f.long;
          low = omega (arith, f.low, u);
          is =
              opened_is
              ∙ (λ i. skipping skip (fed (cond (p i) (first kind) (second (kind - 16) (mask_in frame)) ∷ frames_in list n) m))
              ∙ (λ i. skipping skip (cond (sym q i) (skipping 1 (fed (frames_in list n) m)) (record { skip = 0; frames = second kind m ∷ frames_in list n; mask = m })))
              ∙ skipping_more skip (fed (frames_in list n) m)
              ∙ λ i. skipping (sym u i) (fed (frames_in list n) (sym v i));
        }
        go false p x q r u v =
            let no : x ≡ false = q ∙ high_settled kind m p in
            let none : skip ≡ skip' = omega (arith, u, ap bit no) in
            record {
              long = f.long;
              low = omega (arith, f.low, none);
              is =
                  opened_is
                  ∙ (λ i. skipping skip (fed (cond (p i) (first kind) (second (kind - 16) (mask_in frame)) ∷ frames_in list n) m))
                  ∙ λ i. skipping (none i) (fed (frames_in list n) (sym v i));
            }

    -- an operator whose second operand is needed
    pub feed_second : {list' : List (List ℕ)} → ltb kind 16 ≡ true → settles kind m ≡ false → list' ≡ set list n (framed (kind + 16) m)
        → record { skip = skip; frames = frames_in list' (n + 1); mask = m } ≡ fed (frames_in list₀ from) value
    feed_second {list'} p q w =
        let low : ltb (kind + 16) 16 ≡ false = le-ltb (kind + 16) 16 (omega arith) in
        let back : kind + 16 - 16 ≡ kind = omega arith in
        let none : skip ≡ skip + 0 = omega arith in
        let frames : frames_in list' (n + 1) ≡ second kind m ∷ frames_in list n =
        (λ i. frames_in (w i) (n + 1)) ∙ frames_put list n feed_inside (kind + 16) m ∙ λ i. cond (low i) (first (kind + 16)) (second (back i) m) ∷ frames_in list n in
        (λ i. record { skip = none i; frames = frames i; mask = m })
        ∙ sym (
        opened_is
        ∙ (λ i. skipping skip (fed (cond (p i) (first kind) (second (kind - 16) (mask_in frame)) ∷ frames_in list n) m))
        ∙ λ i. skipping skip (cond (q i) (skipping 1 (fed (frames_in list n) m)) (record { skip = 0; frames = second kind m ∷ frames_in list n; mask = m }))
        )

-- ## One record

module _ (ps : List (List ℕ)) (list : List (List ℕ)) (sofar : Progress) (d : CoreRecord) (fits : sofar.depth ≤ length list) where
  -- read, by whether cores are skipped
  abbrev chosen : Bool → State
  chosen b =
      cond b (record { skip = sofar.skip - 1 + arity_of (kind_number d.kind); frames = frames_in list sofar.depth; mask = sofar.mask })
      (looked ps (frames_in list sofar.depth) (kind_number d.kind) d.field d.value)

  -- the record is not looked at
  pub step_skip : 0 < sofar.skip → {a : ℕ} → a ≡ arity_of (kind_number d.kind)
      → Stepped ps list sofar d list (record { depth = sofar.depth; mask = sofar.mask; skip = sofar.skip - 1 + a })
  step_skip some {a} e = record {
    is = λ _. (λ i. record { skip = sofar.skip - 1 + e i; frames = frames_in list sofar.depth; mask = sofar.mask }) ∙ ap chosen (sym (lt-ltb 0 sofar.skip some));
    fits = fits;
    deep = omega arith;
    few = omega (arith, arity_small (kind_number d.kind) a e);
  }

  module _ (none : sofar.skip ≤ 0) where
    looked_at_fact : looked ps (frames_in list sofar.depth) (kind_number d.kind) d.field d.value ≡ stepped ps (state_of list sofar) (kind_number d.kind) d.field d.value
    looked_at_fact = ap chosen (sym (le-ltb 0 sofar.skip none))

    -- it opens an operator
    pub step_open : 7 ≤ (kind_number d.kind) → sofar.depth < length list → {j : ℕ} → j ≡ opened_kind (kind_number d.kind) → {list' : List (List ℕ)} → list' ≡ set list sofar.depth (framed j 0)
        → Stepped ps list sofar d list' (record { depth = sofar.depth + 1; mask = 0; skip = 0 })
    step_open high room e {list'} w =
        let k : ℕ = (kind_number d.kind) in
        let n : ℕ = sofar.depth in
        let frames : frames_in list' (n + 1) ≡ opened k ∷ frames_in list n =
        (λ i. frames_in (w i) (n + 1)) ∙ (λ i. frames_in (set list n (framed (e i) 0)) (n + 1)) ∙ frames_put list n room (opened_kind k) 0 ∙ λ i. is_opened k i ∷ frames_in list n in
        record {
          is = λ _.
              (λ i. record { skip = 0; frames = frames i; mask = 0 })
              ∙ (λ i. cond (sym (le-ltb k 7 high) i) (fed (frames_in list n) (leaf_mask k d.field d.value ps)) (record { skip = 0; frames = opened k ∷ frames_in list n; mask = 0 }))
              ∙ looked_at_fact;
          fits = omega arith;
          deep = omega arith;
          few = omega arith;
        }
      where
        is_opened : (k : ℕ) → cond (ltb (opened_kind k) 16) (first (opened_kind k)) (second (opened_kind k - 16) 0) ≡ opened k
        is_opened k = go (ltb k 13) refl
          where
            go : (b : Bool) → ltb k 13 ≡ b → cond (ltb (cond b k (k + 16)) 16) (first (cond b k (k + 16))) (second (cond b k (k + 16) - 16) 0) ≡ cond b (first k) (second k 0)
            go true e = ap (λ x. cond x (first k) (second (k - 16) 0)) (lt-ltb k 16 (omega (arith, ltb-true k 13 e)))
            go false e =
                let back : k + 16 - 16 ≡ k = omega arith in
                ap (λ x. cond x (first (k + 16)) (second (k + 16 - 16) 0)) (le-ltb (k + 16) 16 (omega arith)) ∙ ap (λ j. second j 0) back
