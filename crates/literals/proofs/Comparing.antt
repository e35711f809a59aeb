-- Laws of comparing bounds from the top bit, and the theorem that nothing fewer than the bits looked at would decide.
use mathlib.Core.Path.{◌≡◌, refl, sym, ap, ◌∙◌}
use mathlib.Core.Bool.{Bool, true, false, not, cond, beq, true≢false}
use mathlib.Core.List.{◌∷◌}
use Prim.Native.Nat.{ℕ, zero, suc, ◌+◌, ◌-◌, ◌*◌, ◌^◌, ◌≤◌, ◌<◌}
use native.Mathlib.Decide.{dec_lt}
use native.Mathlib.Numerals.{add-one, one-add}
use native.Mathlib.Omega.{arith}
use borrow.Author.Tests.{eq-eqb, ne_eqb, le-ltb, lt-ltb, not-true, not-false}
use lib.ListN.{length, get_or, take, drop, length-take, length-drop}
use lib.Seq.{take_all, get_or-drop}
use Rattle.literals.specs.Bits.{Bits, bit, value_of}
use Rattle.literals.specs.Comparing.{order_of, equal_above, looked_at, SameTop, TopDecides, StopsWhenDecided}
use Rattle.literals.specs.Results.{ComparedAs}
use Rattle.std.specs.declared.cmp.Ordering.{Ordering}
use Rattle.std.specs.declared.cmp.Ordering.TheVariants.{Less, Equal, Greater}
use Rattle.literals.proofs.Logic.{beq_is, ne_not}
use Rattle.literals.proofs.Bytes.{value_below_take}
use Rattle.literals.proofs.Values.{value_of_take}

-- ## Orders

order_below : (x y : ℕ) → x < y → order_of x y ≡ Less
order_below x y h = rw (lt-ltb x y h)

order_above : (x y : ℕ) → y < x → order_of x y ≡ Greater
order_above x y h = rw (le-ltb x y (omega arith), ne_eqb x y (λ e. omega arith))

order_equal : (x y : ℕ) → x ≡ y → order_of x y ≡ Equal
order_equal x y h = rw (le-ltb x y (omega arith), eq-eqb x y h)

order_both : (x y k : ℕ) → order_of (x + k) (y + k) ≡ order_of x y
order_both x y k = go (dec_lt x y) (dec_lt y x)
  where
    go : Dec (x < y) → Dec (y < x) → order_of (x + k) (y + k) ≡ order_of x y
    go (yes h) t = order_below (x + k) (y + k) (omega arith) ∙ sym (order_below x y h)
    go (no h) (yes g) = order_above (x + k) (y + k) (omega arith) ∙ sym (order_above x y g)
    go (no h) (no g) = order_equal (x + k) (y + k) (omega arith) ∙ sym (order_equal x y (omega arith))

abbrev pub is_equal : Ordering → Bool
is_equal Less = false
is_equal Equal = true
is_equal Greater = false

-- ## One bit on top

-- an equal one changes nothing
order_same : (i : ℕ) (a b : Bits) → get_or a i false ≡ get_or b i false
    → order_of (value_of (take (suc i) a)) (value_of (take (suc i) b)) ≡ order_of (value_of (take i a)) (value_of (take i b))
order_same i a b e =
    rw (← add-one i, value_of_take i a e, value_of_take i b refl)
    (order_both (value_of (take i a)) (value_of (take i b)) (2 ^ i * bit (get_or b i false)))

-- one that differs decides
order_differs : (i : ℕ) (a b : Bits) {x : Bool} → get_or a i false ≡ x → get_or b i false ≡ not x
    → order_of (value_of (take (suc i) a)) (value_of (take (suc i) b)) ≡ cond x Greater Less
order_differs i a b {x} e f =
    rw (← add-one i, value_of_take i a e, value_of_take i b f) (go x)
  where
    go : (t : Bool) → order_of (value_of (take i a) + 2 ^ i * bit t) (value_of (take i b) + 2 ^ i * bit (not t)) ≡ cond t Greater Less
    go true = order_above (value_of (take i a) + 2 ^ i * 1) (value_of (take i b) + 2 ^ i * 0) (omega (arith, value_below_take i b))
    go false = order_below (value_of (take i a) + 2 ^ i * 0) (value_of (take i b) + 2 ^ i * 1) (omega (arith, value_below_take i a))

-- ## Equal bits on top

same_bit : {a b : Bool} (n : ℕ) → a ≡ b → cond (beq a b) n 0 ≡ n
same_bit {a} {b} n e = rw ((beq_is a b).1 e)

module _ (a b : Bits) where
  -- the bits below them decide
  order_top : (w n : ℕ) → n ≤ w → SameTop w n a b
      → order_of (value_of (take w a)) (value_of (take w b)) ≡ order_of (value_of (take (w - n) a)) (value_of (take (w - n) b))
  order_top w zero h s =
      let all : w - 0 ≡ w = omega arith in
      rw all refl
  order_top zero (suc n) h s = absurd (omega arith)
  order_top (suc w) (suc n) h s =
      let less : suc w - suc n ≡ w - n = omega arith in
      rw less (order_same w a b (s w (omega arith) (omega arith)) ∙ order_top w n (omega arith) (λ i l m. s i (omega arith) (omega arith)))

  -- and they are counted
  count_top : (w n : ℕ) → n ≤ w → SameTop w n a b → equal_above w a b ≡ n + equal_above (w - n) a b
  count_top w zero h s =
      let all : w - 0 ≡ w = omega arith in
      rw all (omega arith)
  count_top zero (suc n) h s = absurd (omega arith)
  count_top (suc w) (suc n) h s =
      let less : suc w - suc n ≡ w - n = omega arith in
      let top = same_bit (1 + equal_above w a b) (s w (omega arith) (omega arith)) in
      rw less (omega (arith, top, count_top w n (omega arith) (λ i l m. s i (omega arith) (omega arith))))

-- ## Two bounds over a field of w bits: the bits on top are equal, and then one differs, or none

module _ (w : ℕ) (a b : Bits) where
  module _ (n : ℕ) (h : n < w) (s : SameTop w n a b) {x : Bool} (e : get_or a (w - (n + 1)) false ≡ x) (f : get_or b (w - (n + 1)) false ≡ not x) where
    next : w - n ≡ suc (w - (n + 1))
    next = omega arith

    pub looked_first : looked_at w a b ≡ n + 1
    looked_first =
        let stops : equal_above (w - n) a b ≡ 0 = rw next (rw (e, f) (apart x)) in
        let count : equal_above w a b ≡ n = omega (arith, count_top a b w n (omega arith) s) in
        rw (count, ne_eqb n w (λ k. omega arith)) (omega arith)
      where
        apart : (t : Bool) → cond (beq t (not t)) (1 + equal_above (w - (n + 1)) a b) 0 ≡ 0
        apart true = refl
        apart false = refl

    order_first : length a ≤ w → length b ≤ w → order_of (value_of a) (value_of b) ≡ cond x Greater Less
    order_first k l =
        (λ i. order_of (value_of (sym (take_all w a k) i)) (value_of (sym (take_all w b l) i)))
        ∙ order_top a b w n (omega arith) s
        ∙ (λ i. order_of (value_of (take (next i) a)) (value_of (take (next i) b)))
        ∙ order_differs (w - (n + 1)) a b e f

  module _ (s : SameTop w w a b) where
    none : w - w ≡ 0
    none = omega arith

    pub looked_none : looked_at w a b ≡ w
    looked_none =
        let count : equal_above w a b ≡ w = omega (arith, count_top a b w w (omega arith) s, ap (λ m. equal_above m a b) none) in
        rw (eq-eqb (equal_above w a b) w count)

    order_none : length a ≤ w → length b ≤ w → order_of (value_of a) (value_of b) ≡ Equal
    order_none k l =
        (λ i. order_of (value_of (sym (take_all w a k) i)) (value_of (sym (take_all w b l) i)))
        ∙ order_top a b w w (omega arith) s
        ∙ λ i. order_of (value_of (take (none i) a)) (value_of (take (none i) b))

-- ## The loop of `compare`

-- the n top bits are equal
pub record Comparing (w n : ℕ) (a b : Bits) : Type 0 where
  pub short : (length a ≤ w) × (length b ≤ w)
  pub equal : SameTop w n a b

pub comparing_start : (w m n : ℕ) (a b : Bits) → m ≤ w → n ≤ w → Comparing w 0 (take m a) (take n b)
comparing_start w m n a b h k = record {
  short = (omega (arith, length-take m a), omega (arith, length-take n b));
  equal = λ i l j. absurd (omega arith);
}

module _ {w n : ℕ} {a b : Bits} (c : Comparing w n a b) where
  module _ (h : n < w) {x y : Bool} (e : x ≡ get_or a (w - (n + 1)) false) (f : y ≡ get_or b (w - (n + 1)) false) where
    pub comparing_more : not (beq x y) ≡ false → Comparing w (n + 1) a b
    comparing_more t = record { short = c.short; equal = λ i l k. go i l k (dec_lt i (w - n)) }
      where
        go : (i : ℕ) → w - (n + 1) ≤ i → i < w → Dec (i < w - n) → get_or a i false ≡ get_or b i false
        go i l k (no g) = c.equal i (omega arith) k
        go i l k (yes g) =
            let at : i ≡ w - (n + 1) = omega arith in
            rw at (sym e ∙ (beq_is x y).0 (not-false _ t) ∙ f)

    pub comparing_differs : {o : Ordering} → not (beq x y) ≡ true → o ≡ cond x Greater Less → ComparedAs w a b (record { order = o; looked = n + 1 })
    comparing_differs t g =
        let opposite : get_or b (w - (n + 1)) false ≡ not x = sym f ∙ ne_not x y (λ h. true≢false (sym ((beq_is x y).1 h) ∙ not-true _ t)) in
        record {
          order = g ∙ sym (order_first w a b n h c.equal (sym e) opposite c.short.0 c.short.1);
          looked = sym (looked_first w a b n h c.equal (sym e) opposite);
        }

  pub comparing_end : w ≤ n → ComparedAs w a b (record { order = Equal; looked = w })
  comparing_end h =
      let same : SameTop w w a b = λ i l k. c.equal i (omega arith) k in
      record { order = sym (order_none w a b same c.short.0 c.short.1); looked = sym (looked_none w a b same) }

-- the loop goes down to bit i - 1
module _ {w i : ℕ} {a b : Bits} (h : 0 < i) (l : i ≤ w) (c : Comparing w (w - i) a b) where
  pub comparing_found : {o : Ordering} {x y : Bool} → x ≡ get_or a (i - 1) false → y ≡ get_or b (i - 1) false
      → not (beq x y) ≡ true → o ≡ cond x Greater Less → ComparedAs w a b (record { order = o; looked = w - (i - 1) })
  comparing_found e f t g =
      let place : w - (w - i + 1) ≡ i - 1 = omega arith in
      let count : w - (i - 1) ≡ w - i + 1 = omega arith in
      rw count (comparing_differs c (omega arith) (rw place e) (rw place f) t g)

-- ## Which of the two it is

data Compares (w : ℕ) (a b : Bits) : Type 0 where
  first : (n : ℕ) → n < w → SameTop w n a b → get_or b (w - (n + 1)) false ≡ not (get_or a (w - (n + 1)) false) → Compares w a b
  same : SameTop w w a b → Compares w a b

module _ (a b : Bits) where
  -- one more equal bit on top
  top_above : {w : ℕ} (n : ℕ) → get_or a w false ≡ get_or b w false → SameTop w n a b → SameTop (suc w) (suc n) a b
  top_above {w} n e s i h k = go (dec_lt i w)
    where
      go : Dec (i < w) → get_or a i false ≡ get_or b i false
      go (yes l) = s i (omega arith) l
      go (no l) =
          let at : i ≡ w = omega arith in
          rw at e

  one_more : (w : ℕ) → Compares w a b → Compares (suc w) a b
  one_more w c = go (get_or a w false) (get_or b w false) refl refl
    where
      above : get_or a w false ≡ get_or b w false → Compares w a b → Compares (suc w) a b
      above e (same s) = same (top_above w e s)
      above e (first n h s d) =
          let at : suc w - (suc n + 1) ≡ w - (n + 1) = omega arith in
          first (suc n) (omega arith) (top_above n e s) (rw at d)

      differs : get_or b w false ≡ not (get_or a w false) → Compares (suc w) a b
      differs d =
          let at : suc w - (0 + 1) ≡ w = omega arith in
          first 0 (omega arith) (λ i h k. absurd (omega arith)) (rw at d)

      go : (x y : Bool) → get_or a w false ≡ x → get_or b w false ≡ y → Compares (suc w) a b
      go true true e f = above (e ∙ sym f) c
      go false false e f = above (e ∙ sym f) c
      go true false e f = differs (f ∙ ap not (sym e))
      go false true e f = differs (f ∙ ap not (sym e))

  compares : (w : ℕ) → Compares w a b
  compares zero = same (λ i h k. absurd (omega arith))
  compares (suc w) = one_more w (compares w)

-- no more bits than there are
pub looked_within : (w : ℕ) (a b : Bits) → looked_at w a b ≤ w
looked_within w a b = go (compares a b w)
  where
    go : Compares w a b → looked_at w a b ≤ w
    go (same s) = omega (arith, looked_none w a b s)
    go (first n h s d) = omega (arith, looked_first w a b n h s refl d)

-- ## Nothing fewer decides

module _ (w : ℕ) (a b : Bits) (k : length a ≤ w) (l : length b ≤ w) where
  looked_decides : Compares w a b → TopDecides w (looked_at w a b) a b
  looked_decides (same s) c d m n t u =
      let all : looked_at w a b ≡ w = looked_none w a b s in
      let alike : SameTop w w c d = λ i h j. sym (t i (rw all h) j) ∙ s i h j ∙ u i (rw all h) j in
      order_none w c d alike m n ∙ sym (order_none w a b s k l)
  looked_decides (first x h s e) c d m n t u =
      let at : looked_at w a b ≡ x + 1 = looked_first w a b x h s refl e in
      let alike : SameTop w x c d = λ i g j. sym (t i (rw at (omega arith)) j) ∙ s i g j ∙ u i (rw at (omega arith)) j in
      let y : ℕ = w - (x + 1) in
      let p : get_or c y false ≡ get_or a y false = sym (t y (rw at (omega arith)) (omega arith)) in
      let q : get_or d y false ≡ not (get_or a y false) = sym (u y (rw at (omega arith)) (omega arith)) ∙ e in
      order_first w c d x h alike p q m n ∙ sym (order_first w a b x h s refl e k l)

  -- where the n top bits are equal and others stand below them, those may be equal or not
  undecided : (n : ℕ) → n < w → SameTop w n a b → TopDecides w n a b → ⊥
  undecided n h s t =
      let alike : order_of (value_of a) (value_of b) ≡ Equal =
      sym (t a a k k (λ i g j. refl) (λ i g j. sym (s i g j))) ∙ order_equal (value_of a) (value_of a) refl in
      let apart : order_of (value_of a) (value_of b) ≡ Greater =
      sym (t (true ∷ drop 1 a) (false ∷ drop 1 a) fits fits (lowest true) (λ i g j. sym (s i g j) ∙ lowest false i g j))
      ∙ order_above (1 + 2 * value_of (drop 1 a)) (0 + 2 * value_of (drop 1 a)) (omega arith) in
      true≢false (ap is_equal (sym alike ∙ apart))
    where
      fits : suc (length (drop 1 a)) ≤ w
      fits = omega (arith, length-drop 1 a)

      -- the same bound but for its lowest bit
      lowest : (x : Bool) → SameTop w n a (x ∷ drop 1 a)
      lowest x zero g j = absurd (omega arith)
      lowest x (suc i) g j = sym (get_or-drop 1 a i false ∙ ap (λ m. get_or a m false) (one-add i))

  looked_least : Compares w a b → (n : ℕ) → TopDecides w n a b → Dec (n < looked_at w a b) → looked_at w a b ≤ n
  looked_least c n t (no h) = omega arith
  looked_least (same s) n t (yes h) =
      let all : looked_at w a b ≡ w = looked_none w a b s in
      absurd (undecided n (omega arith) (λ i g j. s i (omega arith) j) t)
  looked_least (first x g s e) n t (yes h) =
      let at : looked_at w a b ≡ x + 1 = looked_first w a b x g s refl e in
      absurd (undecided n (omega arith) (λ i m j. s i (omega arith) j) t)

  pub stops_when_decided : StopsWhenDecided w a b
  stops_when_decided = record {
    decided = looked_decides (compares a b w);
    least = λ n t. looked_least (compares a b w) n t (dec_lt n (looked_at w a b));
  }
