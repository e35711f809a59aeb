-- Comparing two bounds over a field (document 02, change 2).
use mathlib.Core.{Path.◌≡◌, Bool.beq, Bool.false, Bool.cond}
use Rattle.std.specs.Prelude.{ℕ, zero, suc, ◌+◌, ◌-◌, ◌≤◌, ◌<◌}
use lib.{Dec.ltb, Dec.eqb, ListN.length, ListN.get_or}
use Rattle.literals.specs.{Bits.Bits, Bits.value_of}
use Rattle.std.specs.declared.cmp.Ordering.{Ordering}
use Rattle.std.specs.declared.cmp.Ordering.TheVariants.{Less, Equal, Greater}

-- how one number stands to another
abbrev pub order_of : ℕ → ℕ → Ordering
order_of a b = cond (ltb a b) Less (cond (eqb a b) Equal Greater)

-- "the equal bits above that one": how many of a field's w bits are equal, from the top bit down to the first that differs. A bound that is
-- shorter than the field has false bits there
abbrev pub equal_above : ℕ → Bits → Bits → ℕ
equal_above zero a b = 0
equal_above (suc i) a b = cond (beq (get_or a i false) (get_or b i false)) (1 + equal_above i a b) 0

-- "how many of the field's bits it looked at: one more than the equal bits above that one, or the field's width if none differs"
abbrev pub looked_at : ℕ → Bits → Bits → ℕ
looked_at w a b = cond (eqb (equal_above w a b) w) w (1 + equal_above w a b)

-- ## What the count is for: the theorem that no smaller one would do

-- two bounds over a field of w bits have the same n top bits
abbrev pub SameTop : (w n : ℕ) → Bits → Bits → Type 0
SameTop w n a b = (i : ℕ) → w - n ≤ i → i < w → get_or a i false ≡ get_or b i false

-- the n top bits decide the order of a and b: whatever stands below them, it is the same
abbrev pub TopDecides : (w n : ℕ) → Bits → Bits → Type 0
TopDecides w n a b = (c d : Bits) → length c ≤ w → length d ≤ w → SameTop w n a c → SameTop w n b d
    → order_of (value_of c) (value_of d) ≡ order_of (value_of a) (value_of b)

-- "stop when it's decided": the bits looked at decide the order, and no fewer do
pub record StopsWhenDecided (w : ℕ) (a b : Bits) : Type 0 where
  pub decided : TopDecides w (looked_at w a b) a b
  pub least : (n : ℕ) → TopDecides w n a b → looked_at w a b ≤ n
