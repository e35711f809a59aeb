-- The map bits of each kind as one byte: the code's test is the definition's, at every kind and every map.
use mathlib.Core.Path.{◌≡◌, refl, sym, ap}
use mathlib.Core.Bool.{Bool, true, beq}
use mathlib.Core.List.{[], ◌∷◌}
use Prim.Native.Nat.{ℕ, ◌≤◌, ◌<◌}
use native.Mathlib.Omega.{arith}
use lib.Bits.{bit_or}
use lib.Dec.{eqb}
use lib.ListN.{get_or-eq_default}
use Rattle.literals.proofs.Logic.{beq_is}
use Rattle.expr.specs.Records.{kind_fields}
use Rattle.expr.specs.Results.{map_with, kind_map, none_foreign}
use Rattle.expr.proofs.Finite.{all_below, below}

-- what is no kind has bit 0 alone
pub map_past : (k : ℕ) → 27 ≤ k → 1 ≡ kind_map k
map_past k h = ap (λ is. map_with (0 ∷ is)) (sym (get_or-eq_default kind_fields [] {n = k} (omega arith)))

-- the code's test
abbrev covered : ℕ → ℕ → Bool
covered k m = eqb (bit_or m (kind_map k)) (kind_map k)

abbrev agrees : ℕ → ℕ → Bool
agrees k m = beq (covered k m) (none_foreign k m)

all_agree : all_below 27 (λ k. all_below 256 (agrees k)) ≡ true
all_agree = refl

pub covered_is : (k m : ℕ) → k ≤ 26 → m < 256 → covered k m ≡ none_foreign k m
covered_is k m hk hm =
    (beq_is (covered k m) (none_foreign k m)).0
    (below 256 (agrees k) (below 27 (λ j. all_below 256 (agrees j)) all_agree k (omega arith)) m hm)
