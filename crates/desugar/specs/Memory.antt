-- Cores in work memory (document 01, "Forms that give way": "records in lent numbers").
use mathlib.Core.{Path.◌≡◌, Logic.◌⊎◌, List.List, List.[], List.◌∷◌, List.◌++◌}
use Rattle.std.specs.Prelude.{ℕ, ◌+◌, ◌≤◌, ◌<◌}
use lib.{ListN.length, ListN.get_or}
use Rattle.expr.specs.{Terms.Core, Terms.size}
pub use Rattle.desugar.specs.CoreRecords.{atom_field, atom_value, words}

-- of cores one behind the other
abbrev pub words_all : List Core → List ℕ
words_all [] = []
words_all (c ∷ cs) = words c ++ words_all cs

abbrev pub size_all : List Core → ℕ
size_all [] = 0
size_all (c ∷ cs) = size c + size_all cs

-- xs has the numbers ys from index i on
pub record Holds (xs : List ℕ) (i : ℕ) (ys : List ℕ) : Type 0 where
  pub fits : i + length ys ≤ length xs
  pub each : (k : ℕ) → k < length ys → get_or xs (i + k) 0 ≡ get_or ys k 0

-- below index n the list xs' is xs still, and it is as long
pub record Kept (n : ℕ) (xs xs' : List ℕ) : Type 0 where
  pub long : length xs' ≡ length xs
  pub each : (k : ℕ) → k < n → get_or xs' k 0 ≡ get_or xs k 0

-- the n records from index at on are those of the core c
pub record Lies (xs : List ℕ) (at n : ℕ) (c : Core) : Type 0 where
  pub holds : Holds xs at (words c)
  pub count : n ≡ size c

-- numbers can be copied down, or past their own end, within a memory of this length
pub record CopyRoom (long from to count : ℕ) : Type 0 where
  pub source : from + count ≤ long
  pub target : to + count ≤ long
  pub apart : (to ≤ from) ⊎ (from + count ≤ to)
