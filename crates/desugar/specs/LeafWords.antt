-- In what order the records of a range's core are written to work memory: the words of the contracts of src/leaves.rt, src/standing.rt,
-- src/masks.rt and src/between.rt. How many they are stands in Costs.
use mathlib.Core.{Path.◌≡◌, Bool.Bool, Bool.true, Bool.false, Bool.cond, Bool.not, Bool.beq, List.List, List.[], List.◌∷◌, List.◌++◌}
use Rattle.std.specs.Prelude.{ℕ, zero, suc, ◌+◌, ◌-◌, ◌*◌, ◌^◌, ◌≤◌, ◌<◌}
use lib.{ListN.length, ListN.get_or, Seq.sets}
use Rattle.literals.specs.{Bits.Bits, Bits.bit}
use Rattle.expr.specs.{Terms.Atom, Terms.Op2, Terms.Core, Terms.leaf, Terms.op2_kind, Terms.One, Terms.Test, Terms.Intersect, Terms.Union}
use Rattle.desugar.specs.declared.leaves.Chain.{Chain}
use Rattle.desugar.specs.declared.leaves.Chain.TheVariants.{Assigns, Tests}
use Rattle.desugar.specs.{Leaves.chain, Leaves.high_first, Costs.differences_size, Memory.Holds, Memory.words, declared.leaves.Progress.Progress, declared.standing.Standing.Standing}

-- n bits of a literal, from index i on: false beyond its last
abbrev pub stretch : Bits → ℕ → ℕ → Bits
stretch a i zero = []
stretch a i (suc n) = get_or a i false ∷ stretch a (suc i) n

-- the operands of a chain but its last, each behind its operator
abbrev pub linked : Op2 → List Core → List ℕ
linked o [] = []
linked o (c ∷ cs) = op2_kind o ∷ 0 ∷ 0 ∷ (words c ++ linked o cs)

-- the kinds of the operator and of the atoms of a chain
abbrev pub chain_operator : Chain → ℕ
chain_operator Assigns = 11
chain_operator Tests = 8

abbrev pub chain_atom : Chain → ℕ
chain_atom Assigns = 5
chain_atom Tests = 6

-- the kinds of an operator and of an atom with a field and a bit
pub record Kinds (operator atom : ℕ) (o : Op2) (f : ℕ → Bool → Atom) : Type 0 where
  pub operator_is : op2_kind o ≡ operator
  pub atom_is : (s : ℕ) (b : Bool) → words (leaf (f s b)) ≡ atom ∷ s ∷ bit b ∷ []

-- ## Bounds, from the highest bit of a width w down: what is written for the bits from index p on

-- the tests of the fields that agree with the bound
abbrev pub tops : ℕ → Bits → ℕ → ℕ → List Core
tops s a w p = high_first (s + p) (stretch a p (w - p))

-- the fields above bit p agree with the bound, and the field of bit p is v
abbrev pub term : ℕ → Bits → ℕ → ℕ → Bool → Core
term s a w p v = chain Intersect One (tops s a w (suc p) ++ leaf (Test (s + p) v) ∷ [])

-- the term of bit p, where it is d
abbrev pub difference : Bool → ℕ → Bits → ℕ → ℕ → List Core
difference d s a w p = cond (beq (get_or a p false) d) (term s a w p (not d) ∷ []) []

-- how many records that term has, with the operator before it
abbrev pub difference_size : Bool → Bits → ℕ → ℕ → ℕ
difference_size d a w p = cond (beq (get_or a p false) d) (2 * (w - p)) 0

-- how many bits stand
abbrev pub ones : Bits → ℕ
ones [] = 0
ones (b ∷ a) = bit b + ones a

-- the bits of a bound that stand were counted: how many they are, and how many records their terms have
pub record Stands (a : Bits) (s : Standing) : Type 0 where
  pub count : s.count ≡ ones a
  pub size : s.size ≡ differences_size true a

-- the links of the bits from index `done` on stand at `from`, before index `to`
pub record Ready (s : ℕ) (a : Bits) (w : ℕ) (xs : List ℕ) (r : Progress) : Type 0 where
  pub reach : r.done ≤ w
  pub before : r.from + 6 * (w - r.done) ≤ r.to
  pub stand : Holds xs r.from (linked Intersect (tops s a w r.done))

-- the term of bit p was written at index at, where there is one; r tells the index behind it, and where links of bits above p stand
pub record Differs (d : Bool) (s : ℕ) (a : Bits) (w p : ℕ) (xs : List ℕ) (at : ℕ) (xs' : List ℕ) (r : Progress) : Type 0 where
  pub written : xs' ≡ sets xs at (linked Union (difference d s a w p))
  pub next : r.to ≡ at + 3 * difference_size d a w p
  pub above : p < r.done
  pub ready : Ready s a w xs' r

-- ## Masks

-- the lowest w bits of a mask, up to the highest that is false: how many these are
abbrev pub trim : Bits → ℕ → ℕ
trim m zero = 0
trim m (suc w) = cond (get_or m w false) (trim m w) (suc w)

-- the numbers xs have room for n records from index at on, and the fields of a range can be counted
pub record RangeRoom (xs : List ℕ) (at n start width : ℕ) : Type 0 where
  pub room : at + 3 * n ≤ length xs
  pub fields : start + width ≤ 2 ^ 32
