-- Laws of cores that are gone through record by record in memory.
use mathlib.Core.Path.{◌≡◌, refl, sym, ap, ◌∙◌}
use mathlib.Core.Bool.{Bool, true, false, ◌&&◌, and_assoc, and-true}
use mathlib.Core.List.{List, [], ◌∷◌, ◌++◌, append_assoc, append-nil}
use Prim.Native.Nat.{ℕ, zero, suc, ◌+◌, ◌*◌, ◌-◌, ◌≤◌, ◌<◌}
use native.Mathlib.Nat.{not-suc-le-zero}
use native.Mathlib.Omega.{arith}
use lib.ListN.{length, get_or, length-append}
use Rattle.literals.proofs.Logic.{and_right}
use Rattle.expr.specs.Terms.{Atom, Op1, Op2, Core, leaf, one, two, Zero, One, Top, Dup, End, Assign, Test, Union, Intersect, Xor, Difference, Sequence, LtlUntil, Complement, Star, LtlNext, atom_kind, op1_kind, op2_kind, test_kind, size}
use Rattle.desugar.specs.Negation.{is_test}
use Rattle.desugar.specs.Memory.{words, Holds, Lies, words_all, size_all}
use Rattle.desugar.specs.NegationRun.{all_kinds, core_kind, core_field, core_value, operands, all_test, opened, forest_at, note, notes_of, notes_all}
use Rattle.desugar.proofs.Regions.{size_pos, moved, head, tail, length_words}

-- ## Lengths and sizes

pub notes_long : (c : Core) → length (notes_of c) ≡ size c
notes_long (leaf p) = refl
notes_long (one o a) = omega (arith, notes_long a)
notes_long (two o a b) = omega (arith, notes_long a, notes_long b, length-append (notes_of a) (notes_of b))

pub words_all_long : (cs : List Core) → length (words_all cs) ≡ 3 * size_all cs
words_all_long [] = refl
words_all_long (c ∷ cs) = omega (arith, length_words c, words_all_long cs, length-append (words c) (words_all cs))

pub notes_all_long : (cs : List Core) → length (notes_all cs) ≡ size_all cs
notes_all_long [] = refl
notes_all_long (c ∷ cs) = omega (arith, notes_long c, notes_all_long cs, length-append (notes_of c) (notes_all cs))

pub all_long : (cs : List Core) → length cs ≤ size_all cs
all_long [] = omega arith
all_long (c ∷ cs) = omega (arith, size_pos c, all_long cs)

-- ## The first record of a forest, and the rest

pub words_open : (c : Core) (cs : List Core) → words_all (c ∷ cs) ≡ core_kind c ∷ core_field c ∷ core_value c ∷ words_all (operands c ++ cs)
words_open (leaf p) cs = refl
words_open (one o a) cs = refl
words_open (two o a b) cs = rw append_assoc

pub notes_open : (c : Core) (cs : List Core) → notes_all (c ∷ cs) ≡ note c ∷ notes_all (operands c ++ cs)
notes_open (leaf p) cs = refl
notes_open (one o a) cs = refl
notes_open (two o a b) cs = rw append_assoc

pub size_open : (c : Core) (cs : List Core) → size_all (c ∷ cs) ≡ suc (size_all (operands c ++ cs))
size_open (leaf p) cs = omega arith
size_open (one o a) cs = omega arith
size_open (two o a b) cs = omega arith

-- the first core's record in memory, and the rest after it
pub record Spot (xs : List ℕ) (i : ℕ) (c : Core) (cs : List Core) : Type 0 where
  pub kind : get_or xs i 0 ≡ core_kind c
  pub field : get_or xs (i + 1) 0 ≡ core_field c
  pub value : get_or xs (i + 2) 0 ≡ core_value c
  pub rest : Holds xs (i + 3) (words_all (operands c ++ cs))

pub spot : {xs : List ℕ} {i : ℕ} (c : Core) (cs : List Core) → Holds xs i (words_all (c ∷ cs)) → Spot xs i c cs
spot {xs} {i} c cs h =
    let all : Holds xs i (core_kind c ∷ core_field c ∷ core_value c ∷ words_all (operands c ++ cs)) = moved h refl (words_open c cs) in
    record {
      kind = head all;
      field = head (tail all);
      value = ap (λ (k : ℕ). get_or xs k 0) (omega arith) ∙ head (tail (tail all));
      rest = moved (tail (tail (tail all))) (omega arith) refl;
    }

-- a forest with records left has a first core
pub record First (fs : List Core) : Type 0 where
  pub core : Core
  pub others : List Core
  pub is : fs ≡ core ∷ others

pub first : (fs : List Core) → 0 < size_all fs → First fs
first [] h = absurd (not-suc-le-zero h)
first (c ∷ cs) h = record { core = c; others = cs; is = refl }

-- ## J records on

size_step : (fs : List Core) → size_all (opened fs) ≡ size_all fs - 1
size_step [] = refl
size_step (c ∷ cs) = omega (arith, size_open c cs)

pub size_at : (j : ℕ) (fs : List Core) → size_all (forest_at j fs) ≡ size_all fs - j
size_at zero fs = omega arith
size_at (suc j) fs = omega (arith, size_step (forest_at j fs), size_at j fs)

words_step : {xs : List ℕ} {i : ℕ} (fs : List Core) → 0 < size_all fs → Holds xs i (words_all fs) → Holds xs (i + 3) (words_all (opened fs))
words_step [] l h = absurd (not-suc-le-zero l)
words_step (c ∷ cs) l h = (spot c cs h).rest

pub words_at : {xs : List ℕ} {i : ℕ} (j : ℕ) (fs : List Core) → j ≤ size_all fs → Holds xs i (words_all fs) → Holds xs (i + 3 * j) (words_all (forest_at j fs))
words_at zero fs l h = moved h (omega arith) refl
words_at (suc j) fs l h =
    moved (words_step (forest_at j fs) (omega (arith, size_at j fs)) (words_at j fs (omega arith) h)) (omega arith) refl

-- ## Record j of a core that lies in memory

pub record At (xs : List ℕ) (i j : ℕ) (c : Core) : Type 0 where
  pub core : Core
  pub others : List Core
  pub is : forest_at j (c ∷ []) ≡ core ∷ others
  pub spot : Spot xs i core others

pub lies_at : {xs : List ℕ} {at n : ℕ} (c : Core) → Lies xs at n c → (j : ℕ) → j ≤ n → Holds xs (at + 3 * j) (words_all (forest_at j (c ∷ [])))
lies_at c h j l = words_at j (c ∷ []) (omega (arith, h.count)) (moved h.holds refl (sym (append-nil (words c))))

pub at : {xs : List ℕ} {i n : ℕ} (c : Core) → Lies xs i n c → (j : ℕ) → j < n → At xs (i + 3 * j) j c
at {xs} {i} {n} c h j l =
    let f : First (forest_at j (c ∷ [])) = first (forest_at j (c ∷ [])) (omega (arith, size_at j (c ∷ []), h.count)) in
    record {
      core = f.core;
      others = f.others;
      is = f.is;
      spot = spot f.core f.others (moved (lies_at c h j (omega arith)) refl (ap words_all f.is));
    }

-- past the last record no core is left
pub over_at : {xs : List ℕ} {i n : ℕ} (c : Core) → Lies xs i n c → (j : ℕ) → n ≤ j → forest_at j (c ∷ []) ≡ []
over_at c h j l = none_left (forest_at j (c ∷ [])) (omega (arith, size_at j (c ∷ []), h.count))
  where
    none_left : (fs : List Core) → size_all fs ≡ 0 → fs ≡ []
    none_left [] e = refl
    none_left (f ∷ fs) e = absurd (omega (arith, size_pos f))

-- a property of forests that is one of each record's kind
module _ (kinds : ℕ → Bool) (all : List Core → Bool) (empty : all [] ≡ true) (opens : (c : Core) (cs : List Core) → all (c ∷ cs) ≡ (kinds (core_kind c) && all (operands c ++ cs))) where
  of_kinds : {xs : List ℕ} (n i : ℕ) (fs : List Core) → n ≡ size_all fs → Holds xs i (words_all fs) → all_kinds kinds xs i n ≡ all fs
  of_kinds zero i [] e h = sym empty
  of_kinds zero i (c ∷ cs) e h = absurd (omega (arith, size_pos c))
  of_kinds (suc n) i [] e h = absurd (omega arith)
  of_kinds {xs} (suc n) i (c ∷ cs) e h =
      let s : Spot xs i c cs = spot c cs h in
      let rest : all_kinds kinds xs (i + 3) n ≡ all (operands c ++ cs) = of_kinds n (i + 3) (operands c ++ cs) (omega (arith, size_open c cs)) s.rest in
      (λ i. kinds (s.kind i) && rest i) ∙ sym (opens c cs)

  pub kinds_of : {xs : List ℕ} {i n : ℕ} (c : Core) → Lies xs i n c → all_kinds kinds xs i n ≡ all (c ∷ [])
  kinds_of {i = i} {n = n} c h = of_kinds n i (c ∷ []) (omega (arith, h.count)) (moved h.holds refl (sym (append-nil (words c))))

-- from record j on: its kind, and the records behind it
pub kinds_from : (kinds : ℕ → Bool) (xs : List ℕ) (n j : ℕ) → j < n → {b : Bool} → b ≡ kinds (get_or xs (3 * j) 0)
    → all_kinds kinds xs (3 * j) (n - j) ≡ (b && all_kinds kinds xs (3 * (j + 1)) (n - (j + 1)))
kinds_from kinds xs n j l {b} e =
    let count : n - j ≡ suc (n - (j + 1)) = omega arith in
    let place : 3 * j + 3 ≡ 3 * (j + 1) = omega arith in
    rw count (λ i. sym e i && all_kinds kinds xs (place i) (n - (j + 1)))

-- ## The test fragment

test_op1 : (o : Op1) → test_kind (op1_kind o) ≡ false
test_op1 Complement = refl
test_op1 Star = refl
test_op1 LtlNext = refl

pub test_open : (c : Core) (cs : List Core) → all_test (c ∷ cs) ≡ (test_kind (core_kind c) && all_test (operands c ++ cs))
test_open (leaf p) cs = refl
test_open (one o a) cs = rw test_op1
test_open (two o a b) cs = rw (and_assoc, and_assoc)

pub test_kinds : {xs : List ℕ} {i n : ℕ} (c : Core) → Lies xs i n c → all_kinds test_kind xs i n ≡ is_test c
test_kinds c h = kinds_of test_kind all_test refl test_open c h ∙ and-true (is_test c)

-- ## Every core of a test's forest is a test

pub tests_open : (c : Core) (cs : List Core) → all_test (c ∷ cs) ≡ true → all_test (operands c ++ cs) ≡ true
tests_open c cs e = and_right (test_kind (core_kind c)) (all_test (operands c ++ cs)) (sym (test_open c cs) ∙ e)

tests_step : (fs : List Core) → all_test fs ≡ true → all_test (opened fs) ≡ true
tests_step [] e = refl
tests_step (c ∷ cs) e = tests_open c cs e

pub tests_at : (j : ℕ) (fs : List Core) → all_test fs ≡ true → all_test (forest_at j fs) ≡ true
tests_at zero fs e = e
tests_at (suc j) fs e = tests_step (forest_at j fs) (tests_at j fs e)

-- a leaf has a kind below 7, and an operator one from 7 on
pub leaf_kind : (p : Atom) → atom_kind p < 7
leaf_kind Zero = omega arith
leaf_kind One = omega arith
leaf_kind Top = omega arith
leaf_kind Dup = omega arith
leaf_kind End = omega arith
leaf_kind (Assign f v) = omega arith
leaf_kind (Test f v) = omega arith

pub op_kind : (o : Op2) → 7 ≤ op2_kind o
op_kind Union = omega arith
op_kind Intersect = omega arith
op_kind Xor = omega arith
op_kind Difference = omega arith
op_kind Sequence = omega arith
op_kind LtlUntil = omega arith
