-- What is written for a core is what is written for its first record, and then for its operands in their modes.
use mathlib.Core.Path.{◌≡◌, refl, sym, ap}
use mathlib.Core.Bool.{Bool, true, false, cond, false≢true}
use mathlib.Core.List.{List, [], ◌∷◌, ◌++◌, append-nil, append_assoc}
use Prim.Native.Nat.{ℕ, suc}
use lib.ListN.{length}
use Rattle.expr.specs.Terms.{Atom, Op2, Core, leaf, one, two, Zero, One, Top, Dup, End, Assign, Test, Union, Intersect, Xor, Difference, Sequence, LtlUntil, op2_kind}
use Rattle.desugar.specs.Negation.{is_test, again}
use Rattle.desugar.specs.Memory.{words}
use Rattle.desugar.specs.declared.test_negation.modes.Mode.{Mode}
use Rattle.desugar.specs.declared.test_negation.modes.Mode.TheVariants.{Negate, Keep, Again, Skip}
use Rattle.desugar.specs.NegationRun.{core_kind, core_field, core_value, operands, one_again, code, drop_of, count_of, own_words, left_code, right_code, Task, task, emit, emit_all, cores_of, codes_of}

-- ## The operands' modes

abbrev pub dropped : Mode → Core → ℕ
dropped Negate c = 0
dropped Keep c = 0
dropped Skip c = 0
dropped Again (leaf p) = 0
dropped Again (one o a) = 0
dropped Again (two Union a b) = 0
dropped Again (two Intersect a b) = 0
dropped Again (two Xor a b) = 0
dropped Again (two Difference a b) = 0
dropped Again (two Sequence a b) = drop_of (one_again a) (one_again b)
dropped Again (two LtlUntil a b) = 0

abbrev left_dropped : Bool → Mode
left_dropped true = Skip
left_dropped false = Again

abbrev right_dropped : Bool → Bool → Mode
right_dropped true r = Again
right_dropped false true = Skip
right_dropped false false = Again

abbrev pub left_mode : Mode → Op2 → Bool → Bool → Mode
left_mode Negate Union l r = Negate
left_mode Negate Intersect l r = Negate
left_mode Negate Xor l r = Keep
left_mode Negate Difference l r = Negate
left_mode Negate Sequence l r = Negate
left_mode Negate LtlUntil l r = Negate
left_mode Keep o l r = Keep
left_mode Skip o l r = Skip
left_mode Again Union l r = Again
left_mode Again Intersect l r = Again
left_mode Again Xor l r = Again
left_mode Again Difference l r = Again
left_mode Again Sequence l r = left_dropped l
left_mode Again LtlUntil l r = Again

abbrev pub right_mode : Mode → Op2 → Bool → Bool → Mode
right_mode Negate Union l r = Negate
right_mode Negate Intersect l r = Negate
right_mode Negate Xor l r = Keep
right_mode Negate Difference l r = Again
right_mode Negate Sequence l r = Negate
right_mode Negate LtlUntil l r = Negate
right_mode Keep o l r = Keep
right_mode Skip o l r = Skip
right_mode Again Union l r = Again
right_mode Again Intersect l r = Again
right_mode Again Xor l r = Again
right_mode Again Difference l r = Again
right_mode Again Sequence l r = right_dropped l r
right_mode Again LtlUntil l r = Again

abbrev pub tasks_of : Mode → Core → List Task
tasks_of m (leaf p) = []
tasks_of m (one o a) = task Keep a ∷ []
tasks_of m (two o a b) = task (left_mode m o (one_again a) (one_again b)) a ∷ task (right_mode m o (one_again a) (one_again b)) b ∷ []

left_drop : (l r : Bool) → left_code 2 11 (drop_of l r) ≡ code (left_dropped l)
left_drop true r = refl
left_drop false true = refl
left_drop false false = refl

right_drop : (l r : Bool) → right_code 2 11 (drop_of l r) ≡ code (right_dropped l r)
right_drop true r = refl
right_drop false true = refl
right_drop false false = refl

pub left_code_fact : (m : Mode) (o : Op2) (a b : Core) → left_code (code m) (op2_kind o) (dropped m (two o a b)) ≡ code (left_mode m o (one_again a) (one_again b))
left_code_fact Negate Union a b = refl
left_code_fact Negate Intersect a b = refl
left_code_fact Negate Xor a b = refl
left_code_fact Negate Difference a b = refl
left_code_fact Negate Sequence a b = refl
left_code_fact Negate LtlUntil a b = refl
left_code_fact Keep o a b = refl
left_code_fact Skip o a b = refl
left_code_fact Again Union a b = refl
left_code_fact Again Intersect a b = refl
left_code_fact Again Xor a b = refl
left_code_fact Again Difference a b = refl
left_code_fact Again Sequence a b = left_drop (one_again a) (one_again b)
left_code_fact Again LtlUntil a b = refl

pub right_code_fact : (m : Mode) (o : Op2) (a b : Core) → right_code (code m) (op2_kind o) (dropped m (two o a b)) ≡ code (right_mode m o (one_again a) (one_again b))
right_code_fact Negate Union a b = refl
right_code_fact Negate Intersect a b = refl
right_code_fact Negate Xor a b = refl
right_code_fact Negate Difference a b = refl
right_code_fact Negate Sequence a b = refl
right_code_fact Negate LtlUntil a b = refl
right_code_fact Keep o a b = refl
right_code_fact Skip o a b = refl
right_code_fact Again Union a b = refl
right_code_fact Again Intersect a b = refl
right_code_fact Again Xor a b = refl
right_code_fact Again Difference a b = refl
right_code_fact Again Sequence a b = right_drop (one_again a) (one_again b)
right_code_fact Again LtlUntil a b = refl

-- ## What is written for the first record

abbrev pub count_in : Mode → Core → ℕ
count_in m c = count_of (code m) (core_kind c) (dropped m c)

abbrev pub own : Mode → Core → List ℕ
own m c = own_words (count_in m c) (code m) (core_kind c) (core_field c) (core_value c)

-- a Sequence that is desugared again
again_sequence : (l r : Bool) (a b : Core) → words (cond l (again b) (cond r (again a) (two Sequence (again a) (again b)))) ≡ own_words (count_of 2 11 (drop_of l r)) 2 11 0 0 ++ (emit (left_dropped l) a ++ (emit (right_dropped l r) b ++ []))
again_sequence true r a b = sym (append-nil (words (again b)))
again_sequence false true a b = sym (append-nil (words (again a)))
again_sequence false false a b = rw append-nil

flipped : (f : ℕ) (v : Bool) → emit Negate (leaf (Test f v)) ≡ own Negate (leaf (Test f v)) ++ []
flipped f true = refl
flipped f false = refl

leaf_open : (m : Mode) (p : Atom) → is_test (leaf p) ≡ true → emit m (leaf p) ≡ own m (leaf p) ++ []
leaf_open Skip p t = refl
leaf_open Keep Zero t = refl
leaf_open Keep One t = refl
leaf_open Keep (Test f v) t = refl
leaf_open Keep Top t = absurd (false≢true t)
leaf_open Keep Dup t = absurd (false≢true t)
leaf_open Keep End t = absurd (false≢true t)
leaf_open Keep (Assign f v) t = absurd (false≢true t)
leaf_open Again Zero t = refl
leaf_open Again One t = refl
leaf_open Again (Test f v) t = refl
leaf_open Again Top t = absurd (false≢true t)
leaf_open Again Dup t = absurd (false≢true t)
leaf_open Again End t = absurd (false≢true t)
leaf_open Again (Assign f v) t = absurd (false≢true t)
leaf_open Negate Zero t = refl
leaf_open Negate One t = refl
leaf_open Negate (Test f v) t = flipped f v
leaf_open Negate Top t = absurd (false≢true t)
leaf_open Negate Dup t = absurd (false≢true t)
leaf_open Negate End t = absurd (false≢true t)
leaf_open Negate (Assign f v) t = absurd (false≢true t)

op_open : (m : Mode) (o : Op2) (a b : Core) → is_test (two o a b) ≡ true → emit m (two o a b) ≡ own m (two o a b) ++ emit_all (tasks_of m (two o a b))
op_open Skip o a b t = refl
op_open Keep Union a b t = rw append-nil
op_open Keep Intersect a b t = rw append-nil
op_open Keep Xor a b t = rw append-nil
op_open Keep Difference a b t = rw append-nil
op_open Keep Sequence a b t = rw append-nil
op_open Keep LtlUntil a b t = absurd (false≢true t)
op_open Again Union a b t = rw append-nil
op_open Again Intersect a b t = rw append-nil
op_open Again Xor a b t = rw append-nil
op_open Again Difference a b t = rw append-nil
op_open Again Sequence a b t = again_sequence (one_again a) (one_again b) a b
op_open Again LtlUntil a b t = absurd (false≢true t)
op_open Negate Union a b t = rw append-nil
op_open Negate Intersect a b t = rw append-nil
op_open Negate Xor a b t = rw append-nil
op_open Negate Difference a b t = rw append-nil
op_open Negate Sequence a b t = rw append-nil
op_open Negate LtlUntil a b t = absurd (false≢true t)

pub emit_open : (m : Mode) (c : Core) → is_test c ≡ true → emit m c ≡ own m c ++ emit_all (tasks_of m c)
emit_open m (leaf p) t = leaf_open m p t
emit_open m (one o a) t = absurd (false≢true t)
emit_open m (two o a b) t = op_open m o a b t

-- ## Lists of tasks

pub emit_append : (us vs : List Task) → emit_all (us ++ vs) ≡ emit_all us ++ emit_all vs
emit_append [] vs = refl
emit_append (task m c ∷ us) vs = rw (emit_append us vs) (sym (append_assoc (emit m c) (emit_all us) (emit_all vs)))

pub cores_open : (m : Mode) (c : Core) (ts : List Task) → cores_of (tasks_of m c ++ ts) ≡ operands c ++ cores_of ts
cores_open m (leaf p) ts = refl
cores_open m (one o a) ts = refl
cores_open m (two o a b) ts = refl

pub codes_long : (ts : List Task) → length (codes_of ts) ≡ length ts
codes_long [] = refl
codes_long (task m c ∷ ts) = ap suc (codes_long ts)

pub cores_long : (ts : List Task) → length (cores_of ts) ≡ length ts
cores_long [] = refl
cores_long (task m c ∷ ts) = ap suc (cores_long ts)

-- the plan's goal after its first record
pub goal_open : (m : Mode) (c : Core) (ts : List Task) (d w : List ℕ) → is_test c ≡ true → d ++ emit_all (task m c ∷ ts) ≡ w → (d ++ own m c) ++ emit_all (tasks_of m c ++ ts) ≡ w
goal_open m c ts d w t e =
    rw (emit_append (tasks_of m c) ts, append_assoc d (own m c) (emit_all (tasks_of m c) ++ emit_all ts), ← append_assoc (own m c) (emit_all (tasks_of m c)) (emit_all ts), ← emit_open m c t) e
