-- How a test in work memory is negated, record by record. Only the contracts of src/test_negation/ speak of this.
use mathlib.Core.{Path.◌≡◌, Bool.Bool, Bool.true, Bool.false, Bool.cond, Bool.◌&&◌, List.List, List.[], List.◌∷◌, List.◌++◌}
use Rattle.std.specs.Prelude.{ℕ, zero, suc, ◌+◌, ◌-◌, ◌*◌, ◌/◌, ◌%◌, ◌^◌, ◌≤◌, ◌<◌, Option, Some, None}
use lib.{Dec.leb, Dec.ltb, Dec.eqb, ListN.length, ListN.get_or}
use Rattle.literals.specs.{Bits.bit}
use Rattle.expr.specs.{Terms.Core, Terms.leaf, Terms.one, Terms.two, Terms.atom_kind, Terms.op1_kind, Terms.op2_kind, Terms.size}
use Rattle.desugar.specs.declared.test_negation.modes.Mode.{Mode}
use Rattle.desugar.specs.declared.test_negation.modes.Mode.TheVariants.{Negate, Keep, Again, Skip}
use Rattle.desugar.specs.declared.test_negation.modes.Side.{Side}
use Rattle.desugar.specs.declared.test_negation.modes.Side.TheVariants.{Left, Right}
use Rattle.desugar.specs.declared.test_negation.modes.Written.{Written}
use Rattle.desugar.specs.declared.test_negation.modes.Written.TheVariants.{Nothing, Record, FromOne}
use Rattle.desugar.specs.declared.test_negation.notes.Note.{Note}
use Rattle.desugar.specs.declared.test_negation.places.Places.{Places}
use Rattle.desugar.specs.declared.test_negation.negated.Next.{Next}
use Rattle.desugar.specs.{Negation.is_test, Negation.is_one, Negation.again, Negation.negate, Memory.atom_field, Memory.atom_value, Memory.words, Memory.words_all, Memory.size_all, Memory.Holds, Memory.Lies}

-- ## Kinds

-- has each of the n records from index at on a kind with this property
abbrev pub all_kinds : (ℕ → Bool) → List ℕ → ℕ → ℕ → Bool
all_kinds kinds xs at zero = true
all_kinds kinds xs at (suc n) = kinds (get_or xs at 0) && all_kinds kinds xs (at + 3) n

-- ## Forests: the first record of the first core goes, and its operands come

abbrev pub core_kind : Core → ℕ
core_kind (leaf a) = atom_kind a
core_kind (one o c) = op1_kind o
core_kind (two o a b) = op2_kind o

abbrev pub core_field : Core → ℕ
core_field (leaf a) = atom_field a
core_field (one o c) = 0
core_field (two o a b) = 0

abbrev pub core_value : Core → ℕ
core_value (leaf a) = atom_value a
core_value (one o c) = 0
core_value (two o a b) = 0

abbrev pub operands : Core → List Core
operands (leaf a) = []
operands (one o c) = c ∷ []
operands (two o a b) = a ∷ b ∷ []

abbrev pub all_test : List Core → Bool
all_test [] = true
all_test (c ∷ cs) = is_test c && all_test cs

abbrev pub opened : List Core → List Core
opened [] = []
opened (c ∷ cs) = operands c ++ cs

-- what is left of a forest after j records
abbrev pub forest_at : ℕ → List Core → List Core
forest_at zero cs = cs
forest_at (suc j) cs = opened (forest_at j cs)

-- ## Notes: for each record the size of the core that begins there, and whether that is One when desugared again

abbrev pub one_again : Core → Bool
one_again c = is_one (again c)

abbrev pub note : Core → ℕ
note c = 2 * size c + bit (one_again c)

-- a note for each record, in prefix order
abbrev pub notes_of : Core → List ℕ
notes_of (leaf a) = note (leaf a) ∷ []
notes_of (one o c) = note (one o c) ∷ notes_of c
notes_of (two o a b) = note (two o a b) ∷ (notes_of a ++ notes_of b)

abbrev pub notes_all : List Core → List ℕ
notes_all [] = []
notes_all (c ∷ cs) = notes_of c ++ notes_all cs

-- the notes of the two operands of the record whose note stands at index note
abbrev pub left_at : List ℕ → ℕ → ℕ
left_at xs note = get_or xs (note + 1) 0

abbrev pub right_at : List ℕ → ℕ → ℕ
right_at xs note = get_or xs (note + 1 + left_at xs note / 2) 0

-- a record's note from its kind and the notes of its operands
abbrev pub leaf_note : ℕ → ℕ
leaf_note kind = 2 + bit (eqb kind 1)

-- 1 for a Sequence whose two operands have 1
abbrev pub pair_one : ℕ → ℕ → ℕ → ℕ
pair_one kind l r = bit (eqb kind 11 && (eqb l 1 && eqb r 1))

abbrev pub pair_note : ℕ → ℕ → ℕ → ℕ
pair_note kind l r = 2 * (l / 2 + r / 2 + 1) + pair_one kind (l % 2) (r % 2)

abbrev pub note_at : List ℕ → ℕ → ℕ → ℕ
note_at xs here note = cond (ltb (get_or xs here 0) 7) (leaf_note (get_or xs here 0)) (pair_note (get_or xs here 0) (left_at xs note) (right_at xs note))

-- two notes lie above the index note
pub record TwoNotes (xs : List ℕ) (note : ℕ) : Type 0 where
  pub left_in : note + 1 < length xs
  pub right_in : note + 1 + left_at xs note / 2 < length xs
  pub small : left_at xs note + right_at xs note + 2 < 2 ^ 32

-- a note as a number
abbrev pub note_number : Note → ℕ
note_number n = 2 * n.size + bit n.one

-- the record at index here can be noted at index note, where last is its first operand's note
pub record CanNote (xs : List ℕ) (here note : ℕ) (last : Note) : Type 0 where
  pub here_in : here < length xs
  pub note_in : note < length xs
  pub operands_in : 7 ≤ get_or xs here 0 → TwoNotes xs note
  pub first : 7 ≤ get_or xs here 0 → note_number last ≡ left_at xs note

-- the test c lies in its place, and its notes in theirs
pub record Noted (xs : List ℕ) (p : Places) (c : Core) : Type 0 where
  pub lies : Lies xs p.core.at p.core.count c
  pub test : is_test c ≡ true
  pub noted : Holds xs p.notes (notes_of c)

-- ## Modes: what is to be done with a core

abbrev pub code : Mode → ℕ
code Negate = 0
code Keep = 1
code Again = 2
code Skip = 3

-- the mode with this number
abbrev pub mode_of : ℕ → Mode
mode_of number = cond (eqb number 0) Negate (cond (eqb number 1) Keep (cond (eqb number 2) Again Skip))

abbrev pub side_code : Option Side → ℕ
side_code None = 0
side_code (Some Left) = 1
side_code (Some Right) = 2

-- which operand of a Sequence is dropped where it is desugared again: 1 the left, 2 the right, 0 none
abbrev pub drop_of : Bool → Bool → ℕ
drop_of l r = cond l 1 (cond r 2 0)

abbrev pub drop_at : List ℕ → ℕ → ℕ → ℕ → ℕ
drop_at xs note mode kind = cond (eqb mode 2) (cond (eqb kind 11) (drop_of (eqb (left_at xs note % 2) 1) (eqb (right_at xs note % 2) 1)) 0) 0

abbrev pub written_size : Written → ℕ
written_size Nothing = 0
written_size Record = 1
written_size FromOne = 3

-- how many records are written for a record
abbrev pub count_of : ℕ → ℕ → ℕ → ℕ
count_of mode kind drop = cond (eqb mode 3) 0 (cond (eqb mode 0) (cond (eqb kind 9) 3 1) (cond (eqb drop 0) 1 0))

abbrev pub new_kind : ℕ → ℕ → ℕ
new_kind mode kind = cond (eqb mode 0) (cond (eqb kind 0) 1 (cond (eqb kind 1) 0 (cond (eqb kind 6) 6 (cond (eqb kind 7) 8 7)))) kind

abbrev pub new_value : ℕ → ℕ → ℕ → ℕ
new_value mode kind value = cond (eqb mode 0) (cond (eqb kind 6) (1 - value) value) value

-- the numbers that are written: none, a record, or Difference and One with the record after them
abbrev pub own_words : (count mode kind field value : ℕ) → List ℕ
own_words count mode kind field value =
    cond (eqb count 0) []
    (cond (eqb count 3) (10 ∷ 0 ∷ 0 ∷ 1 ∷ 0 ∷ 0 ∷ kind ∷ field ∷ value ∷ []) (new_kind mode kind ∷ field ∷ new_value mode kind value ∷ []))

-- the modes of the operands
abbrev pub left_code : ℕ → ℕ → ℕ → ℕ
left_code mode kind drop = cond (eqb mode 0) (cond (eqb kind 9) 1 0) (cond (eqb drop 1) 3 mode)

abbrev pub right_code : ℕ → ℕ → ℕ → ℕ
right_code mode kind drop = cond (eqb mode 0) (cond (eqb kind 9) 1 (cond (eqb kind 10) 2 0)) (cond (eqb drop 2) 3 mode)

-- ## The forward pass: cores that are still to be gone through, each with its mode

pub data Task : Type 0 where
  task : Mode → Core → Task

-- what is written for a core
abbrev pub emit : Mode → Core → List ℕ
emit Negate c = words (negate c)
emit Keep c = words c
emit Again c = words (again c)
emit Skip c = []

abbrev pub emit_all : List Task → List ℕ
emit_all [] = []
emit_all (task m c ∷ ts) = emit m c ++ emit_all ts

abbrev pub cores_of : List Task → List Core
cores_of [] = []
cores_of (task m c ∷ ts) = c ∷ cores_of ts

abbrev pub codes_of : List Task → List ℕ
codes_of [] = []
codes_of (task m c ∷ ts) = code m ∷ codes_of ts

-- the pass over the core t, before record j: the stack of modes begins at s.top, and s.made records are written
pub record Run (xs : List ℕ) (t : Core) (p : Places) (j : ℕ) (s : Next) : Type 0 where
  pub plan : List Task
  pub test : all_test (cores_of plan) ≡ true
  pub records : Holds xs (p.core.at + 3 * j) (words_all (cores_of plan))
  pub noted : Holds xs (p.notes + j) (notes_all (cores_of plan))
  pub stack : Holds xs s.top (codes_of plan)
  pub depth : s.top + length plan ≡ p.modes + p.core.count
  pub left : j + size_all (cores_of plan) ≡ p.core.count
  pub done : List ℕ
  pub written : Holds xs p.out done
  pub long : length done ≡ 3 * s.made
  pub goal : done ++ emit_all plan ≡ words (negate t)

-- after a turn: the run goes on, or the whole is above the limit
pub record Stepped (xs : List ℕ) (t : Core) (p : Places) (j : ℕ) (s : Next) : Type 0 where
  pub on : s.made ≤ p.limit → Run xs t p j s
  pub over : p.limit < s.made → p.limit < size (negate t)

abbrev pub within : Bool → ℕ → Option ℕ
within true n = Some n
within false n = None

abbrev pub answer : ℕ → ℕ → Option ℕ
answer limit n = within (leb n limit) n

-- r is the size of the negation of c, which lies at index out, or None where the size is above the limit
pub record Result (xs : List ℕ) (c : Core) (out limit : ℕ) (r : Option ℕ) : Type 0 where
  pub is : r ≡ answer limit (size (negate c))
  pub holds : size (negate c) ≤ limit → Holds xs out (words (negate c))
