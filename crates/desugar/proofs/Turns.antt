-- A turn of the forward pass.
use mathlib.Core.Path.{◌≡◌, refl, sym, ap, ◌∙◌}
use mathlib.Core.Bool.{Bool, true, false, cond, false≢true}
use mathlib.Core.List.{List, [], ◌∷◌, ◌++◌}
use Prim.Native.Nat.{ℕ, suc, ◌+◌, ◌*◌, ◌-◌, ◌≤◌, ◌<◌}
use native.Mathlib.Omega.{arith}
use lib.Dec.{eqb}
use lib.ListN.{length, get_or, length-append}
use lib.Seq.{sets, length-sets}
use Rattle.literals.proofs.Logic.{and_left}
use Rattle.literals.proofs.Bits.{bit_small}
use Rattle.expr.specs.Terms.{Atom, Core, leaf, one, two, Zero, One, Top, Dup, End, Assign, Test, Union, Intersect, Xor, Difference, Sequence, LtlUntil, Complement, Star, LtlNext, atom_kind, size}
use Rattle.desugar.specs.Negation.{is_test, negate}
use Rattle.desugar.specs.Memory.{atom_value, words, Holds, Kept, words_all, size_all}
use Rattle.desugar.specs.declared.test_negation.places.Places.{Places}
use Rattle.desugar.specs.declared.test_negation.negated.Next.{Next}
use Rattle.desugar.specs.declared.test_negation.modes.Mode.{Mode}
use Rattle.desugar.specs.declared.test_negation.modes.Mode.TheVariants.{Negate, Keep, Again, Skip}
use Rattle.desugar.specs.NegationRun.{core_kind, core_field, core_value, operands, all_test, one_again, notes_all, TwoNotes, code, drop_at, own_words, left_code, right_code, Task, task, emit_all, cores_of, codes_of, Run}
use Rattle.desugar.proofs.Regions.{moved, head, tail, joined, under, over, stored, kept_holds, kept_sets, kept_then, length_words, size_pos}
use Rattle.desugar.proofs.Forest.{Spot, spot, tests_open, words_all_long, notes_all_long, size_open, all_long, notes_open, leaf_kind, op_kind}
use Rattle.desugar.proofs.Notes.{Pair, pair, odd_is, two_notes}
use Rattle.desugar.proofs.Emitted.{dropped, tasks_of, own, count_in, left_code_fact, right_code_fact, left_mode, right_mode, goal_open, cores_open, codes_long, cores_long}

-- ## Numbers

own_cases : (b₁ b₂ b₃ b₄ : Bool) (mode kind f v : ℕ) →
    length (own_words (cond b₁ 0 (cond b₂ (cond b₃ 3 1) (cond b₄ 1 0))) mode kind f v) ≡ 3 * cond b₁ 0 (cond b₂ (cond b₃ 3 1) (cond b₄ 1 0))
own_cases true b₂ b₃ b₄ mode kind f v = refl
own_cases false true true b₄ mode kind f v = refl
own_cases false true false b₄ mode kind f v = refl
own_cases false false b₃ true mode kind f v = refl
own_cases false false b₃ false mode kind f v = refl

pub own_long : (m : Mode) (c : Core) → length (own m c) ≡ 3 * count_in m c
own_long m c = own_cases (eqb (code m) 3) (eqb (code m) 0) (eqb (core_kind c) 9) (eqb (dropped m c) 0) (code m) (core_kind c) (core_field c) (core_value c)

leaf_value : (p : Atom) → atom_value p ≤ 1
leaf_value Zero = omega arith
leaf_value One = omega arith
leaf_value Top = omega arith
leaf_value Dup = omega arith
leaf_value End = omega arith
leaf_value (Assign f v) = bit_small v
leaf_value (Test f v) = bit_small v

pub value_small : (c : Core) → core_value c ≤ 1
value_small (leaf p) = leaf_value p
value_small (one o a) = omega arith
value_small (two o a b) = omega arith

-- ## The run at its next record

pub record Now (xs : List ℕ) (t : Core) (p : Places) (j : ℕ) (s : Next) : Type 0 where
  pub mode : Mode
  pub core : Core
  pub rest : List Task
  pub test : all_test (core ∷ cores_of rest) ≡ true
  pub records : Holds xs (p.core.at + 3 * j) (words_all (core ∷ cores_of rest))
  pub noted : Holds xs (p.notes + j) (notes_all (core ∷ cores_of rest))
  pub stack : Holds xs s.top (code mode ∷ codes_of rest)
  pub depth : s.top + suc (length rest) ≡ p.modes + p.core.count
  pub left : j + (size core + size_all (cores_of rest)) ≡ p.core.count
  pub done : List ℕ
  pub written : Holds xs p.out done
  pub long : length done ≡ 3 * s.made
  pub goal : done ++ emit_all (task mode core ∷ rest) ≡ words (negate t)

module _ {xs : List ℕ} {t : Core} {p : Places} {j : ℕ} {s : Next} (l : j < p.core.count) where
  now_of : (plan : List Task) → all_test (cores_of plan) ≡ true
      → Holds xs (p.core.at + 3 * j) (words_all (cores_of plan)) → Holds xs (p.notes + j) (notes_all (cores_of plan)) → Holds xs s.top (codes_of plan)
      → s.top + length plan ≡ p.modes + p.core.count → j + size_all (cores_of plan) ≡ p.core.count
      → (done : List ℕ) → Holds xs p.out done → length done ≡ 3 * s.made → done ++ emit_all plan ≡ words (negate t)
      → Now xs t p j s
  now_of [] a b c d e f g h i k = absurd (omega arith)
  now_of (task m r ∷ rest) a b c d e f g h i k = record { mode = m; core = r; rest = rest; test = a; records = b; noted = c; stack = d; depth = e; left = f; done = g; written = h; long = i; goal = k }

  pub now : Run xs t p j s → Now xs t p j s
  now r = now_of r.plan r.test r.records r.noted r.stack r.depth r.left r.done r.written r.long r.goal

-- ## Which operand is dropped

drop_is : (xs : List ℕ) (i : ℕ) (m : Mode) (c : Core) (cs : List Core) → Holds xs (i + 1) (notes_all (operands c ++ cs)) → drop_at xs i (code m) (core_kind c) ≡ dropped m c
drop_is xs i Negate c cs h = refl
drop_is xs i Keep c cs h = refl
drop_is xs i Skip c cs h = refl
drop_is xs i Again (leaf p) cs h = leaf_none p
  where
    leaf_none : (p : Atom) → drop_at xs i 2 (atom_kind p) ≡ 0
    leaf_none Zero = refl
    leaf_none One = refl
    leaf_none Top = refl
    leaf_none Dup = refl
    leaf_none End = refl
    leaf_none (Assign f v) = refl
    leaf_none (Test f v) = refl
drop_is xs i Again (one Complement a) cs h = refl
drop_is xs i Again (one Star a) cs h = refl
drop_is xs i Again (one LtlNext a) cs h = refl
drop_is xs i Again (two Union a b) cs h = refl
drop_is xs i Again (two Intersect a b) cs h = refl
drop_is xs i Again (two Xor a b) cs h = refl
drop_is xs i Again (two Difference a b) cs h = refl
drop_is xs i Again (two LtlUntil a b) cs h = refl
drop_is xs i Again (two Sequence a b) cs h =
    let p : Pair xs i a b = pair a b cs h in
    rw (p.right, p.left, odd_is a, odd_is b)

-- ## The operands of a leaf, and of an operator

leaf_tasks : (m : Mode) (c : Core) → is_test c ≡ true → core_kind c < 7 → tasks_of m c ≡ []
leaf_tasks m (leaf p) t l = refl
leaf_tasks m (one o a) t l = absurd (false≢true t)
leaf_tasks m (two o a b) t l = absurd (omega (arith, op_kind o))

record Operands (m : Mode) (c : Core) : Type 0 where
  ml : Mode
  mr : Mode
  a : Core
  b : Core
  tasks_are : tasks_of m c ≡ task ml a ∷ task mr b ∷ []
  left_is : left_code (code m) (core_kind c) (dropped m c) ≡ code ml
  right_is : right_code (code m) (core_kind c) (dropped m c) ≡ code mr
  big : 3 ≤ size c

operands_of : (m : Mode) (c : Core) → is_test c ≡ true → 7 ≤ core_kind c → Operands m c
operands_of m (leaf p) t l = absurd (omega (arith, leaf_kind p))
operands_of m (one o a) t l = absurd (false≢true t)
operands_of m (two o a b) t l = record {
  ml = left_mode m o (one_again a) (one_again b);
  mr = right_mode m o (one_again a) (one_again b);
  a = a;
  b = b;
  tasks_are = refl;
  left_is = left_code_fact m o a b;
  right_is = right_code_fact m o a b;
  big = omega (arith, size_pos a, size_pos b);
}

-- ## What a turn finds, and where

module _ {xs : List ℕ} {t : Core} {p : Places} {j : ℕ} {s : Next} (room : p.out + 3 * p.limit ≤ length xs) (l : j < p.core.count) (r : Now xs t p j s) where
  first_test : is_test r.core ≡ true
  first_test = and_left (is_test r.core) (all_test (cores_of r.rest)) r.test

  here : Spot xs (p.core.at + 3 * j) r.core (cores_of r.rest)
  here = spot r.core (cores_of r.rest) r.records

  above : Holds xs (p.notes + j + 1) (notes_all (operands r.core ++ cores_of r.rest))
  above = tail (moved r.noted refl (notes_open r.core (cores_of r.rest)))

  -- the place of the turn: the record, the stack's top, the notes, and the room for what is written
  pub record Found : Type 0 where
    pub kind : get_or xs (p.core.at + 3 * j) 0 ≡ core_kind r.core
    pub field : get_or xs (p.core.at + 3 * j + 1) 0 ≡ core_field r.core
    pub value : get_or xs (p.core.at + 3 * j + 2) 0 ≡ core_value r.core
    pub value_small : get_or xs (p.core.at + 3 * j + 2) 0 ≤ 1
    pub mode : get_or xs s.top 0 ≡ code r.mode
    pub drop : drop_at xs (p.notes + j) (code r.mode) (core_kind r.core) ≡ dropped r.mode r.core
    pub here_in : p.core.at + 3 * j + 3 ≤ length xs
    pub top_in : s.top < length xs
    pub sides : core_kind r.core ≡ 11 → TwoNotes xs (p.notes + j)

  pub found : Found
  found = record {
    kind = here.kind;
    field = here.field;
    value = here.value;
    value_small = omega (arith, here.value, value_small r.core);
    mode = head r.stack;
    drop = drop_is xs (p.notes + j) r.mode r.core (cores_of r.rest) above;
    here_in = omega (arith, here.rest.fits);
    top_in = omega (arith, r.stack.fits);
    sides = λ e. two_notes xs (p.notes + j) r.core (cores_of r.rest) first_test (omega (arith, r.left, p.small)) (omega arith) above;
  }

  -- what is written so far, with this turn's records, is at most the whole
  pub over_limit : s.made + count_in r.mode r.core ≤ size (negate t)
  over_limit =
      let whole : (r.done ++ own r.mode r.core) ++ emit_all (tasks_of r.mode r.core ++ r.rest) ≡ words (negate t) = goal_open r.mode r.core r.rest r.done (words (negate t)) first_test r.goal in
      omega (arith, ap length whole, length_words (negate t), own_long r.mode r.core, r.long, length-append r.done (own r.mode r.core), length-append (r.done ++ own r.mode r.core) (emit_all (tasks_of r.mode r.core ++ r.rest)))

  -- the run after the turn, in a memory that has kept what lies below the modes
  after : (xs' : List ℕ) (top' : ℕ) → Kept p.modes xs xs'
      → Holds xs' top' (codes_of (tasks_of r.mode r.core ++ r.rest)) → top' + length (tasks_of r.mode r.core ++ r.rest) ≡ p.modes + p.core.count
      → Holds xs' p.out (r.done ++ own r.mode r.core) → Run xs' t p (j + 1) (record { top = top'; made = s.made + count_in r.mode r.core })
  after xs' top' kept stack depth written =
      let cores : cores_of (tasks_of r.mode r.core ++ r.rest) ≡ operands r.core ++ cores_of r.rest = cores_open r.mode r.core r.rest in
      let sizes : size r.core + size_all (cores_of r.rest) ≡ suc (size_all (operands r.core ++ cores_of r.rest)) = size_open r.core (cores_of r.rest) in
      record {
        plan = tasks_of r.mode r.core ++ r.rest;
        test = ap all_test cores ∙ tests_open r.core (cores_of r.rest) r.test;
        records = moved (kept_holds kept (omega (arith, words_all_long (operands r.core ++ cores_of r.rest), r.left, p.notes_at, p.modes_at)) here.rest) (omega arith) (ap words_all (sym cores));
        noted = moved (kept_holds kept (omega (arith, notes_all_long (operands r.core ++ cores_of r.rest), r.left, p.modes_at)) above) (omega arith) (ap notes_all (sym cores));
        stack = stack;
        depth = depth;
        left = omega (arith, ap size_all cores, r.left);
        done = r.done ++ own r.mode r.core;
        written = written;
        long = omega (arith, length-append r.done (own r.mode r.core), own_long r.mode r.core, r.long);
        goal = goal_open r.mode r.core r.rest r.done (words (negate t)) first_test r.goal;
      }

  module _ (fits : s.made + count_in r.mode r.core ≤ p.limit) where
    -- the memory with this turn's records
    abbrev pub put : List ℕ
    put = sets xs (p.out + 3 * s.made) (own r.mode r.core)

    put_long : length put ≡ length xs
    put_long = length-sets xs (p.out + 3 * s.made) (own r.mode r.core)

    put_kept : Kept p.modes xs put
    put_kept = kept_sets p.modes xs (p.out + 3 * s.made) (own r.mode r.core) (omega (arith, p.out_at))

    put_written : Holds put p.out (r.done ++ own r.mode r.core)
    put_written =
        joined r.done (own r.mode r.core)
        (under (p.out + 3 * s.made) (own r.mode r.core) (omega (arith, r.long)) r.written)
        (moved (stored xs (p.out + 3 * s.made) (own r.mode r.core) (omega (arith, own_long r.mode r.core, room))) (omega (arith, r.long)) refl)

    codes_rest : length (codes_of r.rest) ≡ length r.rest
    codes_rest = codes_long r.rest

    put_rest : Holds put (s.top + 1) (codes_of r.rest)
    put_rest = under (p.out + 3 * s.made) (own r.mode r.core) (omega (arith, codes_rest, r.depth, p.out_at)) (tail r.stack)

    -- the run after a leaf
    pub leaf_run : core_kind r.core < 7 → Run put t p (j + 1) (record { top = s.top + 1; made = s.made + count_in r.mode r.core })
    leaf_run k =
        let e : tasks_of r.mode r.core ≡ [] = leaf_tasks r.mode r.core first_test k in
        after put (s.top + 1) put_kept
        (moved put_rest refl (ap (λ (ts : List Task). codes_of (ts ++ r.rest)) (sym e)))
        (omega (arith, r.depth, ap (λ (ts : List Task). length (ts ++ r.rest)) e))
        put_written

    -- the run after an operator
    module _ (k : 7 ≤ core_kind r.core) where
      w : Operands r.mode r.core
      w = operands_of r.mode r.core first_test k

      abbrev codes : List ℕ
      codes = left_code (code r.mode) (core_kind r.core) (dropped r.mode r.core) ∷ right_code (code r.mode) (core_kind r.core) (dropped r.mode r.core) ∷ []

      -- there is room on the stack
      pub deep : p.modes < s.top
      deep = omega (arith, w.big, r.depth, r.left, all_long (cores_of r.rest), cores_long r.rest)

      abbrev pub pushed : List ℕ
      pushed = sets put (s.top - 1) codes

      pub pushed_kept : Kept p.modes xs pushed
      pushed_kept = kept_then put_kept (kept_sets p.modes put (s.top - 1) codes (omega (arith, deep)))

      pushed_stack : Holds pushed (s.top - 1) (codes ++ codes_of r.rest)
      pushed_stack =
          joined codes (codes_of r.rest)
          (stored put (s.top - 1) codes (omega (arith, put_long, deep, r.stack.fits)))
          (moved (over (s.top - 1) codes (omega (arith, deep)) put_rest) (omega (arith, deep)) refl)

      pub op_run : Run pushed t p (j + 1) (record { top = s.top - 1; made = s.made + count_in r.mode r.core })
      op_run =
          after pushed (s.top - 1) pushed_kept
          (moved pushed_stack refl (rw (w.tasks_are, w.left_is, w.right_is)))
          (omega (arith, deep, r.depth, ap (λ (ts : List Task). length (ts ++ r.rest)) w.tasks_are))
          (over (s.top - 1) codes (omega (arith, deep, r.depth, p.out_at)) put_written)
