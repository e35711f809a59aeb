-- The first pass over core bytes: what its loop has still to answer.
use mathlib.Core.Path.{◌≡◌, refl, sym, ap, ◌∙◌}
use mathlib.Core.Bool.{Bool, true, false}
use mathlib.Core.List.{List, [], ◌∷◌}
use Prim.Native.Nat.{ℕ, zero, suc, ◌+◌, ◌-◌, ◌*◌, ◌^◌, ◌≤◌, ◌<◌, max}
use native.Mathlib.Nat.{max-zero}
use native.Mathlib.Omega.{arith}
use lib.Dec.{leb, ltb}
use lib.ListN.{length, drop, drop_of_length-le, length-drop}
use lib.Seq.{drop-cons, drop-drop}
use Rattle.std.specs.Prelude.{Ok, Err}
use Rattle.refusals.specs.Refusals.{number_of}
use Rattle.refusals.specs.declared.Refusal.{Refusal}
use Rattle.expr.specs.Kinds.{kind_number}
use Rattle.literals.specs.Bits.{Bytes}
use Rattle.literals.specs.Reading.{got}
use Rattle.expr.specs.Answers.{Answer, ok, refuse, and_then, map_answer, need}
use Rattle.expr.specs.Terms.{Atom, Zero, One, Top, Dup, End, Assign, Test, Op1, Complement, Star, LtlNext, Op2, Union, Intersect, Xor, Difference, Sequence, LtlUntil, Core, leaf, one, two, Plain, records, op1_kind, op2_kind, size}
use Rattle.expr.specs.Records.{Record}
use Rattle.expr.specs.Form.{written, atom_record}
use Rattle.expr.specs.Operations.{num_fields}
use Rattle.expr.specs.Results.{child_count, arity_of}
use Rattle.expr.proofs.NodeForm.{Writes}
use Rattle.expr.proofs.Arities.{arity_is}
use Rattle.expr.proofs.Slices.{Sliced, bytes_each}
use Rattle.desugar.specs.CoreBytes.{core_record}
use Rattle.cores.specs.Reading.{max_core, read_core_record, CoreNode, atom, unary, binary, core_node, Cores, due_behind, put_over, core_at, read_cores, whole_core, into_list, read_core}
use Rattle.cores.specs.Results.{CoreRecordFound, widened, settled, counts_of}
use Rattle.cores.specs.declared.records.CoreRecord.{CoreRecord}
use Rattle.cores.proofs.CoreForm.{Wrote, core_only, written_node, node_is, sizes, node_wrote}

pub bytes_drop : (n : ℕ) (s : List ℕ) → Bytes s → Bytes (drop n s)
bytes_drop zero s b = b
bytes_drop (suc n) [] b = tt
bytes_drop (suc n) (x ∷ s) b = bytes_drop n s b.1

-- ## Fields

-- the field count of cores from a place on, with what is known before them
abbrev fields_from : (n : ℕ) → Cores n → ℕ → Answer ℕ → Answer ℕ
fields_from zero cs at x = x
fields_from (suc n) cs at x = fields_from n cs.1 (at + size cs.0) (and_then x λ m. and_then (num_fields (written cs.0) at) λ k. ok (max m k))

pub records_written : (c : Core) → records (written c) ≡ size c
records_written (leaf a) = refl
records_written (one o c) = omega (arith, records_written c)
records_written (two o a b) = omega (arith, records_written a, records_written b)

plain_widened : (x : Answer ℕ) → and_then x (λ m. ok m) ≡ x
plain_widened (ok m) = refl
plain_widened (refuse r p) = refl

unary_widened : (o : Op1) (x : Answer ℕ) (at : ℕ) → widened x (op1_kind o) 0 at ≡ x
unary_widened Complement x at = plain_widened x
unary_widened Star x at = plain_widened x
unary_widened LtlNext x at = plain_widened x

binary_widened : (o : Op2) (x : Answer ℕ) (at : ℕ) → widened x (op2_kind o) 0 at ≡ x
binary_widened Union x at = plain_widened x
binary_widened Intersect x at = plain_widened x
binary_widened Xor x at = plain_widened x
binary_widened Difference x at = plain_widened x
binary_widened Sequence x at = plain_widened x
binary_widened LtlUntil x at = plain_widened x

same_then : {A B : Type 0} (x : Answer A) {f g : A → Answer B} → ((a : A) → f a ≡ g a) → and_then x f ≡ and_then x g
same_then (ok a) k = k a
same_then (refuse r p) k = refl

field_then : (b : Bool) (m f at : ℕ) → and_then (and_then (need b 25 at) λ _. ok f) (λ k. ok (max m k)) ≡ and_then (need b 25 at) λ _. ok (max m f)
field_then true m f at = refl
field_then false m f at = refl

atom_widened : (a : Atom) (x : Answer ℕ) (at : ℕ)
    → (and_then x λ m. and_then (num_fields (Plain a) at) λ k. ok (max m k)) ≡ widened x (atom_record a).kind (atom_record a).start at
atom_widened Zero x at = same_then x (λ m. ap ok (max-zero m))
atom_widened One x at = same_then x (λ m. ap ok (max-zero m))
atom_widened Top x at = same_then x (λ m. ap ok (max-zero m))
atom_widened Dup x at = same_then x (λ m. ap ok (max-zero m))
atom_widened End x at = same_then x (λ m. ap ok (max-zero m))
atom_widened (Assign f v) x at = same_then x (λ m. field_then (ltb (f + 1) (2 ^ 32)) m (f + 1) at)
atom_widened (Test f v) x at = same_then x (λ m. field_then (ltb (f + 1) (2 ^ 32)) m (f + 1) at)

-- two operands, one after the other
both_then : (x y z : Answer ℕ)
    → (and_then x λ m. and_then (and_then y λ k. and_then z λ l. ok (max k l)) λ k. ok (max m k)) ≡ (and_then (and_then x λ m. and_then y λ k. ok (max m k)) λ m. and_then z λ k. ok (max m k))
both_then (refuse r p) y z = refl
both_then (ok m) (refuse r p) z = refl
both_then (ok m) (ok k) (refuse r p) = refl
both_then (ok m) (ok k) (ok l) = ap ok (omega arith)

-- a node over its operands: its own record's field, and then theirs
fields_put : (h : Record) (m : CoreNode) → Writes h (written_node m) → (n : ℕ) (cs : Cores (due_behind m n)) (at : ℕ) (x : Answer ℕ)
    → fields_from (suc n) (put_over m n cs) at x ≡ fields_from (due_behind m n) cs (at + 1) (widened x h.kind h.start at)
fields_put h (atom a) v n cs at x =
    ap (fields_from n cs (at + 1)) (atom_widened a x at ∙ ap (λ (r : Record). widened x r.kind r.start at) v.0)
fields_put h (unary o) v n cs at x =
    let own : x ≡ widened x h.kind h.start at =
    sym (unary_widened o x at) ∙ ap (λ (r : Record). widened x r.kind r.start at) (v (written cs.0)).0 in
    let place : at + (1 + size cs.0) ≡ at + 1 + size cs.0 = omega arith in
    λ i. fields_from n cs.1 (place i) (and_then (own i) λ m. and_then (num_fields (written cs.0) (at + 1)) λ k. ok (max m k))
fields_put h (binary o) v n cs at x =
    let a : Core = cs.0 in
    let b : Core = cs.1.0 in
    let own : x ≡ widened x h.kind h.start at =
    sym (binary_widened o x at) ∙ ap (λ (r : Record). widened x r.kind r.start at) (v (written a) (written b)).0 in
    let place : at + (1 + size a + size b) ≡ at + 1 + size a + size b = omega arith in
    (λ i. fields_from n cs.1.1 (place i) (both_then x (num_fields (written a) (at + 1)) (num_fields (written b) (at + 1 + records (written a))) i))
    ∙ λ i. fields_from n cs.1.1 (at + 1 + size a + size b)
    (and_then (and_then (own i) λ m. and_then (num_fields (written a) (at + 1)) λ k. ok (max m k)) λ m. and_then (num_fields (written b) (at + 1 + records_written a i)) λ k. ok (max m k))

-- ## What the loop has still to answer

record Behind : Type 0 where
  count : ℕ
  fields : Answer ℕ
  rest : List ℕ

abbrev behind : (due at : ℕ) → Answer ℕ → Cores due × List ℕ → Behind
behind due at x r = record { count = at + sizes due r.0; fields = fields_from due r.0 at x; rest = r.1 }

abbrev judged_from : (left due at : ℕ) → Answer ℕ → List ℕ → Answer Behind
judged_from left due at x bs = map_answer (behind due at x) (read_cores left due at bs)

-- bytes that are left over, and else 25, 10 or the counts
abbrev closed : ℕ → Behind → List ℕ → Answer (ℕ × ℕ)
closed room b [] = settled b.count b.fields room
closed room b (y ∷ ys) = refuse 8 b.count

abbrev finished : ℕ → Answer Behind → Answer (ℕ × ℕ)
finished room x = and_then x λ b. closed room b b.rest

mapped_twice : {A B C : Type 0} (f : A → B) (g : B → C) (h : A → C) (x : Answer A) → ((a : A) → g (f a) ≡ h a) → map_answer g (map_answer f x) ≡ map_answer h x
mapped_twice f g h (ok a) k = ap ok (k a)
mapped_twice f g h (refuse r p) k = refl

sizes_put : (m : CoreNode) (n : ℕ) (cs : Cores (due_behind m n)) → sizes (suc n) (put_over m n cs) ≡ 1 + sizes (due_behind m n) cs
sizes_put (atom a) n cs = omega arith
sizes_put (unary o) n cs = omega arith
sizes_put (binary o) n cs = omega arith

due_count : (m : CoreNode) (n : ℕ) → child_count (written_node m) + n ≡ due_behind m n
due_count (atom a) n = omega arith
due_count (unary o) n = omega arith
due_count (binary o) n = omega arith

due_small : (m : CoreNode) (n : ℕ) → due_behind m n ≤ n + 2
due_small (atom a) n = omega arith
due_small (unary o) n = omega arith
due_small (binary o) n = omega arith

module _ {bs : List ℕ} {h : Record} {rest : List ℕ} (e : read_core_record bs ≡ got h rest) (w : Wrote bs h rest) where
  -- as many cores are due as the kind says
  pub due_is : (due : ℕ) → due_behind (core_node h) due ≡ arity_of h.kind + due
  due_is due = sym (due_count (core_node h) due) ∙ ap (λ n. n + due) (sym (ap child_count (node_is h w.small)) ∙ arity_is h)

  judged_read : (left due at : ℕ) (x : Answer ℕ)
      → judged_from (suc left) (suc due) at x bs ≡ judged_from left (arity_of h.kind + due) (at + 1) (widened x h.kind h.start at) rest
  judged_read left due at x =
      let m : CoreNode = core_node h in
      let y : Answer ℕ = widened x h.kind h.start at in
      let same : (r : Cores (due_behind m due) × List ℕ) → behind (suc due) at x (put_over m due r.0, r.1) ≡ behind (due_behind m due) (at + 1) y r =
      λ r.
      let count : at + sizes (suc due) (put_over m due r.0) ≡ at + 1 + sizes (due_behind m due) r.0 = omega (arith, sizes_put m due r.0) in
      let fields : fields_from (suc due) (put_over m due r.0) at x ≡ fields_from (due_behind m due) r.0 (at + 1) y =
      fields_put h m (node_wrote w) due r.0 at x in
      λ i. record { count = count i; fields = fields i; rest = r.1 } in
      ap (λ z. map_answer (behind (suc due) at x) (core_at (read_cores left) due at z)) e
      ∙ mapped_twice (λ r. (put_over m due r.0, r.1)) (behind (suc due) at x) (behind (due_behind m due) (at + 1) y) (read_cores left (due_behind m due) (at + 1) rest) same
      ∙ ap (λ d. judged_from left d (at + 1) y rest) (due_is due)

none_due : (left at : ℕ) (x : Answer ℕ) (bs : List ℕ) → judged_from left zero at x bs ≡ ok (record { count = at + 0; fields = x; rest = bs })
none_due zero at x bs = refl
none_due (suc left) at x bs = refl

-- ## The loop

-- so many cores are due, from a byte and a record on, with this field count before them
pub record Judging (s : List ℕ) (room at due place : ℕ) (x : Answer ℕ) : Type 0 where
  pub low : place ≤ max_core
  pub inside : at ≤ length s
  pub few : due ≤ place + 1
  pub answer : counts_of (read_core s room) ≡ finished room (judged_from (max_core - place) due place x (drop at s))

pub judge_start : (s : List ℕ) (room : ℕ) → Judging s room 0 1 0 (ok 0)
judge_start s room = record { low = omega arith; inside = omega arith; few = omega arith; answer = go (read_cores max_core 1 0 s) }
  where
    first : (x : Answer ℕ) → x ≡ and_then x (λ k. ok (max 0 k))
    first (ok k) = ap ok (omega arith)
    first (refuse r p) = refl

    roomy : (c : Core) (k : ℕ) (b : Bool) → counts_of (and_then (need b 10 0) λ _. ok (c, k)) ≡ and_then (need b 10 0) λ _. ok (size c, k)
    roomy c k true = refl
    roomy c k false = refl

    counts : (c : Core) (x : Answer ℕ) → counts_of (and_then x λ k. and_then (need (leb (3 * size c) room) 10 0) λ _. ok (c, k)) ≡ settled (size c) x room
    counts c (ok k) = roomy c k (leb (3 * size c) room)
    counts c (refuse r p) = refl

    end : (c : Core) (rest : List ℕ) → counts_of (and_then (whole_core c rest) λ d. into_list d room) ≡ closed room (behind 1 0 (ok 0) ((c, tt), rest)) rest
    end c [] =
        let n : size c ≡ 0 + (size c + 0) = omega arith in
        counts c (num_fields (written c) 0) ∙ λ i. settled (n i) (first (num_fields (written c) 0) i) room
    end c (b ∷ bs) = let n : size c ≡ 0 + (size c + 0) = omega arith in λ i. refuse 8 (n i)

    go : (x : Answer (Cores 1 × List ℕ))
        → counts_of (and_then (and_then x (λ r. whole_core r.0.0 r.1)) λ d. into_list d room) ≡ finished room (map_answer (behind 1 0 (ok 0)) x)
    go (ok r) = end r.0.0 r.1
    go (refuse r p) = refl

module _ {s : List ℕ} {room at due place : ℕ} {x : Answer ℕ} (j : Judging s room at due place x) where
  module _ (some : 0 < due) where
    -- due is no 0
    one_more : due ≡ suc (due - 1)
    one_more = omega arith

    pub judge_many : max_core ≤ place → refuse 42 place ≡ counts_of (read_core s room)
    judge_many h =
        let none : max_core - place ≡ 0 = omega arith in
        sym (j.answer ∙ (λ i. finished room (judged_from (none i) (one_more i) place x (drop at s))))

    module _ (h : place < max_core) where
      again : counts_of (read_core s room) ≡ finished room (judged_from (suc (max_core - (place + 1))) (suc (due - 1)) place x (drop at s))
      again =
          let more : max_core - place ≡ suc (max_core - (place + 1)) = omega arith in
          j.answer ∙ λ i. finished room (judged_from (more i) (one_more i) place x (drop at s))

      pub judge_refused : (e : Refusal) → CoreRecordFound (drop at s) (Err e) → refuse (number_of e) place ≡ counts_of (read_core s room)
      judge_refused e f =
          sym (again ∙ ap (λ z. finished room (map_answer (behind (suc (due - 1)) place x) (core_at (read_cores (max_core - (place + 1))) (due - 1) place z))) (sym f.answer))

      module _ (each : Sliced s) {d : CoreRecord} (f : CoreRecordFound (drop at s) (Ok d)) where
        wrote : Wrote (drop at s) (core_record (kind_number d.kind) d.field d.value) (drop d.size (drop at s))
        wrote = core_only (drop at s) _ _ (bytes_drop at s (bytes_each s each)) (sym f.answer)

        pub judge_bytes : (1 ≤ d.size) × (at + d.size ≤ length s)
        judge_bytes = (f.inside.0, omega (arith, f.inside.1, length-drop at s, j.inside))

        pub judge_due : {n : ℕ} → n ≡ arity_of (kind_number d.kind) → due - 1 + n ≤ place + 2
        judge_due k =
            omega (
              arith,
              k,
              j.few,
              due_is (sym f.answer) wrote (due - 1),
              due_small (core_node (core_record (kind_number d.kind) d.field d.value)) (due - 1),
            )

        pub judge_next : {n : ℕ} {y : Answer ℕ} → n ≡ arity_of (kind_number d.kind) → y ≡ widened x (kind_number d.kind) d.field place
            → Judging s room (at + d.size) (due - 1 + n) (place + 1) y
        judge_next {n} {y} k g =
            let more : arity_of (kind_number d.kind) + (due - 1) ≡ due - 1 + n = omega (arith, k) in
            record {
              low = omega arith;
              inside = judge_bytes.1;
              few = omega (arith, judge_due k);
              answer =
                  again ∙ ap (finished room) (judged_read (sym f.answer) wrote (max_core - (place + 1)) (due - 1) place x)
                  ∙ (λ i. finished room (judged_from (max_core - (place + 1)) (more i) (place + 1) (sym g i) (drop-drop d.size at s i)));
            }

  module _ (none : due ≤ 0) where
    ended : counts_of (read_core s room) ≡ closed room (record { count = place + 0; fields = x; rest = drop at s }) (drop at s)
    ended =
        let e : due ≡ 0 = omega arith in
        j.answer ∙ ap (λ d. finished room (judged_from (max_core - place) d place x (drop at s))) e
        ∙ ap (finished room) (none_due (max_core - place) place x (drop at s))

    same_count : place + 0 ≡ place
    same_count = omega arith

    pub judge_over : at < length s → refuse 8 place ≡ counts_of (read_core s room)
    judge_over h = sym (ended ∙ ap (closed room (record { count = place + 0; fields = x; rest = drop at s })) (drop-cons s at 0 h) ∙ ap (refuse 8) same_count)

    pub judge_done : length s ≤ at → settled place x room ≡ counts_of (read_core s room)
    judge_done h =
        sym (ended ∙ ap (closed room (record { count = place + 0; fields = x; rest = drop at s })) (drop_of_length-le s h) ∙ ap (λ n. settled n x room) same_count)
