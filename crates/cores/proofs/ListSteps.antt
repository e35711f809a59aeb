-- The second pass over core bytes, which lists the records of a core of good form.
use mathlib.Core.Path.{◌≡◌, refl, sym, ap, ◌∙◌}
use mathlib.Core.List.{List, [], ◌∷◌, ◌++◌, append_assoc, append-nil}
use Prim.Native.Nat.{ℕ, zero, suc, ◌+◌, ◌*◌, ◌≤◌, ◌<◌}
use native.Mathlib.Nat.{zero-add}
use native.Mathlib.Omega.{arith}
use lib.ListN.{length, drop, drop_of_length-le, length-append, length-drop}
use lib.Seq.{sets, length-sets, drop-drop}
use Rattle.std.specs.Prelude.{Ok, Err}
use Rattle.refusals.specs.declared.Refusal.{Refusal}
use Rattle.expr.specs.Kinds.{kind_number}
use Rattle.literals.specs.Reading.{got}
use Rattle.expr.specs.Answers.{Answer, ok, refuse, and_then, map_answer}
use Rattle.expr.specs.Terms.{Atom, Zero, One, Top, Dup, End, Assign, Test, Core, Plain, atom_kind, op1_kind, op2_kind, size}
use Rattle.expr.specs.Records.{Record}
use Rattle.expr.specs.Form.{atom_record}
use Rattle.expr.proofs.NodeForm.{Writes}
use Rattle.expr.proofs.Slices.{Sliced, bytes_each}
use Rattle.desugar.specs.CoreRecords.{atom_field, atom_value, words}
use Rattle.desugar.specs.CoreBytes.{core_record}
use Rattle.desugar.proofs.Regions.{sets_append, length_words}
use Rattle.desugar.proofs.RecordBytes.{sets_front}
use Rattle.cores.specs.Reading.{max_core, CoreNode, atom, unary, binary, core_node, Cores, due_behind, put_over, core_at, read_cores, whole_core, decode_core}
use Rattle.cores.specs.Results.{CoreRecordFound, Listable, Listed}
use Rattle.cores.specs.declared.records.CoreRecord.{CoreRecord}
use Rattle.cores.proofs.CoreForm.{Wrote, core_only, written_node, decode_only, node_wrote}
use Rattle.cores.proofs.JudgeSteps.{bytes_drop}

-- ## The numbers of cores

-- of cores one behind the other
abbrev words_of : (n : ℕ) → Cores n → List ℕ
words_of zero cs = []
words_of (suc n) cs = words cs.0 ++ words_of n cs.1

-- of a node's own record
abbrev pub node_words_fact : CoreNode → List ℕ
node_words_fact (atom a) = atom_kind a ∷ atom_field a ∷ atom_value a ∷ []
node_words_fact (unary o) = op1_kind o ∷ 0 ∷ 0 ∷ []
node_words_fact (binary o) = op2_kind o ∷ 0 ∷ 0 ∷ []

words_put : (m : CoreNode) (n : ℕ) (cs : Cores (due_behind m n)) → words_of (suc n) (put_over m n cs) ≡ node_words_fact m ++ words_of (due_behind m n) cs
words_put (atom a) n cs = refl
words_put (unary o) n cs = refl
words_put (binary o) n cs = ap (λ (l : List ℕ). op2_kind o ∷ 0 ∷ 0 ∷ l) (append_assoc (words cs.0) (words cs.1.0) (words_of n cs.1.1))

abbrev three_of : Record → List ℕ
three_of h = h.kind ∷ h.start ∷ h.number ∷ []

atom_words : (a : Atom) → node_words_fact (atom a) ≡ three_of (atom_record a)
atom_words Zero = refl
atom_words One = refl
atom_words Top = refl
atom_words Dup = refl
atom_words End = refl
atom_words (Assign f v) = refl
atom_words (Test f v) = refl

-- a record's numbers are those of its node
pub node_words : {bs : List ℕ} {h : Record} {rest : List ℕ} → Wrote bs h rest → node_words_fact (core_node h) ≡ three_of h
node_words {h = h} w = go (core_node h) (node_wrote w)
  where
    go : (m : CoreNode) → Writes h (written_node m) → node_words_fact m ≡ three_of h
    go (atom a) v = atom_words a ∙ ap three_of v.0
    go (unary o) v = ap three_of (v (Plain Zero)).0
    go (binary o) v = ap three_of (v (Plain Zero) (Plain Zero)).0

-- ## One record more

-- so many cores are read from the byte at on, and nothing is left behind them
abbrev Reads : (s : List ℕ) (at left due place : ℕ) → Cores due → Type 0
Reads s at left due place cs = read_cores left due place (drop at s) ≡ ok (cs, [])

abbrev pub rest_of : {A : Type 0} → Answer (A × List ℕ) → List ℕ
rest_of (ok r) = r.1
rest_of (refuse r p) = []

abbrev pub read_of : {A : Type 0} → A → Answer (A × List ℕ) → A
read_of a (ok r) = r.0
read_of a (refuse r p) = a

-- the first of the cores begins with the record d, and these are read behind it
record Next (s : List ℕ) (at due : ℕ) (cs : Cores due) (d : CoreRecord) : Type 0 where
  left_now : ℕ
  due_now : ℕ
  place_now : ℕ
  cores_now : Cores due_now
  reads : Reads s (at + d.size) left_now due_now place_now cores_now
  numbers : words_of due cs ≡ (kind_number d.kind) ∷ d.field ∷ d.value ∷ words_of due_now cores_now

module _ (s : List ℕ) (at : ℕ) (lt : at < length s) where
  some_left : drop at s ≡ [] → ⊥
  some_left e = omega (arith, ap length e, length-drop at s)

  module _ {d : CoreRecord} (each : Sliced s) (f : CoreRecordFound (drop at s) (Ok d)) where
    abbrev h : Record
    h = core_record (kind_number d.kind) d.field d.value

    wrote : Wrote (drop at s) h (drop d.size (drop at s))
    wrote = core_only (drop at s) _ _ (bytes_drop at s (bytes_each s each)) (sym f.answer)

    next_read : (left due place : ℕ) (cs : Cores (suc due)) → core_at (read_cores left) due place (got h (drop d.size (drop at s))) ≡ ok (cs, []) → Next s at (suc due) cs d
    next_read left due place cs e = go (read_cores left (due_behind (core_node h) due) (place + 1) (drop d.size (drop at s))) refl e
      where
        go : (x : Answer (Cores (due_behind (core_node h) due) × List ℕ)) → read_cores left (due_behind (core_node h) due) (place + 1) (drop d.size (drop at s)) ≡ x
            → map_answer {B = Cores (suc due) × List ℕ} (λ r. (put_over (core_node h) due r.0, r.1)) x ≡ ok (cs, []) → Next s at (suc due) cs d
        go (refuse r p) k j = let z : ◌≡◌ {A = ℕ} 0 1 = cc in absurd (omega arith)
        go (ok q) k j =
            let none : q.1 ≡ [] = ap rest_of j in
            let same : put_over (core_node h) due q.0 ≡ cs = ap (read_of cs) j in
            record {
              left_now = left;
              due_now = due_behind (core_node h) due;
              place_now = place + 1;
              cores_now = q.0;
              reads = ap (read_cores left (due_behind (core_node h) due) (place + 1)) (sym (drop-drop d.size at s)) ∙ k ∙ ap (λ (l : List ℕ). ok (q.0, l)) none;
              numbers = ap (words_of (suc due)) (sym same) ∙ words_put (core_node h) due q.0 ∙ ap (λ (l : List ℕ). l ++ words_of (due_behind (core_node h) due) q.0) (node_words wrote);
            }

    next : (left due place : ℕ) (cs : Cores due) → Reads s at left due place cs → Next s at due cs d
    next zero zero place cs e = absurd (some_left (ap rest_of e))
    next (suc left) zero place cs e = absurd (some_left (ap rest_of e))
    next zero (suc due) place cs e = let z : ◌≡◌ {A = ℕ} 0 1 = cc in absurd (omega arith)
    next (suc left) (suc due) place cs e = next_read left due place cs (ap (core_at (read_cores left) due place) f.answer ∙ e)

  never : {r : Refusal} → CoreRecordFound (drop at s) (Err r) → (left due place : ℕ) (cs : Cores due) → Reads s at left due place cs → ⊥
  never f zero zero place cs e = some_left (ap rest_of e)
  never f (suc left) zero place cs e = some_left (ap rest_of e)
  never f zero (suc due) place cs e = let z : ◌≡◌ {A = ℕ} 0 1 = cc in omega arith
  never f (suc left) (suc due) place cs e =
      let z : ◌≡◌ {A = ℕ} 0 1 = cc (ap (core_at (read_cores left) due place) f.answer, e) in
      omega arith

-- at the end no core is left
none_left : (left due place : ℕ) (cs : Cores due) → read_cores left due place [] ≡ ok (cs, []) → words_of due cs ≡ []
none_left left zero place cs e = refl
none_left zero (suc due) place cs e = let z : ◌≡◌ {A = ℕ} 0 1 = cc in absurd (omega arith)
none_left (suc left) (suc due) place cs e = let z : ◌≡◌ {A = ℕ} 0 1 = cc in absurd (omega arith)

-- ## The loop

-- the bytes from at on are read as these cores, and the numbers below to are those of the records before them
pub record Listing (s list₀ list : List ℕ) (at to : ℕ) : Type 0 where
  pub core : Core
  pub is : decode_core s ≡ ok core
  pub few : size core ≤ max_core
  pub room : 3 * size core ≤ length list₀
  pub inside : at ≤ length s
  pub left : ℕ
  pub due : ℕ
  pub place : ℕ
  pub cores : Cores due
  pub reads : read_cores left due place (drop at s) ≡ ok (cores, [])
  pub done : List ℕ
  pub count : to ≡ length done
  pub split : words core ≡ done ++ words_of due cores
  pub stored : list ≡ sets list₀ 0 done

pub whole_read : (x : Answer (Cores 1 × List ℕ)) (c : Core) → and_then x (λ r. whole_core r.0.0 r.1) ≡ ok c → x ≡ ok ((c, tt), [])
whole_read (refuse r p) c e = let z : ◌≡◌ {A = ℕ} 0 1 = cc in absurd (omega arith)
whole_read (ok r) c e = go r.0.0 r.1 e
  where
    go : (d : Core) (rest : List ℕ) → whole_core d rest ≡ ok c → ◌≡◌ {A = Answer (Cores 1 × List ℕ)} (ok ((d, tt), rest)) (ok ((c, tt), []))
    go d [] k = let same : d ≡ c = cc in ap (λ (x : Core). ok ((x, tt), [])) same
    go d (b ∷ bs) k = let z : ◌≡◌ {A = ℕ} 0 1 = cc in absurd (omega arith)

pub list_start : {s list : List ℕ} → Sliced s → Listable s list → Listing s list list 0 0
list_start {s} {list} each l = record {
  core = l.core;
  is = l.is;
  few = (decode_only s l.core (bytes_each s each) l.is).0.few;
  room = l.room;
  inside = omega arith;
  left = max_core;
  due = 1;
  place = 0;
  cores = (l.core, tt);
  reads = whole_read (read_cores max_core 1 0 s) l.core l.is;
  done = [];
  count = refl;
  split = sym (append-nil (words l.core));
  stored = refl;
}

module _ {s list₀ list : List ℕ} {at to : ℕ} (l : Listing s list₀ list at to) where
  pub list_long : length list ≡ length list₀
  list_long = ap length l.stored ∙ length-sets list₀ 0 l.done

  all_long : 3 * size l.core ≡ length l.done + length (words_of l.due l.cores)
  all_long = sym (length_words l.core) ∙ ap length l.split ∙ length-append l.done (words_of l.due l.cores)

  module _ (lt : at < length s) where
    pub list_never : {r : Refusal} → CoreRecordFound (drop at s) (Err r) → ⊥
    list_never f = never s at lt f l.left l.due l.place l.cores l.reads

    module _ (each : Sliced s) {d : CoreRecord} (found : CoreRecordFound (drop at s) (Ok d)) where
      nx : Next s at l.due l.cores d
      nx = next s at lt each found l.left l.due l.place l.cores l.reads

      pub list_more : (1 ≤ d.size) × (at + d.size ≤ length s)
      list_more = (found.inside.0, omega (arith, found.inside.1, length-drop at s))

      pub list_room : (to + 3 ≤ length list) × (to + 3 ≤ 3 * max_core)
      list_room = omega (arith, l.count, l.few, l.room, list_long, all_long, ap length nx.numbers)

      pub list_next : {list' : List ℕ} → list' ≡ sets list to (kind_number d.kind ∷ d.field ∷ d.value ∷ []) → Listing s list₀ list' (at + d.size) (to + 3)
      list_next put =
          let three : List ℕ = (kind_number d.kind) ∷ d.field ∷ d.value ∷ [] in
          record {
            core = l.core;
            is = l.is;
            few = l.few;
            room = l.room;
            inside = list_more.1;
            left = nx.left_now;
            due = nx.due_now;
            place = nx.place_now;
            cores = nx.cores_now;
            reads = nx.reads;
            done = l.done ++ three;
            count = omega (arith, l.count, length-append l.done three);
            split = l.split ∙ ap (λ (ws : List ℕ). l.done ++ ws) nx.numbers ∙ sym (append_assoc l.done three (words_of nx.due_now nx.cores_now));
            stored = put ∙ (λ i. sets (l.stored i) ((l.count ∙ sym (zero-add (length l.done))) i) three) ∙ sets_append list₀ 0 l.done three;
          }

  pub list_end : length s ≤ at → Listed s list₀ list
  list_end h c e =
      let none = none_left l.left l.due l.place l.cores (ap (read_cores l.left l.due l.place) (sym (drop_of_length-le s h)) ∙ l.reads) in
      let all : words l.core ≡ l.done = l.split ∙ ap (λ (ws : List ℕ). l.done ++ ws) none ∙ append-nil l.done in
      let same : l.core ≡ c = cc (l.is, e) in
      l.stored ∙ ap (sets list₀ 0) (sym all) ∙ sets_front (words l.core) list₀ (omega (arith, length_words l.core, l.room))
      ∙ ap (λ (d : Core). words d ++ drop (length (words d)) list₀) same
