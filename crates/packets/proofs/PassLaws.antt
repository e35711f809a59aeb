-- One pass over the records of a core: what is left to read decides the mask.
use mathlib.Core.Path.{◌≡◌, refl, sym, ap, subst, ◌∙◌}
use mathlib.Core.Bool.{Bool, true, false, not, cond, ◌&&◌, ◌||◌, false≢true}
use mathlib.Core.List.{List, [], ◌∷◌}
use Prim.Native.Nat.{ℕ, zero, suc, ◌+◌, ◌-◌, ◌*◌, ◌/◌, ◌^◌, ◌≤◌, ◌<◌, max}
use native.Mathlib.Omega.{arith}
use borrow.Author.Tests.{lt-ltb, le-leb, lt-leb, leb-true, leb-false, ltb-true, eqb-true}
use lib.Dec.{leb, ltb, eqb}
use lib.ListN.{length, take, drop, get_or, length-drop}
use lib.Seq.{drop-drop, take_all}
use Rattle.std.specs.Prelude.{Result, Ok, Err}
use Rattle.refusals.specs.Refusals.{number_of}
use Rattle.refusals.specs.declared.Refused.{Refused}
use Rattle.expr.specs.Kinds.{kind_number}
use Rattle.expr.specs.declared.kind.Kind.{Kind}
use Rattle.expr.specs.declared.kind.Kind.TheVariants as kind
use Rattle.expr.specs.Answers.{answered}
use Rattle.cores.specs.declared.Counts.{Counts}
use Rattle.std.specs.Array.{IsFirstChunk}
use Rattle.std.specs.Int.{w32, from_le_bytes}
use Rattle.std.proofs.lemmas.List.{get_or-take, get_or-drop}
use Rattle.literals.proofs.Logic.{and_both, and_left, and_right, or_right}
use Rattle.expr.specs.Answers.{Answer, ok, refuse, and_then, map_answer, need}
use Rattle.expr.specs.Terms.{Atom, Zero, One, Top, Dup, End, Assign, Test, Op1, Complement, Star, LtlNext, Op2, Union, Intersect, Xor, Difference, Sequence, LtlUntil, Core, test_kind, atom_kind, op1_kind, op2_kind}
use Rattle.expr.specs.Records.{Record}
use Rattle.expr.specs.Results.{arity_of}
use Rattle.expr.proofs.Arities.{arity_in, arity_small}
use Rattle.expr.proofs.Slices.{Sliced, bytes_each}
use Rattle.desugar.specs.CoreRecords.{atom_field, atom_value}
use Rattle.desugar.specs.CoreBytes.{core_record}
use Rattle.desugar.specs.Negation.{is_test}
use Rattle.desugar.proofs.Regions.{same_at}
use Rattle.cores.specs.Reading.{max_core, CoreNode, atom, unary, binary, core_node, Cores, due_behind, put_over, core_at, read_cores, decode_core, read_core}
use Rattle.cores.specs.Results.{CoreRecordFound, ShortFound, operator_bytes, atom_bytes, widened, settled, counts_of, core_answer}
use Rattle.packets.specs.Running.{passing}
use Rattle.packets.specs.Results.{settles, combined, leaf_mask, Frame, first, second, State, state_of, skipping, fed, opened, looked, stepped, Stepped, Skims, none_read, one_more, pair_bytes, PairIs, PairsRead, Behind, Between, Starts, Skipped, Passed}
use Rattle.cores.specs.declared.records.CoreRecord.{CoreRecord}
use Rattle.packets.specs.declared.frames.Progress.{Progress}
use Rattle.packets.specs.declared.skim.Spot.{Spot}
use Rattle.packets.specs.declared.cursor.Cursor.{Cursor}
use Rattle.packets.specs.declared.pairs.Pair.{Pair}
use Rattle.cores.proofs.CoreForm.{Wrote, core_only}
use Rattle.cores.proofs.CoreRecords.{operator_at, atom_at}
use Rattle.cores.proofs.JudgeSteps.{Judging, bytes_drop, due_is, judge_start, judge_next, judge_done}
use Rattle.cores.proofs.ListSteps.{node_words_fact, node_words, rest_of, read_of, whole_read}
use Rattle.packets.proofs.MaskLaws.{leaf_mask_fact, pair_mask, one_mask, settled_mask}
use Rattle.packets.proofs.FrameLaws.{step_skip}

-- ## The mask, by the cores that are still to be read

abbrev finish : (ps : List (List ℕ)) (skip : ℕ) (fs : List Frame) (m : ℕ) (n : ℕ) → Cores n → ℕ
finish ps skip fs m zero cs = m
finish ps zero fs m (suc n) cs =
    finish ps (fed fs (passing cs.0 ps)).skip (fed fs (passing cs.0 ps)).frames (fed fs (passing cs.0 ps)).mask n cs.1
finish ps (suc e) fs m (suc n) cs = finish ps e fs m n cs.1

abbrev finished : (ps : List (List ℕ)) → State → (n : ℕ) → Cores n → ℕ
finished ps st n cs = finish ps st.skip st.frames st.mask n cs

atom_low : (a : Atom) → ltb (atom_kind a) 7 ≡ true
atom_low Zero = refl
atom_low One = refl
atom_low Top = refl
atom_low Dup = refl
atom_low End = refl
atom_low (Assign f v) = refl
atom_low (Test f v) = refl

-- a node that is looked at
module _ (ps : List (List ℕ)) (fs : List Frame) (m : ℕ) where
  node_looked : (o : CoreNode) (k f v : ℕ) → node_words_fact o ≡ k ∷ f ∷ v ∷ [] → (n : ℕ) (cs : Cores (due_behind o n))
      → finish ps zero fs m (suc n) (put_over o n cs) ≡ finished ps (looked ps fs k f v) (due_behind o n) cs
  node_looked (atom a) k f v e n cs =
      let kind : atom_kind a ≡ k = cc in
      let field : atom_field a ≡ f = cc in
      let value : atom_value a ≡ v = cc in
      ap (λ x. finished ps (fed fs x) n cs) (sym (leaf_mask_fact a ps))
      ∙ (λ i. finished ps (cond (sym (atom_low a) i) (fed fs (leaf_mask (atom_kind a) (atom_field a) (atom_value a) ps)) (record { skip = 0; frames = opened (atom_kind a) ∷ fs; mask = 0 })) n cs)
      ∙ λ i. finished ps (looked ps fs (kind i) (field i) (value i)) n cs
  node_looked (unary o) k f v e n cs =
      let kind : op1_kind o ≡ k = cc in
      ap (λ x. finished ps (fed fs x) n cs.1) (sym (one_mask o cs.0 (passing cs.0 ps) ps))
      ∙ go o
      ∙ λ i. finished ps (looked ps fs (kind i) f v) (suc n) cs
    where
      go : (p : Op1) → finished ps (fed fs (combined (op1_kind p) 0 (passing cs.0 ps))) n cs.1 ≡ finished ps (looked ps fs (op1_kind p) f v) (suc n) cs
      go Complement = refl
      go Star = refl
      go LtlNext = refl
  node_looked (binary o) k f v e n cs =
      let kind : op2_kind o ≡ k = cc in
      ap (λ x. finished ps (fed fs x) n cs.1.1) (sym (pair_mask o cs.0 cs.1.0 ps))
      ∙ split (settles (op2_kind o) (passing cs.0 ps)) refl
      ∙ go o
      ∙ λ i. finished ps (looked ps fs (kind i) f v) (suc (suc n)) cs
    where
      a : ℕ
      a = passing cs.0 ps

      b : ℕ
      b = passing cs.1.0 ps

      split : (x : Bool) → settles (op2_kind o) (passing cs.0 ps) ≡ x
          → finished ps (fed fs (combined (op2_kind o) (passing cs.0 ps) (passing cs.1.0 ps))) n cs.1.1
          ≡ finished ps (fed (first (op2_kind o) ∷ fs) (passing cs.0 ps)) (suc n) cs.1
      split true s =
          let m : ℕ = passing cs.0 ps in
          let more : suc (fed fs m).skip ≡ 1 + (fed fs m).skip = omega arith in
          ap (λ x. finished ps (fed fs x) n cs.1.1) (settled_mask o m (passing cs.1.0 ps) s)
          ∙ (λ i. finish ps (more i) (fed fs m).frames (fed fs m).mask (suc n) cs.1)
          ∙ λ i. finished ps (cond (sym s i) (skipping 1 (fed fs m)) (record { skip = 0; frames = second (op2_kind o) m ∷ fs; mask = m })) (suc n) cs.1
      split false s =
          let m : ℕ = passing cs.0 ps in
          λ i. finished ps (cond (sym s i) (skipping 1 (fed fs m)) (record { skip = 0; frames = second (op2_kind o) m ∷ fs; mask = m })) (suc n) cs.1

      go : (p : Op2) → finished ps (fed (first (op2_kind p) ∷ fs) (passing cs.0 ps)) (suc n) cs.1 ≡ finished ps (looked ps fs (op2_kind p) f v) (suc (suc n)) cs
      go Union = refl
      go Intersect = refl
      go Xor = refl
      go Difference = refl
      go Sequence = refl
      go LtlUntil = refl

-- a node that is looked at or not
node_stepped : (ps : List (List ℕ)) (st : State) (o : CoreNode) (k f v : ℕ) → node_words_fact o ≡ k ∷ f ∷ v ∷ [] → (n : ℕ) → due_behind o n ≡ arity_of k + n → (cs : Cores (due_behind o n))
    → finished ps st (suc n) (put_over o n cs) ≡ finished ps (stepped ps st k f v) (due_behind o n) cs
node_stepped ps st o k f v e n due cs = go st.skip o e due cs
  where
    go : (skip : ℕ) (p : CoreNode) → node_words_fact p ≡ k ∷ f ∷ v ∷ [] → due_behind p n ≡ arity_of k + n → (ds : Cores (due_behind p n))
        → finish ps skip st.frames st.mask (suc n) (put_over p n ds)
        ≡ finished ps (stepped ps (record { skip = skip; frames = st.frames; mask = st.mask }) k f v) (due_behind p n) ds
    go zero p w d ds = node_looked ps st.frames st.mask p k f v w n ds
    go (suc j) p w d ds = left p d ds ∙ λ i. finished ps (cond (sym (lt-ltb 0 (suc j) (omega arith)) i) (record { skip = suc j - 1 + arity_of k; frames = st.frames; mask = st.mask }) (looked ps st.frames k f v)) (due_behind p n) ds
      where
        left : (q : CoreNode) → due_behind q n ≡ arity_of k + n → (es : Cores (due_behind q n))
            → finish ps (suc j) st.frames st.mask (suc n) (put_over q n es) ≡ finish ps (suc j - 1 + arity_of k) st.frames st.mask (due_behind q n) es
        left (atom a) u es = let same : j ≡ suc j - 1 + arity_of k = omega (arith, u) in λ i. finish ps (same i) st.frames st.mask n es
        left (unary p) u es = let same : suc j ≡ suc j - 1 + arity_of k = omega (arith, u) in λ i. finish ps (same i) st.frames st.mask (suc n) es
        left (binary p) u es = let same : suc (suc j) ≡ suc j - 1 + arity_of k = omega (arith, u) in λ i. finish ps (same i) st.frames st.mask (suc (suc n)) es

-- ## Tests

abbrev all_tests : (n : ℕ) → Cores n → Bool
all_tests zero cs = true
all_tests (suc n) cs = is_test cs.0 && all_tests n cs.1

and_true : (b : Bool) → (b && true) ≡ b
and_true true = refl
and_true false = refl

and_assoc : (x y z : Bool) → ((x && y) && z) ≡ (x && (y && z))
and_assoc true y z = refl
and_assoc false y z = refl

node_tests : (o : CoreNode) (k f v : ℕ) → node_words_fact o ≡ k ∷ f ∷ v ∷ [] → (n : ℕ) (cs : Cores (due_behind o n))
    → all_tests (suc n) (put_over o n cs) ≡ (test_kind k && all_tests (due_behind o n) cs)
node_tests (atom a) k f v e n cs = let kind : atom_kind a ≡ k = cc in λ i. test_kind (kind i) && all_tests n cs
node_tests (unary o) k f v e n cs = let kind : op1_kind o ≡ k = cc in go o ∙ λ i. test_kind (kind i) && all_tests (suc n) cs
  where
    go : (p : Op1) → false ≡ (test_kind (op1_kind p) && all_tests (suc n) cs)
    go Complement = refl
    go Star = refl
    go LtlNext = refl
node_tests (binary o) k f v e n cs =
    let kind : op2_kind o ≡ k = cc in
    and_assoc (test_kind (op2_kind o)) (is_test cs.0 && is_test cs.1.0) (all_tests n cs.1.1)
    ∙ ap (λ b. test_kind (op2_kind o) && b) (and_assoc (is_test cs.0) (is_test cs.1.0) (all_tests n cs.1.1))
    ∙ λ i. test_kind (kind i) && all_tests (suc (suc n)) cs

-- ## What is left of a core that is read whole

record Rest (s : List ℕ) (ps : List (List ℕ)) (room at due place : ℕ) (t : Bool) (st : State) (c : Core) : Type 0 where
  cores : Cores due
  reads : read_cores (max_core - place) due place (drop at s) ≡ ok (cores, [])
  tests : (t && all_tests due cores) ≡ is_test c
  mask : 3 * place ≤ room → finished ps st due cores ≡ passing c ps

rest_start : (s : List ℕ) (ps : List (List ℕ)) (room : ℕ) (c : Core) → decode_core s ≡ ok c → Rest s ps room 0 1 0 true (record { skip = 0; frames = []; mask = 0 }) c
rest_start s ps room c e = record {
  cores = (c, tt);
  reads = whole_read (read_cores max_core 1 0 s) c e;
  tests = and_true (is_test c);
  mask = λ _. refl;
}

module _ (s : List ℕ) (at place : ℕ) (each : Sliced s) (low : place < max_core) (d : CoreRecord) (f : CoreRecordFound (drop at s) (Ok d)) where
  abbrev h : Record
  h = core_record (kind_number d.kind) d.field d.value

  wrote : Wrote (drop at s) h (drop d.size (drop at s))
  wrote = core_only (drop at s) _ _ (bytes_drop at s (bytes_each s each)) (sym f.answer)

  behind_due : (n : ℕ) → due_behind (core_node h) n ≡ arity_of (kind_number d.kind) + n
  behind_due n = due_is (sym f.answer) wrote n

  rest_behind : {ps : List (List ℕ)} {room : ℕ} {t : Bool} {st st' : State} {c : Core} (n : ℕ) → Rest s ps room at (suc n) place t st c → (3 * (place + 1) ≤ room → st' ≡ stepped ps st (kind_number d.kind) d.field d.value)
      → Rest s ps room (at + d.size) (due_behind (core_node h) n) (place + 1) (t && test_kind (kind_number d.kind)) st' c
  rest_behind {ps} {room} {t} {st} {st'} {c} n r w = go (read_cores (max_core - (place + 1)) (due_behind (core_node h) n) (place + 1) (drop d.size (drop at s))) refl (ap (core_at (read_cores (max_core - (place + 1))) n place) f.answer ∙ more)
    where
      more : read_cores (suc (max_core - (place + 1))) (suc n) place (drop at s) ≡ ok (r.cores, [])
      more = let e : suc (max_core - (place + 1)) ≡ max_core - place = omega arith in ap (λ left. read_cores left (suc n) place (drop at s)) e ∙ r.reads

      go : (x : Answer (Cores (due_behind (core_node h) n) × List ℕ)) → read_cores (max_core - (place + 1)) (due_behind (core_node h) n) (place + 1) (drop d.size (drop at s)) ≡ x
          → map_answer {B = Cores (suc n) × List ℕ} (λ q. (put_over (core_node h) n q.0, q.1)) x ≡ ok (r.cores, [])
          → Rest s ps room (at + d.size) (due_behind (core_node h) n) (place + 1) (t && test_kind (kind_number d.kind)) st' c
      go (refuse q p) k j = let z : ◌≡◌ {A = ℕ} 0 1 = cc in absurd (omega arith)
      go (ok q) k j =
          let none : q.1 ≡ [] = ap rest_of j in
          let same : put_over (core_node h) n q.0 ≡ r.cores = ap (read_of r.cores) j in
          record {
            cores = q.0;
            reads = ap (read_cores (max_core - (place + 1)) (due_behind (core_node h) n) (place + 1)) (sym (drop-drop d.size at s)) ∙ k ∙ ap (λ (l : List ℕ). ok (q.0, l)) none;
            tests =
                and_assoc t (test_kind (kind_number d.kind)) (all_tests (due_behind (core_node h) n) q.0)
                ∙ ap (λ b. t && b) (sym (node_tests (core_node h) (kind_number d.kind) d.field d.value (node_words wrote) n q.0) ∙ ap (all_tests (suc n)) same) ∙ r.tests;
            mask = λ l.
                ap (λ (z : State). finished ps z (due_behind (core_node h) n) q.0) (w l)
                ∙ sym (node_stepped ps st (core_node h) (kind_number d.kind) d.field d.value (node_words wrote) n (behind_due n) q.0)
                ∙ ap (finished ps st (suc n)) same ∙ r.mask (omega (arith, l));
          }

  rest_next : {ps : List (List ℕ)} {room due n : ℕ} {t : Bool} {st st' : State} {c : Core} → 0 < due → n ≡ arity_of (kind_number d.kind) → Rest s ps room at due place t st c
      → (3 * (place + 1) ≤ room → st' ≡ stepped ps st (kind_number d.kind) d.field d.value)
      → Rest s ps room (at + d.size) (due - 1 + n) (place + 1) (t && test_kind (kind_number d.kind)) st' c
  rest_next {ps} {room} {due} {n} {t} {st} {st'} {c} some e r w =
      let more : due ≡ suc (due - 1) = omega arith in
      let count : due_behind (core_node h) (due - 1) ≡ due - 1 + n = omega (arith, behind_due (due - 1), e) in
      subst (λ q. Rest s ps room (at + d.size) q (place + 1) (t && test_kind (kind_number d.kind)) st' c) count
      (rest_behind (due - 1) (subst (λ q. Rest s ps room at q place t st c) more r) w)

-- ## The loop

-- what was read so far is good, and what is left decides the answer
pub record Passing (s : List ℕ) (ps : List (List ℕ)) (room : ℕ) (list : List (List ℕ)) (at due place : ℕ) (x : Answer ℕ) (t : Bool) (run : Progress) : Type 0 where
  pub judging : Judging s room at due place x
  pub long : length list ≡ room / 3
  pub deep : run.depth ≤ place
  pub fits : run.depth ≤ length list
  pub few : run.skip ≤ 2 * place
  rest : (c : Core) → decode_core s ≡ ok c → Rest s ps room at due place t (state_of list run) c

-- the same of a spot
abbrev pub PassingAt : (s : List ℕ) (ps : List (List ℕ)) (room : ℕ) (list : List (List ℕ)) → Spot → Bool → Type 0
PassingAt s ps room list c t = Passing s ps room list c.cursor.at c.due c.cursor.place (answered c.cursor.fields) t c.run

-- at equal numbers
pub passing_same : {s : List ℕ} {ps : List (List ℕ)} {room : ℕ} {list : List (List ℕ)} {at at' due due' place place' : ℕ} {x x' : Answer ℕ} {t : Bool} {run run' : Progress}
    → at ≡ at' → due ≡ due' → place ≡ place' → x ≡ x' → run ≡ run' → Passing s ps room list at due place x t run → Passing s ps room list at' due' place' x' t run'
passing_same {s} {ps} {room} {list} {at} {at'} {due} {due'} {place} {place'} {x} {x'} {t} {run} {run'} a d p e r w =
    subst (Passing s ps room list at' due' place' x' t) r
    (subst (λ y. Passing s ps room list at' due' place' y t run) e
    (subst (λ n. Passing s ps room list at' due' n x t run) p
    (subst (λ n. Passing s ps room list at' n place x t run) d (subst (λ n. Passing s ps room list n due place x t run) a w))))

pub pass_start : (s : List ℕ) (ps : List (List ℕ)) (room : ℕ) (list : List (List ℕ)) {c : Spot} → length list ≡ room / 3 → Starts s c → PassingAt s ps room list c true
pass_start s ps room list long k =
    passing_same (sym k.cursor.at) (sym k.due) (sym k.cursor.place) (sym k.cursor.fields) (sym k.run) (record {
      judging = judge_start s room;
      long = long;
      deep = omega arith;
      fits = omega arith;
      few = omega arith;
      rest = rest_start s ps room;
    })

-- one record more
pub pass_record : {s : List ℕ} {ps : List (List ℕ)} {room : ℕ} {list : List (List ℕ)} {at due place : ℕ} {x : Answer ℕ} {t : Bool} {run : Progress}
    → Passing s ps room list at due place x t run → Sliced s → 0 < due → place < max_core → (d : CoreRecord) → CoreRecordFound (drop at s) (Ok d)
    → {n : ℕ} {y : Answer ℕ} {t' : Bool} → n ≡ arity_of (kind_number d.kind) → y ≡ widened x (kind_number d.kind) d.field place → t' ≡ (t && test_kind (kind_number d.kind))
    → {list' : List (List ℕ)} {run' : Progress} → length list' ≡ length list → Stepped ps list run d list' run'
    → Passing s ps room list' (at + d.size) (due - 1 + n) (place + 1) y t' run'
pass_record {s} {ps} {room} {list} {at} {due} {place} {x} {t} {run} p each some low d f {n} {y} {t'} k g u {list'} {run'} long w = record {
  judging = judge_next p.judging some low each f k g;
  long = long ∙ p.long;
  deep = omega (arith, p.deep, w.deep);
  fits = omega (arith, long, w.fits);
  few = omega (arith, p.few, p.deep, w.few);
  rest = λ c e.
      subst (λ (b : Bool). Rest s ps room (at + d.size) (due - 1 + n) (place + 1) b (state_of list' run') c) (sym u)
      (rest_next s at place each low d f some k (p.rest c e) (λ l. w.is (omega (arith, l, p.deep, p.long))));
}

-- records that are not looked at
pub pass_skim : {s : List ℕ} {ps : List (List ℕ)} {room : ℕ} {list : List (List ℕ)} {at due place : ℕ} {x : Answer ℕ} {t : Bool} {run : Progress}
    → Passing s ps room list at due place x t run → Sliced s → {cores : ℕ} → cores ≤ run.skip → cores ≤ due
    → {at' place' skip' : ℕ} {x' : Answer ℕ} → Skims s at place cores x at' place' skip' x'
    → Passing s ps room list at' (due - cores + skip') place' x' t (record { depth = run.depth; mask = run.mask; skip = run.skip - cores + skip' })
pass_skim {s} {ps} {room} {list} {at} {due} {place} {x} {t} {run} p each {cores} l m none_read =
    let back : due ≡ due - cores + cores = omega (arith, m) in
    let skip : run.skip ≡ run.skip - cores + cores = omega (arith, l) in
    subst (λ q. Passing s ps room list at q place x t (record { depth = run.depth; mask = run.mask; skip = run.skip - cores + cores })) back
    (subst (λ q. Passing s ps room list at due place x t (record { depth = run.depth; mask = run.mask; skip = q })) skip p)
pass_skim {s} {ps} {room} {list} {at} {due} {place} {x} {t} {run} p each {cores} l m (one_more {at' = at'} {place' = place'} {skip' = skip'} {x' = x'} k d some low f test) =
    let q = pass_skim p each l m k in
    let a : ℕ = arity_of (kind_number d.kind) in
    let y : Answer ℕ = widened x' (kind_number d.kind) d.field place' in
    let run' : Progress = record { depth = run.depth; mask = run.mask; skip = run.skip - cores + skip' } in
    let next =
    pass_record q each (omega (arith, some)) low d f refl refl (sym (ap (λ b. t && b) test ∙ and_true t)) refl
    (step_skip ps list run' d q.fits (omega (arith, some)) refl) in
    let count : due - cores + skip' - 1 + a ≡ due - cores + (skip' - 1 + a) = omega (arith, some) in
    let skip : run.skip - cores + skip' - 1 + a ≡ run.skip - cores + (skip' - 1 + a) = omega (arith, some) in
    subst (λ n. Passing s ps room list (at' + d.size) n (place' + 1) y t (record { depth = run.depth; mask = run.mask; skip = run.skip - cores + (skip' - 1 + a) })) count
    (subst (λ n. Passing s ps room list (at' + d.size) (due - cores + skip' - 1 + a) (place' + 1) y t (record { depth = run.depth; mask = run.mask; skip = n })) skip next)

pub pass_skipped : {s : List ℕ} {ps : List (List ℕ)} {room : ℕ} {list : List (List ℕ)} {t : Bool} (c r : Spot) → c.cursor.bytes.now ≡ s → PassingAt s ps room list c t → Sliced s → Skipped c r
    → PassingAt s ps room list r t
pass_skipped {s} c r same p each k =
    passing_same refl (sym k.due_is) refl refl (sym k.run_is)
    (pass_skim p each k.most k.within (subst (λ (l : List ℕ). Skims l c.cursor.at c.cursor.place k.cores (answered c.cursor.fields) r.cursor.at r.cursor.place k.skip (answered r.cursor.fields)) same k.skims))

-- ## The end

settled_room : (n : ℕ) (x : Answer ℕ) (room : ℕ) {q : ℕ × ℕ} → ok q ≡ settled n x room → 3 * n ≤ room
settled_room n (refuse r p) room e = let z : ◌≡◌ {A = ℕ} 0 1 = cc in absurd (omega arith)
settled_room n (ok m) room {q} e = go (leb (3 * n) room) refl e
  where
    go : (b : Bool) → leb (3 * n) room ≡ b → ok q ≡ (and_then (need b 10 0) λ _. ok (n, m)) → 3 * n ≤ room
    go true h d = leb-true (3 * n) room h
    go false h d = let z : ◌≡◌ {A = ℕ} 0 1 = cc in absurd (omega arith)

pub pass_refused : {s : List ℕ} {room : ℕ} {ps : List (List ℕ)} (e : Refused) → refuse (number_of e.refusal) e.place ≡ counts_of (read_core s room) → Passed s room ps (Err e)
pass_refused e k = record { answer = k; core = λ c d. tt }

pub pass_done : {s : List ℕ} {ps : List (List ℕ)} {room : ℕ} {list : List (List ℕ)} {at due place : ℕ} {x : Answer ℕ} {t : Bool} {run : Progress}
    → Passing s ps room list at due place x t run → due ≤ 0 → length s ≤ at → (d : Counts) → core_answer (Ok d) ≡ settled place x room
    → Passed s room ps (Ok (record { count = d.count; fields = d.fields; test = t; mask = run.mask }))
pass_done {s} {ps} {room} {list} {at} {due} {place} {x} {t} {run} p none over d e = record {
  answer = e ∙ judge_done p.judging none over;
  core = λ c g.
      let z : due ≡ 0 = omega arith in
      let left : Rest s ps room at 0 place t (state_of list run) c = subst (λ n. Rest s ps room at n place t (state_of list run) c) z (p.rest c g) in
      (sym (and_true t) ∙ left.tests, left.mask (settled_room place x room e));
}

pub pass_unsettled : {s : List ℕ} {ps : List (List ℕ)} {room : ℕ} {list : List (List ℕ)} {at due place : ℕ} {x : Answer ℕ} {t : Bool} {run : Progress}
    → Passing s ps room list at due place x t run → due ≤ 0 → length s ≤ at → (e : Refused) → core_answer (Err e) ≡ settled place x room → Passed s room ps (Err e)
pass_unsettled p none over e k = record { answer = k ∙ judge_done p.judging none over; core = λ c g. tt }

-- how far it gets
pub record Bounded (place cores place' skip' : ℕ) : Type 0 where
  pub low : place' ≤ max_core
  pub more : place ≤ place'
  pub few : skip' + 2 * place ≤ cores + 2 * place'

pub skims_bounded : {s : List ℕ} {at place cores : ℕ} {x : Answer ℕ} {at' place' skip' : ℕ} {x' : Answer ℕ} → place ≤ max_core → Skims s at place cores x at' place' skip' x' → Bounded place cores place' skip'
skims_bounded l none_read = record { low = l; more = omega arith; few = omega arith }
skims_bounded l (one_more {skip' = skip'} k d some low f test) =
    let b = skims_bounded l k in
    record { low = omega (arith, low); more = omega (arith, b.more); few = omega (arith, b.few, some, arity_small (kind_number d.kind) (arity_of (kind_number d.kind)) refl) }

-- ## Pairs

no_larger : (k f at : ℕ) (m : ℕ) → 7 ≤ k → widened (ok m) k f at ≡ ok m
no_larger k f at m h = ap (λ b. cond b (and_then (need (ltb (f + 1) (2 ^ 32)) 25 at) λ _. ok (max m (f + 1))) (ok m)) (and_no (leb 5 k) (lt-leb k 6 (omega (arith, h))))
  where
    and_no : (x : Bool) {y : Bool} → y ≡ false → (x && y) ≡ false
    and_no true e = e
    and_no false e = refl

test_larger : (k f at m : ℕ) → k ≡ 6 → f + 1 < 2 ^ 32 → widened (ok m) k f at ≡ ok (max m (f + 1))
test_larger k f at m e h =
    ap (λ j. widened (ok m) j f at) e ∙ ap (λ b. and_then (need b 25 at) λ _. ok (max m (f + 1))) (lt-ltb (f + 1) (2 ^ 32) h)

-- an operator of tests has two operands
operator_arity : (k : ℕ) → 7 ≤ k → k ≤ 11 → arity_of k ≡ 2
operator_arity k l h = sym (arity_in 7 5 2 refl k l (omega (arith, h)))

operator_kind : (k : ℕ) → 7 ≤ k → k ≤ 11 → test_kind k ≡ true
operator_kind k l h = or_right (leb k 1) (leb 6 k && leb k 11) (and_both (le-leb 6 k (omega (arith, l))) (le-leb k 11 h))

-- at equal numbers
skims_same : {s : List ℕ} {at place skip : ℕ} {x : Answer ℕ} {a b p q k l : ℕ} {y z : Answer ℕ} → a ≡ b → p ≡ q → k ≡ l → y ≡ z
    → Skims s at place skip x a p k y → Skims s at place skip x b q l z
skims_same {s} {at} {place} {skip} {x} {a} {b} {p} {q} {k} {l} {y} {z} e f g h w =
    subst (Skims s at place skip x b q l) h
    (subst (λ n. Skims s at place skip x b q n y) g (subst (λ n. Skims s at place skip x b n k y) f (subst (λ n. Skims s at place skip x n p k y) e w)))

pub record Pairing (s : List ℕ) (from index fields at place most : ℕ) : Type 0 where
  pub low : place ≤ max_core
  pub inside : at ≤ length s
  pub skims : (skip : ℕ) → 1 ≤ skip → Skims s from index skip (ok fields) at place skip (ok most)

pub pair_start : (s : List ℕ) (from index fields : ℕ) → from ≤ length s → index ≤ max_core → Pairing s from index fields from index fields
pair_start s from index fields l m = record { low = m; inside = l; skims = λ skip h. none_read }

module _ {s : List ℕ} {from index fields at place most : ℕ} (k : Pairing s from index fields at place most) (below : place + 1 < max_core) {d : Pair} (p : PairIs (drop at s) d) where
  pair_end : at + p.operator.size + p.test.size ≡ at + d.size
  pair_end = omega (arith, p.size)

  behind_operator : CoreRecordFound (drop (at + p.operator.size) s) (Ok p.test)
  behind_operator = subst (λ (l : List ℕ). CoreRecordFound l (Ok p.test)) (drop-drop p.operator.size at s) p.second

  pub pair_inside : at + d.size ≤ length s
  pair_inside =
      omega (arith, p.size, p.first.inside.1, behind_operator.inside.1, length-drop at s, length-drop (at + p.operator.size) s, k.inside)

  pub pair_next : {m : ℕ} → m ≡ max most d.need → Pairing s from index fields (at + d.size) (place + 2) m
  pair_next {m} e = record {
    low = omega (arith, below);
    inside = pair_inside;
    skims = λ skip h.
        let o : CoreRecord = p.operator in
        let t : CoreRecord = p.test in
        let one = one_more (k.skims skip h) o (omega (arith, h)) (omega (arith, below)) p.first (operator_kind (kind_number o.kind) p.low p.high) in
        let two =
        one_more one t (omega (arith, h, operator_arity (kind_number o.kind) p.low p.high)) (omega (arith, below)) behind_operator (ap test_kind p.kind) in
        let places : place + 1 + 1 ≡ place + 2 = omega arith in
        let none : arity_of (kind_number t.kind) ≡ 0 = ap arity_of p.kind in
        let skips : skip - 1 + arity_of (kind_number o.kind) - 1 + arity_of (kind_number t.kind) ≡ skip = omega (arith, h, none, operator_arity (kind_number o.kind) p.low p.high) in
        let counts : widened (widened (ok most) (kind_number o.kind) o.field place) (kind_number t.kind) t.field (place + 1) ≡ ok m =
        ap (λ x. widened x (kind_number t.kind) t.field (place + 1)) (no_larger (kind_number o.kind) o.field place most p.low)
        ∙ test_larger (kind_number t.kind) t.field (place + 1) most p.kind p.below ∙ ap ok (ap (max most) (sym p.need) ∙ sym e) in
        skims_same pair_end places skips counts two;
  }

-- the kind of a number from 7 to 11
operator_of : (n : ℕ) → 7 ≤ n → n ≤ 11 → (k : Kind) × (kind_number k ≡ n)
operator_of n l h = go (n - 7) (omega arith) (omega arith)
  where
    go : (i : ℕ) → n ≡ 7 + i → i < 5 → (k : Kind) × (kind_number k ≡ n)
    go zero e b = (kind.Union, sym e)
    go (suc zero) e b = (kind.Intersect, sym e)
    go (suc (suc zero)) e b = (kind.Xor, sym e)
    go (suc (suc (suc zero))) e b = (kind.Difference, sym e)
    go (suc (suc (suc (suc zero)))) e b = (kind.Sequence, sym e)
    go (suc (suc (suc (suc (suc i))))) e b = absurd (omega arith)

-- a pair that nine bytes tell
module _ (s : List ℕ) (at : ℕ) (h : at + 9 ≤ length s) (each : Sliced s) {f : ℕ}
    (is : f ≡ from_le_bytes w32 (get_or s (at + 4) 0 ∷ get_or s (at + 5) 0 ∷ get_or s (at + 6) 0 ∷ get_or s (at + 7) 0 ∷ []))
    (e : pair_bytes (get_or s at 0) (get_or s (at + 1) 0) (get_or s (at + 2) 0) (get_or s (at + 3) 0) f (get_or s (at + 8) 0) ≡ true) where
  abbrev byte : ℕ → ℕ
  byte n = get_or s (at + n) 0

  both : (operator_bytes (get_or s at 0) (byte 1) && atom_bytes (byte 2) (byte 3) f (byte 8)) ≡ true
  both = and_left _ (leb (byte 1) 11 && (eqb (byte 3) 6 && ltb f 4294967295)) e

  limits : (leb (byte 1) 11 && (eqb (byte 3) 6 && ltb f 4294967295)) ≡ true
  limits = and_right (operator_bytes (get_or s at 0) (byte 1) && atom_bytes (byte 2) (byte 3) f (byte 8)) _ e

  further : (m n k : ℕ) → m + n ≡ k → get_or s (at + k) 0 ≡ get_or s (at + m + n) 0
  further m n k q = same_at s (omega (arith, q))

  -- an operator begins at 7
  operator_low : 7 ≤ byte 1
  operator_low =
      let a = and_left (operator_bytes (get_or s at 0) (byte 1)) (atom_bytes (byte 2) (byte 3) f (byte 8)) both in
      leb-true 7 (byte 1) (and_left (leb 7 (byte 1)) (leb (byte 1) 15) (and_right (eqb (get_or s at 0) 1) (leb 7 (byte 1) && leb (byte 1) 15) a))

  -- the operator's kind
  operator_is : (k : Kind) × (kind_number k ≡ byte 1)
  operator_is = operator_of (byte 1) operator_low (leb-true (byte 1) 11 (and_left (leb (byte 1) 11) (eqb (byte 3) 6 && ltb f 4294967295) limits))

  test_is : 6 ≡ byte 3
  test_is = sym (eqb-true (byte 3) 6 (and_left (eqb (byte 3) 6) (ltb f 4294967295) (and_right (leb (byte 1) 11) (eqb (byte 3) 6 && ltb f 4294967295) limits)))

  operator_there : CoreRecordFound (drop at s) (Ok (record { kind = operator_is.0; field = 0; value = 0; size = 2 }))
  operator_there = operator_at s at (omega (arith, h)) operator_is.0 operator_is.1 (and_left (operator_bytes (get_or s at 0) (byte 1)) (atom_bytes (byte 2) (byte 3) f (byte 8)) both)

  test_there : CoreRecordFound (drop (at + 2) s) (Ok (record { kind = kind.Test; field = f; value = byte 2 / 32; size = 6 + byte 2 / 32 }))
  test_there =
      atom_at s (at + 2) (omega (arith, h)) kind.Test (test_is ∙ further 2 1 3 refl) each
      (is ∙ λ i. from_le_bytes w32 (further 2 2 4 refl i ∷ further 2 3 5 refl i ∷ further 2 4 6 refl i ∷ further 2 5 7 refl i ∷ []))
      ((λ i. atom_bytes (byte 2) (sym (further 2 1 3 refl) i) f (sym (further 2 6 8 refl) i)) ∙ and_right (operator_bytes (get_or s at 0) (byte 1)) (atom_bytes (byte 2) (byte 3) f (byte 8)) both)

  pub field_below : f < 4294967295
  field_below = ltb-true f 4294967295 (and_right (eqb (byte 3) 6) (ltb f 4294967295) (and_right (leb (byte 1) 11) (eqb (byte 3) 6 && ltb f 4294967295) limits))

  pub pair_at : PairIs (drop at s) (record { size = 8 + byte 2 / 32; need = f + 1 })
  pair_at = record {
    operator = record { kind = operator_is.0; field = 0; value = 0; size = 2 };
    test = record { kind = kind.Test; field = f; value = byte 2 / 32; size = 6 + byte 2 / 32 };
    first = operator_there;
    second =
        subst (λ (l : List ℕ). CoreRecordFound l (Ok (record { kind = kind.Test; field = f; value = byte 2 / 32; size = 6 + byte 2 / 32 })))
        (sym (drop-drop 2 at s)) test_there;
    low = omega (arith, operator_low, operator_is.1);
    high = omega (arith, operator_is.1, leb-true (byte 1) 11 (and_left (leb (byte 1) 11) (eqb (byte 3) 6 && ltb f 4294967295) limits));
    kind = refl;
    below = omega (arith, field_below);
    size = omega arith;
    need = refl;
  }

-- the nine bytes, as they were taken from the slice
pub pair_taken : (s : List ℕ) (at : ℕ) (nine : List ℕ) → IsFirstChunk (take (length s - at) (drop at s)) nine 9 → Sliced s → {f : ℕ}
    → f ≡ from_le_bytes w32 (get_or nine 4 0 ∷ get_or nine 5 0 ∷ get_or nine 6 0 ∷ get_or nine 7 0 ∷ [])
    → pair_bytes (get_or nine 0 0) (get_or nine 1 0) (get_or nine 2 0) (get_or nine 3 0) f (get_or nine 8 0) ≡ true
    → PairIs (drop at s) (record { size = 8 + get_or nine 2 0 / 32; need = f + 1 })
pair_taken s at nine k each {f} is e =
    subst (λ n. PairIs (drop at s) (record { size = 8 + n / 32; need = f + 1 })) (sym (byte_is 2 (omega arith)))
    (pair_at s at (omega (arith, k.enough, ap length rest, length-drop at s)) each
    (is ∙ λ i. from_le_bytes w32 (byte_is 4 (omega arith) i ∷ byte_is 5 (omega arith) i ∷ byte_is 6 (omega arith) i ∷ byte_is 7 (omega arith) i ∷ []))
    ((λ i. pair_bytes (first_is i) (sym (byte_is 1 (omega arith)) i) (sym (byte_is 2 (omega arith)) i) (sym (byte_is 3 (omega arith)) i) f (sym (byte_is 8 (omega arith)) i)) ∙ e))
  where
    rest : take (length s - at) (drop at s) ≡ drop at s
    rest = take_all (length s - at) (drop at s) (omega (arith, length-drop at s))

    byte_is : (n : ℕ) → n < 9 → get_or nine n 0 ≡ get_or s (at + n) 0
    byte_is n h = ap (λ (l : List ℕ). get_or l n 0) (k.same ∙ ap (take 9) rest) ∙ get_or-take 9 (drop at s) n 0 h ∙ get_or-drop at s n 0

    first_is : get_or s at 0 ≡ get_or nine 0 0
    first_is = let none : at ≡ at + 0 = omega arith in ap (λ n. get_or s n 0) none ∙ sym (byte_is 0 (omega arith))

-- ## The loop of skim

-- one run behind another
skims_then : {s : List ℕ} {at place skip : ℕ} {x : Answer ℕ} {at' place' skip' : ℕ} {x' : Answer ℕ} {at'' place'' skip'' : ℕ} {x'' : Answer ℕ}
    → Skims s at place skip x at' place' skip' x' → Skims s at' place' skip' x' at'' place'' skip'' x'' → Skims s at place skip x at'' place'' skip'' x''
skims_then h none_read = h
skims_then h (one_more k d some low f test) = one_more (skims_then h k) d some low f test

-- from one cursor to the next, over the same bytes
between_then : (a b c : Cursor) {k l m : ℕ} → b.bytes.now ≡ a.bytes.now → Between a k b l → Between b l c m → Between a k c m
between_then a b c {k} {l} {m} same v w =
    skims_then v (subst (λ (s : List ℕ). Skims s b.at b.place l (answered b.fields) c.at c.place m (answered c.fields)) same w)

-- the loop of skim
pub record Skimming (from : Cursor) (cores : ℕ) (c : Cursor) (skip : ℕ) : Type 0 where
  pub same : c.bytes.now ≡ from.bytes.now
  pub reads : Between from cores c skip

pub skim_pairs : {from : Cursor} {cores : ℕ} {c : Cursor} {skip : ℕ} → Skimming from cores c skip → 0 < skip → (r : Cursor) → PairsRead c r → Skimming from cores r skip
skim_pairs {from} {cores} {c} {skip} k some r p = record {
  same = p.same ∙ k.same;
  reads = between_then from c r k.same k.reads (p.skims skip (omega (arith, some)));
}

-- up to the record that is next
module _ (c : Cursor) (d : CoreRecord) {b : Bool} (found : CoreRecordFound (drop c.at c.bytes.now) (Ok d)) (e : b ≡ (leb 6 (kind_number d.kind) && leb (kind_number d.kind) 11)) (go : (leb max_core c.place || not b) ≡ false) where
  neither : (y z : Bool) → (y || not z) ≡ false → (y ≡ false) × (z ≡ true)
  neither true z q = absurd (false≢true (sym q))
  neither false true q = (refl, refl)
  neither false false q = absurd (false≢true (sym q))

  test : test_kind (kind_number d.kind) ≡ true
  test = or_right (leb (kind_number d.kind) 1) (leb 6 (kind_number d.kind) && leb (kind_number d.kind) 11) (sym e ∙ (neither (leb max_core c.place) b go).1)

  pub skim_below : c.place < max_core
  skim_below = leb-false max_core c.place (neither (leb max_core c.place) b go).0

  pub skim_next : {from : Cursor} {cores skip : ℕ} → Skimming from cores c skip → 0 < skip → {n : ℕ} → n ≡ arity_of (kind_number d.kind) → (r : Cursor) → Behind c d r → Skimming from cores r (skip - 1 + n)
  skim_next {from} {cores} {skip} k some {n} a r w =
      let more : skip - 1 + arity_of (kind_number d.kind) ≡ skip - 1 + n = omega (arith, a) in record {
        same = w.same ∙ k.same;
        reads = skims_same (sym w.at) (sym w.place) more (sym w.fields) (one_more k.reads d some skim_below (subst (λ (l : List ℕ). CoreRecordFound (drop c.at l) (Ok d)) k.same found) test);
      }
