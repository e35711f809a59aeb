-- The numbers of an answer have 32 bits: places, lengths and drawn totals.
use mathlib.Core.Path.{◌≡◌, refl, ap, subst}
use mathlib.Core.Bool.{Bool, true, false, cond, ◌&&◌}
use mathlib.Core.List.{List, [], ◌∷◌}
use Prim.Native.Nat.{ℕ, ◌+◌, ◌*◌, ◌^◌, ◌≤◌, ◌<◌}
use native.Mathlib.Nat.{zero-add}
use native.Mathlib.Decide.{dec_lt}
use native.Mathlib.Omega.{arith}
use lib.Dec.{leb, eqb}
use lib.ListN.{length, get_or}
use Rattle.literals.specs.Bits.{Bytes}
use Rattle.literals.proofs.Logic.{and_left, and_right, leb_is}
use Rattle.expr.specs.Answers.{Answer, ok, refuse, and_then, map_answer, need}
use Rattle.expr.specs.Terms.{Name, Core, Expr, Plain, Unary, Binary, TestNegation, IfThenElse, Let, LetBitRange, Var, Ranged, records, depth, size}
use Rattle.expr.specs.Form.{max_records, max_depth, decode, encode, encode_core, Fits, Within}
use Rattle.expr.specs.Operations.{is_test_fragment, fragment_bytes, num_fields, fields_bytes, substitute, raised, into_room, substitute_bytes}
use Rattle.expr.proofs.Places.{Placed, placed_then, placed_need, decode_placed, fields_placed}
use Rattle.expr.proofs.TermForm.{IfOk}
use Rattle.expr.proofs.FormTheorem.{decode_only}
use Rattle.expr.proofs.Replacing.{long}
use Rattle.desugar.specs.Bindings.{Env, find_range, lookup_alias, lookup_variable, range, variable}
use Rattle.desugar.specs.Rules.{known_range, range_rule}
use Rattle.desugar.specs.Desugar.{desugar, desugar_bytes, drawn_of, max_allowance, work_for}
use Rattle.desugar.specs.Memory.{Holds, words}
use Rattle.desugar.specs.Meter.{Meter, drawn, left}
use Rattle.desugar.proofs.Limit.{Costs, desugar_costs, gives, stops}
use Rattle.desugar.proofs.RecordBytes.{records_short, core_bytes}
use Rattle.desugar.proofs.RefusalPlaces.{desugar_placed, range_placed, rule_placed, variable_placed}
use Rattle.desugar.proofs.Room.{desugar_fits}
use Rattle.cores.specs.Reading.{max_core, read_core}
use Rattle.cores.proofs.CoreForm.{decode_only as core_only, read_as}
use Rattle.cores.proofs.CorePlaces.{read_placed}
use Rattle.cores.proofs.DesugaredCores.{Light, light}
use Rattle.packets.specs.Running.{run_packets}
use Rattle.packets.proofs.RunLaws.{run_placed}
use Rattle.netkat.specs.Check.{check, check_bytes}
use Rattle.netkat.specs.CheckWords.{check_walk}
use Rattle.netkat.proofs.CheckWalk.{check_is_walk}

-- ## Answers

-- P holds of a result, and a refusal's place has 32 bits
abbrev pub Narrow : {A : Type 0} → (A → Type 0) → Answer A → Type 0
Narrow P (ok a) = P a
Narrow P (refuse r at) = at < 2 ^ 32

module _ {A : Type 0} (P : A → Type 0) where
  placed_below : (n : ℕ) → n ≤ 2 ^ 32 → (x : Answer A) → Placed n x → ((a : A) → x ≡ ok a → P a) → Narrow P x
  placed_below n l (ok a) p h = h a refl
  placed_below n l (refuse r at) p h = omega (arith, p)

  placed_narrow : (x : Answer A) → Placed (max_records + 1) x → ((a : A) → x ≡ ok a → P a) → Narrow P x
  placed_narrow = placed_below (max_records + 1) (omega arith)

  narrow_then : {B : Type 0} (Q : B → Type 0) (x : Answer A) (f : A → Answer B) → Narrow P x → ((a : A) → P a → Narrow Q (f a)) → Narrow Q (and_then x f)
  narrow_then Q (ok a) f h g = g a h
  narrow_then Q (refuse r at) f h g = h

  narrow_map : {B : Type 0} (Q : B → Type 0) (f : A → B) (x : Answer A) → Narrow P x → ((a : A) → P a → Q (f a)) → Narrow Q (map_answer f x)
  narrow_map Q f (ok a) h g = g a h
  narrow_map Q f (refuse r at) h g = h

narrow_need : (b : Bool) (r : ℕ) → Narrow (λ _. b ≡ true) (need b r 0)
narrow_need true r = refl
narrow_need false r = omega arith

narrow_room : (P : List ℕ → Type 0) (bs : List ℕ) (n : ℕ) → P bs → Narrow P (into_room bs n)
narrow_room P bs n p = narrow_then (λ _. leb (length bs) n ≡ true) P (need (leb (length bs) n) 26 0) _ (narrow_need (leb (length bs) n) 26) (λ _ _. p)

narrow_term : (bs : List ℕ) → Bytes bs → Narrow Within (decode bs)
narrow_term bs b = placed_narrow Within (decode bs) (decode_placed bs) (λ e h. (decode_only bs e b h).0)

-- nothing is said of a result
abbrev pub Any : {A : Type 0} → A → Type 0
Any a = Unit {0}

-- ## Test fragment, Field count

pub fragment_narrow : (bs : List ℕ) → Narrow Any (fragment_bytes bs)
fragment_narrow bs = narrow_map Any Any is_test_fragment (decode bs) (placed_narrow Any (decode bs) (decode_placed bs) (λ _ _. tt)) (λ _ _. tt)

pub fields_narrow : (bs : List ℕ) → Bytes bs → Narrow Any (fields_bytes bs)
fields_narrow bs b =
    narrow_then Within Any (decode bs) _ (narrow_term bs b) (λ e w.
    placed_narrow Any (num_fields e 0) (fields_placed (max_records + 1) e 0 (omega (arith, w.count))) (λ _ _. tt))

-- ## Check

check_placed : (n : ℕ) (env : Env Bool) (e : Expr) (at : ℕ) → at + records e ≤ n → Placed n (check_walk env e at)
check_placed n env (Plain a) at h = tt
check_placed n env (Unary o e) at h = placed_then n (check_walk env e (at + 1)) _ (check_placed n env e (at + 1) (omega arith)) (λ _. tt)
check_placed n env (Binary o a b) at h =
    placed_then n (check_walk env a (at + 1)) _ (check_placed n env a (at + 1) (omega arith)) (λ _.
    placed_then n (check_walk env b (at + 1 + records a)) _ (check_placed n env b (at + 1 + records a) (omega arith)) (λ _. tt))
check_placed n env (TestNegation e) at h =
    placed_then n (check_walk env e (at + 1)) _ (check_placed n env e (at + 1) (omega arith)) (λ s.
    placed_then n (need s 22 at) _ (placed_need n s 22 at (omega arith)) (λ _. tt))
check_placed n env (IfThenElse c t e) at h =
    placed_then n (check_walk env c (at + 1)) _ (check_placed n env c (at + 1) (omega arith)) (λ s.
    placed_then n (check_walk env t (at + 1 + records c)) _ (check_placed n env t (at + 1 + records c) (omega arith)) (λ _.
    placed_then n (check_walk env e (at + 1 + records c + records t)) _ (check_placed n env e (at + 1 + records c + records t) (omega arith)) (λ _.
    placed_then n (need s 23 at) _ (placed_need n s 23 at (omega arith)) (λ _. tt))))
check_placed n env (Let x d b) at h =
    placed_then n (check_walk env d (at + 1)) _ (check_placed n env d (at + 1) (omega arith)) (λ s.
    check_placed n (variable x s ∷ env) b (at + 1 + records d) (omega arith))
check_placed n env (LetBitRange x s e b) at h = check_placed n (range x s e ∷ env) b (at + 1) (omega arith)
check_placed n env (Var x) at h = variable_placed n at (omega arith) (lookup_variable env x) (lookup_alias env x)
check_placed n env (Ranged w u) at h =
    placed_then n (known_range (find_range env w) at) _ (range_placed n at (omega arith) (find_range env w)) (λ r.
    placed_then n (range_rule w u r at) _ (rule_placed n at (omega arith) w u r) (λ _. tt))

pub check_narrow : (bs : List ℕ) → Bytes bs → Narrow Any (check_bytes bs)
check_narrow bs b =
    narrow_then Within Any (decode bs) _ (narrow_term bs b) (λ e w.
    placed_narrow Any (check [] e 0)
    (subst (Placed (max_records + 1)) (check_is_walk [] e 0) (check_placed (max_records + 1) [] e 0 (omega (arith, w.count))))
    (λ _ _. tt))

-- ## Substitute

cond_fits : (h : Bool) (a b : Expr) → Fits a → Fits b → Fits (cond h a b)
cond_fits true a b p q = p
cond_fits false a b p q = q

-- a term's numbers and literals are its own or the replacement's
substitute_fits : (x : Name) (r e : Expr) → Fits r → Fits e → Fits (substitute x r e)
substitute_fits x r (Plain a) p q = q
substitute_fits x r (Unary o e) p q = substitute_fits x r e p q
substitute_fits x r (Binary o a b) p q = (substitute_fits x r a p q.0, substitute_fits x r b p q.1)
substitute_fits x r (TestNegation e) p q = substitute_fits x r e p q
substitute_fits x r (IfThenElse c t e) p q = (substitute_fits x r c p q.0, substitute_fits x r t p q.1, substitute_fits x r e p q.2)
substitute_fits x r (Let y d b) p q =
    (q.0, substitute_fits x r d p q.1, cond_fits (eqb y x) b (substitute x r b) q.2 (substitute_fits x r b p q.2))
substitute_fits x r (LetBitRange y s e b) p q = (q.0, cond_fits (eqb y x) b (substitute x r b) q.1 (substitute_fits x r b p q.1))
substitute_fits x r (Var y) p q = cond_fits (eqb y x) r (Var y) p q
substitute_fits x r (Ranged w u) p q = q

raised_narrow : {A : Type 0} (P : A → Type 0) (x : Answer A) → Narrow P x → Narrow P (raised x)
raised_narrow P (ok a) h = h
raised_narrow P (refuse r at) h = h

abbrev Short : List ℕ → Type 0
Short out = length out < 2 ^ 32

-- a result of at most 4,096 records, each of at most 64 bytes
result_narrow : (x : Name) (n : ℕ) (e r : Expr) → Fits e → Fits r
    → Narrow Short (and_then (need (leb (records (substitute x r e)) max_records && leb (depth (substitute x r e)) max_depth) 27 0) λ _. into_room (encode (substitute x r e)) n)
result_narrow x n e r p q =
    let s : Expr = substitute x r e in
    let few : Bool = leb (records s) max_records in
    let low : Bool = leb (depth s) max_depth in
    narrow_then (λ _. (few && low) ≡ true) Short (need (few && low) 27 0) _ (narrow_need (few && low) 27) (λ _ h.
    narrow_room Short (encode s) n (omega (arith, long s (substitute_fits x r e q p), (leb_is (records s) max_records).0 (and_left few low h))))

pub substitute_narrow : (bs : List ℕ) (x : Name) (rs : List ℕ) (n : ℕ) → Bytes bs → Bytes rs
    → Narrow (λ (k : ℕ). k < 2 ^ 32) (map_answer (λ out. length out) (substitute_bytes bs x rs n))
substitute_narrow bs x rs n b c =
    narrow_map Short (λ k. k < 2 ^ 32) (λ out. length out) (substitute_bytes bs x rs n)
    (narrow_then Within Short (decode bs) _ (narrow_term bs b) (λ e w.
    narrow_then Within Short (raised (decode rs)) _ (raised_narrow Within (decode rs) (narrow_term rs c)) (λ r v.
    result_narrow x n e r w.fits v.fits)))
    (λ _ h. h)

-- ## Desugar

-- each record of a core takes at most 7 bytes
core_long : (c : Core) → length (encode_core c) ≤ 7 * size c
core_long c = subst (λ (bs : List ℕ). length bs ≤ 7 * size c) (core_bytes c (words c) 0 itself) (records_short (words c) 0 (size c))
  where
    itself : Holds (words c) 0 (words c)
    itself = record { fits = omega arith; each = λ k _. ap (λ i. get_or (words c) i 0) (zero-add k) }

-- so of an allowance n no more is drawn, and a core has no more records
abbrev Held : ℕ → Core × Meter → Type 0
Held n r = (size r.0 ≤ n) × (drawn_of n r.1 ≤ n)

core_held : (e : Expr) (n : ℕ) → IfOk (Held n) (desugar [] e 0 (left n))
core_held e n = go (desugar_costs [] e 0)
  where
    go : Costs (desugar [] e 0) → IfOk (Held n) (desugar [] e 0 (left n))
    go (gives c ds s g l) = pick (dec_lt n (drawn ds))
      where
        pick : Dec (n < drawn ds) → IfOk (Held n) (desugar [] e 0 (left n))
        pick (yes d) = rw (l n d) tt
        pick (no d) =
            let fits : size c ≤ drawn ds = subst (IfOk Light) (s []) (light (desugar_fits [] e 0 [])) in
            rw (g n (omega arith)) (omega arith, omega arith)
    go (stops q p ds s g l) = pick (dec_lt n (drawn ds))
      where
        pick : Dec (n < drawn ds) → IfOk (Held n) (desugar [] e 0 (left n))
        pick (yes d) = rw (l n d) tt
        pick (no d) = rw (g n (omega arith)) tt

core_narrow : (e : Expr) (n : ℕ) → Within e → Narrow (Held n) (desugar [] e 0 (left n))
core_narrow e n w =
    placed_narrow (Held n) (desugar [] e 0 (left n))
    (desugar_placed (max_records + 1) [] e 0 (omega (arith, w.count)) (left n))
    (λ r h. subst (IfOk (Held n)) h (core_held e n))

-- both values have 32 bits
abbrev pub Small : ℕ × ℕ → Type 0
Small r = (r.0 < 2 ^ 32) × (r.1 < 2 ^ 32)

-- so few are a core's bytes, and what was drawn
abbrev Few : List ℕ × ℕ → Type 0
Few p = Small (length p.0, p.1)

pub desugar_narrow : (bs : List ℕ) (n work room : ℕ) → Bytes bs → Narrow Small (map_answer (λ p. (length p.0, p.1)) (desugar_bytes bs n work room))
desugar_narrow bs n work room b =
    narrow_map Few Small (λ p. (length p.0, p.1)) (desugar_bytes bs n work room)
    (narrow_then (λ _. (leb 1 n && leb n max_allowance) ≡ true) Few (need (leb 1 n && leb n max_allowance) 9 0) _ (narrow_need (leb 1 n && leb n max_allowance) 9) (λ _ h.
    narrow_then (λ _. leb (work_for n) work ≡ true) Few (need (leb (work_for n) work) 10 0) _ (narrow_need (leb (work_for n) work) 10) (λ _ _.
    narrow_then Within Few (decode bs) _ (narrow_term bs b) (λ e w.
    narrow_then (Held n) Few (desugar [] e 0 (left n)) _ (core_narrow e n w) (λ r held.
    narrow_then (λ out. length out ≤ 7 * n) Few (into_room (encode_core r.0) room) _
    (narrow_room (λ out. length out ≤ 7 * n) (encode_core r.0) room (omega (arith, core_long r.0, held.0)))
    (λ out short. let few : n ≤ max_allowance = (leb_is n max_allowance).0 (and_right (leb 1 n) (leb n max_allowance) h) in
    (omega (arith, short, few), omega (arith, held.1, few))))))))
    (λ _ h. h)

-- ## Read core

-- a core that was read has at most 65,535 records
abbrev pub Counted : ℕ × ℕ → Type 0
Counted r = r.0 ≤ max_core

pub read_narrow : (bs : List ℕ) (room : ℕ) → Bytes bs → Narrow Counted (map_answer (λ p. (size p.0, p.1)) (read_core bs room))
read_narrow bs room b =
    narrow_map Few-records Counted (λ p. (size p.0, p.1)) (read_core bs room)
    (placed_below Few-records (max_core + 1) (omega arith) (read_core bs room) (read_placed bs room b) (λ r e. (core_only bs r.0 b (read_as bs room r e).is).0.few))
    (λ _ h. h)
  where
    Few-records : Core × ℕ → Type 0
    Few-records r = size r.0 ≤ max_core

-- ## Run packets

pub run_narrow : (bs : List ℕ) (room : ℕ) (slice lengths : List ℕ) → Bytes bs → Narrow Any (run_packets bs room slice lengths)
run_narrow bs room slice lengths b = placed_below Any (max_core + 1) (omega arith) (run_packets bs room slice lengths) (run_placed bs room slice lengths b) (λ _ _. tt)
