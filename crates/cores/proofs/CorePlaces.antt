-- The places and the numbers by which core bytes are refused.
use mathlib.Core.Path.{◌≡◌, refl, subst}
use mathlib.Core.Logic.{inl, inr}
use mathlib.Core.Bool.{Bool, true, false, cond}
use mathlib.Core.List.{List, [], ◌∷◌}
use Prim.Native.Nat.{ℕ, zero, suc, ◌+◌, ◌*◌, ◌≤◌, ◌<◌}
use native.Mathlib.Omega.{arith}
use lib.Dec.{leb}
use Rattle.literals.specs.Bits.{Bytes}
use Rattle.literals.specs.Reading.{Read, got, fault}
use Rattle.expr.specs.Answers.{Answer, ok, refuse, and_then, map_answer, need}
use Rattle.expr.specs.Terms.{Core, size}
use Rattle.expr.specs.Records.{Record, read_record}
use Rattle.expr.specs.Form.{written}
use Rattle.expr.specs.Operations.{num_fields}
use Rattle.expr.proofs.Places.{Placed, placed_map, placed_then, placed_need, fields_placed}
use Rattle.expr.proofs.Refusals.{record_numbers}
use Rattle.expr.proofs.TermForm.{IfOk}
use Rattle.cores.specs.Reading.{max_core, term_kind, read_core_record, core_node, Cores, due_behind, put_over, core_at, read_cores, whole_core, decode_core, into_list, read_core}
use Rattle.cores.specs.Claims.{CoreFormNumber}
use Rattle.cores.proofs.CoreForm.{Only, cores_back, decode_only}
use Rattle.cores.proofs.JudgeSteps.{records_written}

-- ## Places

placed_cores : (n left due at : ℕ) (bs : List ℕ) → at + left < n → Placed n (read_cores left due at bs)
placed_cores n zero zero at bs h = tt
placed_cores n zero (suc due) at bs h = omega arith
placed_cores n (suc left) zero at bs h = tt
placed_cores n (suc left) (suc due) at bs h = go (λ d p cs. placed_cores n left d p cs) (read_core_record bs)
  where
    go : ((d p : ℕ) (cs : List ℕ) → p + left < n → Placed n (read_cores left d p cs)) → (x : Read Record) → Placed n (core_at (read_cores left) due at x)
    go each (got d cs) =
        placed_map n (λ r. (put_over (core_node d) due r.0, r.1)) (read_cores left (due_behind (core_node d) due) (at + 1) cs)
        (each (due_behind (core_node d) due) (at + 1) cs (omega arith))
    go each (fault r) = omega arith

pub decode_placed : (bs : List ℕ) → Bytes bs → Placed (max_core + 1) (decode_core bs)
decode_placed bs b = go (read_cores max_core 1 0 bs) (placed_cores (max_core + 1) max_core 1 0 bs (omega arith)) (cores_back max_core 1 0 bs b)
  where
    whole : (c : Core) (rest : List ℕ) → size c ≤ max_core → Placed (max_core + 1) (whole_core c rest)
    whole c [] h = tt
    whole c (x ∷ xs) h = omega arith

    go : (x : Answer (Cores 1 × List ℕ)) → Placed (max_core + 1) x → IfOk (Only max_core 1 bs) x
        → Placed (max_core + 1) (and_then x (λ r. whole_core r.0.0 r.1))
    go (ok r) p o = whole r.0.0 r.1 (omega (arith, o.few))
    go (refuse r q) p o = p

pub read_placed : (bs : List ℕ) (room : ℕ) → Bytes bs → Placed (max_core + 1) (read_core bs room)
read_placed bs room b = go (decode_core bs) refl (decode_placed bs b)
  where
    go : (x : Answer Core) → decode_core bs ≡ x → Placed (max_core + 1) x → Placed (max_core + 1) (and_then x λ c. into_list c room)
    go (refuse r p) e h = h
    go (ok c) e h =
        placed_then (max_core + 1) (num_fields (written c) 0) _
        (fields_placed (max_core + 1) (written c) 0 (omega (arith, records_written c, (decode_only bs c b e).0.few))) (λ n.
        placed_then (max_core + 1) (need (leb (3 * size c) room) 10 0) _ (placed_need (max_core + 1) (leb (3 * size c) room) 10 0 (omega arith)) (λ _. tt))

-- ## Numbers

abbrev Named : {A : Type 0} → Answer A → Type 0
Named (ok a) = Unit {0}
Named (refuse r at) = CoreFormNumber r

core_record_named : (bs : List ℕ) {r : ℕ} → read_core_record bs ≡ fault r → CoreFormNumber r
core_record_named bs {r} e = go (term_kind bs) refl e
  where
    go : (t : Bool) → term_kind bs ≡ t → cond t (fault 41) (read_record bs) ≡ fault r → CoreFormNumber r
    go true k f = let z : r ≡ 41 = cc in inr (inr (inl z))
    go false k f = inl (record_numbers bs f)

named_map : {A B : Type 0} (f : A → B) (x : Answer A) → Named x → Named (map_answer f x)
named_map f (ok a) h = tt
named_map f (refuse r at) h = h

named_cores : (left due at : ℕ) (bs : List ℕ) → Named (read_cores left due at bs)
named_cores zero zero at bs = tt
named_cores zero (suc due) at bs = inr (inr (inr refl))
named_cores (suc left) zero at bs = tt
named_cores (suc left) (suc due) at bs = go (λ d p cs. named_cores left d p cs) (read_core_record bs) refl
  where
    go : ((d p : ℕ) (cs : List ℕ) → Named (read_cores left d p cs)) → (x : Read Record) → read_core_record bs ≡ x → Named (core_at (read_cores left) due at x)
    go each (got d cs) e =
        named_map (λ r. (put_over (core_node d) due r.0, r.1)) (read_cores left (due_behind (core_node d) due) (at + 1) cs)
        (each (due_behind (core_node d) due) (at + 1) cs)
    go each (fault r) e = core_record_named bs e

pub core_numbers : (bs : List ℕ) {r at : ℕ} → decode_core bs ≡ refuse r at → CoreFormNumber r
core_numbers bs e = subst (λ (x : Answer Core). Named x) e (go (read_cores max_core 1 0 bs) (named_cores max_core 1 0 bs))
  where
    whole : (c : Core) (rest : List ℕ) → Named (whole_core c rest)
    whole c [] = tt
    whole c (x ∷ xs) = inr (inl refl)

    go : (x : Answer (Cores 1 × List ℕ)) → Named x → Named (and_then x (λ r. whole_core r.0.0 r.1))
    go (ok r) h = whole r.0.0 r.1
    go (refuse r at) h = h

-- none of them is 0
pub number_some : {r : ℕ} → CoreFormNumber r → 1 ≤ r
number_some (inl h) = h.0
number_some (inr (inl h)) = omega (arith, h)
number_some (inr (inr (inl h))) = omega (arith, h)
number_some (inr (inr (inr h))) = omega (arith, h)
