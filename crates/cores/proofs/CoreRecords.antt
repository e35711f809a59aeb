-- One record of a core: what the reader of terms finds, and what the first bytes of operators and atoms tell.
use mathlib.Core.Path.{◌≡◌, refl, sym, ap, subst, ◌∙◌}
use mathlib.Core.Logic.{◌⊎◌, inl, inr}
use mathlib.Core.Bool.{Bool, true, false, not, cond, ◌&&◌, ◌||◌, true≢false}
use mathlib.Core.List.{List, [], ◌∷◌, ◌++◌}
use Prim.Native.Nat.{ℕ, suc, ◌+◌, ◌*◌, ◌/◌, ◌%◌, ◌^◌, ◌≤◌, ◌<◌}
use native.Mathlib.Decide.{ℕ_discrete}
use native.Mathlib.Omega.{arith}
use borrow.Author.Tests.{eq-eqb, ne_eqb}
use lib.Dec.{leb, eqb}
use lib.ListN.{length, drop, get_or}
use lib.Seq.{drop-cons}
use Rattle.std.specs.Prelude.{Ok, Err}
use Rattle.std.specs.Int.{w32, from_le_bytes}
use Rattle.refusals.specs.declared.Refusal.{Refusal}
use Rattle.expr.specs.Kinds.{kind_number}
use Rattle.expr.specs.declared.kind.Kind.{Kind}
use Rattle.literals.specs.Bits.{Bytes, bit, number_of, value_of}
use Rattle.literals.specs.Reading.{got, fault}
use Rattle.literals.proofs.Bits.{bit_small}
use Rattle.literals.proofs.Bytes.{bytes_of_number, number_below}
use Rattle.literals.proofs.Logic.{and_left, and_right, or_right, or_cases, eqb_is, leb_is}
use Rattle.expr.specs.Terms.{Atom, Zero, One, Top, Dup, End, Assign, Test, Plain}
use Rattle.expr.specs.Records.{Record, is_match, none_lacks, fits_pattern, stands, read_record, map_of, write_number, write_record}
use Rattle.expr.specs.Form.{atom_record, RecordFits}
use Rattle.expr.specs.Results.{RecordFound, record_of}
use Rattle.expr.specs.declared.records.Head.{Head}
use Rattle.expr.proofs.RecordForm.{Legal, field_bits}
use Rattle.expr.proofs.NodeForm.{own_node, Writes}
use Rattle.expr.proofs.Slices.{Sliced, bytes_each}
use Rattle.desugar.specs.CoreBytes.{core_record}
use Rattle.desugar.proofs.RecordBytes.{kind_is, kind_only, atom_map, number_some}
use Rattle.cores.specs.Reading.{term_kind, read_core_record, CoreNode, atom, unary, binary, core_node}
use Rattle.cores.specs.Results.{CoreRecordFound, operator_bytes, atom_bytes}
use Rattle.cores.specs.declared.records.CoreRecord.{CoreRecord}
use Rattle.cores.proofs.CoreForm.{Wrote, core_forward, core_only, written_node, node_wrote}

-- ## By the reader of terms

-- a record by its kind, its start or field, and its number
abbrev by_three : Record → Record
by_three h = core_record h.kind h.start h.number

atom_three : (a : Atom) → atom_record a ≡ by_three (atom_record a)
atom_three Zero = refl
atom_three One = refl
atom_three Top = refl
atom_three Dup = refl
atom_three End = refl
atom_three (Assign f v) = refl
atom_three (Test f v) = refl

-- a core's record has no other fields
pub three_is : {bs : List ℕ} {h : Record} {rest : List ℕ} → Wrote bs h rest → h ≡ by_three h
three_is {h = h} w = go (core_node h) (node_wrote w)
  where
    go : (m : CoreNode) → Writes h (written_node m) → h ≡ by_three h
    go (atom a) v = sym v.0 ∙ atom_three a ∙ ap by_three v.0
    go (unary o) v = let own_is = (v (Plain Zero)).0 in sym own_is ∙ ap by_three own_is
    go (binary o) v = let own_is = (v (Plain Zero) (Plain Zero)).0 in sym own_is ∙ ap by_three own_is

module _ (s : List ℕ) (no : term_kind s ≡ false) where
  as_term : read_record s ≡ read_core_record s
  as_term = ap (λ b. cond b (fault 41) (read_record s)) (sym no)

  pub any_refused : {e : Refusal} → RecordFound s (Err e) → CoreRecordFound s (Err e)
  any_refused f = record { answer = f.answer ∙ as_term; inside = tt }

  pub any_found : {h : Head} → Sliced s → RecordFound s (Ok h)
      → CoreRecordFound s (Ok (record { kind = h.kind; field = h.start; value = h.number; size = h.size }))
  any_found {h} each f =
      let is : got (record_of s h) (drop h.size s) ≡ read_core_record s = f.answer ∙ as_term in
      let w = core_only s (record_of s h) (drop h.size s) (bytes_each s each) (sym is) in
      record {
        answer = ap (λ (r : Record). got r (drop h.size s)) (sym (three_is w)) ∙ is;
        inside = (f.inside.0, f.inside.1);
      }

-- ## By the first bytes

plain_fits : (k : ℕ) → RecordFits (core_record k 0 0)
plain_fits k = record { name = omega arith; start = omega arith; end = omega arith; number = omega arith; lit_a = omega arith; lit_b = omega arith }

-- an operator: its map is 1
operator_legal : (k : ℕ) → 1 ≤ k → k ≤ 15 → Legal (core_record k 0 0)
operator_legal k l h = record {
  kind = omega arith;
  has = ap (λ m. none_lacks k m field_bits) map_is;
  pattern = omega arith;
  fitting = ap (fits_pattern k 0) map_is ∙ or_right (not (is_match k)) true refl;
  number = or_right (is_match k) true refl;
  fits = plain_fits k;
}
  where
    map_is : map_of (core_record k 0 0) ≡ 1
    map_is = λ i. value_of (ap not (ne_eqb k 0 (λ e. omega (arith, e))) i ∷ false ∷ false ∷ false ∷ false ∷ false ∷ false ∷ false ∷ [])

operator_reads : (k : ℕ) (rest : List ℕ) → 1 ≤ k → k ≤ 15 → got (core_record k 0 0) rest ≡ read_core_record (1 ∷ k ∷ rest)
operator_reads k rest l h =
    let low : k % 256 ≡ k = omega arith in
    sym (core_forward (core_record k 0 0) rest (operator_legal k l h) h)
    ∙ ap (λ (bs : List ℕ). read_core_record (bs ++ rest)) (kind_only k 0 0 (omega arith) refl refl)
    ∙ ap (λ n. read_core_record (1 ∷ n ∷ rest)) low

-- an atom on a field: an Assign if x, and else a Test; with the value 1 if y, and else with none
module _ (f : ℕ) (low : f < 2 ^ 32) where
  atom_fits : (k : ℕ) (y : Bool) → RecordFits (core_record k f (bit y))
  atom_fits k y = record { name = omega arith; start = low; end = omega arith; number = omega (arith, bit_small y); lit_a = omega arith; lit_b = omega arith }

  atom_legal : (x y : Bool) → Legal (core_record (cond x 5 6) f (bit y))
  atom_legal true true = (own_node (Plain (Assign f true))).0 (atom_fits 5 true)
  atom_legal true false = (own_node (Plain (Assign f false))).0 (atom_fits 5 false)
  atom_legal false true = (own_node (Plain (Test f true))).0 (atom_fits 6 true)
  atom_legal false false = (own_node (Plain (Test f false))).0 (atom_fits 6 false)

module _ (a b c d : ℕ) (bytes : Bytes (a ∷ b ∷ c ∷ d ∷ [])) (some : 0 < number_of (a ∷ b ∷ c ∷ d ∷ [])) where
  abbrev field : ℕ
  field = number_of (a ∷ b ∷ c ∷ d ∷ [])

  field_bytes : write_number 4 field ≡ a ∷ b ∷ c ∷ d ∷ []
  field_bytes = number_some 4 field (λ e. omega (arith, e)) ∙ bytes_of_number (a ∷ b ∷ c ∷ d ∷ []) bytes

  atom_bytes_fact : (x y : Bool) → write_record (core_record (cond x 5 6) field (bit y)) ≡ (5 + 32 * bit y) ∷ cond x 5 6 ∷ a ∷ b ∷ c ∷ d ∷ cond y (1 ∷ []) []
  atom_bytes_fact true true = kind_is 5 field 1 (omega arith) ∙ λ i. (sym (atom_map 5 field 1 (omega arith) some) i ∷ 5 ∷ []) ++ field_bytes i ++ (1 ∷ [])
  atom_bytes_fact true false = kind_is 5 field 0 (omega arith) ∙ λ i. (sym (atom_map 5 field 0 (omega arith) some) i ∷ 5 ∷ []) ++ field_bytes i ++ []
  atom_bytes_fact false true = kind_is 6 field 1 (omega arith) ∙ λ i. (sym (atom_map 6 field 1 (omega arith) some) i ∷ 6 ∷ []) ++ field_bytes i ++ (1 ∷ [])
  atom_bytes_fact false false = kind_is 6 field 0 (omega arith) ∙ λ i. (sym (atom_map 6 field 0 (omega arith) some) i ∷ 6 ∷ []) ++ field_bytes i ++ []

  small : (x : Bool) → cond x 5 6 ≤ 15
  small true = omega arith
  small false = omega arith

  atom_reads : (x y : Bool) (rest : List ℕ)
      → got (core_record (cond x 5 6) field (bit y)) rest ≡ read_core_record (((5 + 32 * bit y) ∷ cond x 5 6 ∷ a ∷ b ∷ c ∷ d ∷ cond y (1 ∷ []) []) ++ rest)
  atom_reads x y rest =
      sym (core_forward (core_record (cond x 5 6) field (bit y)) rest (atom_legal field (number_below (a ∷ b ∷ c ∷ d ∷ []) bytes) x y) (small x))
      ∙ ap (λ (bs : List ℕ). read_core_record (bs ++ rest)) (atom_bytes_fact x y)

-- ## In the words of the code

abbrev found : (kind : Kind) (field value size : ℕ) → CoreRecord
found k f v n = record { kind = k; field = f; value = v; size = n }

operator_found : (m k : ℕ) (kind : Kind) (rest : List ℕ) → kind_number kind ≡ k → operator_bytes m k ≡ true → CoreRecordFound (m ∷ k ∷ rest) (Ok (found kind 0 0 2))
operator_found m k kind rest is h =
    let one : m ≡ 1 = (eqb_is m 1).0 (and_left (eqb m 1) (leb 7 k && leb k 15) h) in
    let kinds : (leb 7 k && leb k 15) ≡ true = and_right (eqb m 1) (leb 7 k && leb k 15) h in
    let low : 7 ≤ k = (leb_is 7 k).0 (and_left (leb 7 k) (leb k 15) kinds) in
    let high : k ≤ 15 = (leb_is k 15).0 (and_right (leb 7 k) (leb k 15) kinds) in
    record {
      answer = ap (λ j. got (core_record j 0 0) rest) is ∙ operator_reads k rest (omega arith) high ∙ ap (λ n. read_core_record (n ∷ k ∷ rest)) (sym one);
      inside = (omega arith, omega arith);
    }

module _ (m k a b c d v : ℕ) (rest : List ℕ) (bytes : Bytes (a ∷ b ∷ c ∷ d ∷ [])) {f : ℕ} (is : f ≡ from_le_bytes w32 (a ∷ b ∷ c ∷ d ∷ []))
    (kind : Kind) (named : kind_number kind ≡ k) (h : atom_bytes m k f v ≡ true) where
  spelled : number_of (a ∷ b ∷ c ∷ d ∷ []) ≡ f
  spelled = omega (arith, is)

  abbrev maps : Bool
  maps = eqb m 5 || (eqb m 37 && eqb v 1)

  abbrev kinds : Bool
  kinds = eqb k 5 || eqb k 6

  behind : (kinds && stands f) ≡ true
  behind = and_right maps (kinds && stands f) h

  field_stands : 0 < f
  field_stands = go (ℕ_discrete f 0) (and_right kinds (stands f) behind)
    where
      go : Dec (f ≡ 0) → stands f ≡ true → 0 < f
      go (yes e) w = absurd (true≢false (sym w ∙ ap not (eq-eqb f 0 e)))
      go (no e) w = omega (arith, e)

  -- an Assign or a Test
  kind_cases : (x : Bool) × (k ≡ cond x 5 6)
  kind_cases = go (or_cases (eqb k 5) (eqb k 6) (and_left kinds (stands f) behind))
    where
      go : (eqb k 5 ≡ true) ⊎ (eqb k 6 ≡ true) → (x : Bool) × (k ≡ cond x 5 6)
      go (inl e) = (true, (eqb_is k 5).0 e)
      go (inr e) = (false, (eqb_is k 6).0 e)

  -- with a value or without one
  value_cases : (y : Bool) × (m ≡ 5 + 32 * bit y) × (cond y (v ≡ 1) (Unit {0}))
  value_cases = go (or_cases (eqb m 5) (eqb m 37 && eqb v 1) (and_left maps (kinds && stands f) h))
    where
      go : (eqb m 5 ≡ true) ⊎ ((eqb m 37 && eqb v 1) ≡ true) → (y : Bool) × (m ≡ 5 + 32 * bit y) × (cond y (v ≡ 1) (Unit {0}))
      go (inl e) = (false, (eqb_is m 5).0 e, tt)
      go (inr e) = (true, (eqb_is m 37).0 (and_left (eqb m 37) (eqb v 1) e), (eqb_is v 1).0 (and_right (eqb m 37) (eqb v 1) e))

  atom_as : (x y : Bool) → k ≡ cond x 5 6 → m ≡ 5 + 32 * bit y → cond y (v ≡ 1) (Unit {0})
      → CoreRecordFound (m ∷ k ∷ a ∷ b ∷ c ∷ d ∷ v ∷ rest) (Ok (found kind f (m / 32) (6 + m / 32)))
  atom_as x true p q r =
      let one : m / 32 ≡ 1 = omega (arith, q) in
      record {
        answer =
            (λ i. got (core_record ((named ∙ p) i) (sym spelled i) (one i)) (drop (6 + one i) (m ∷ k ∷ a ∷ b ∷ c ∷ d ∷ v ∷ rest)))
            ∙ atom_reads a b c d bytes (omega (arith, spelled, field_stands)) x true rest
            ∙ λ i. read_core_record (sym q i ∷ sym p i ∷ a ∷ b ∷ c ∷ d ∷ sym r i ∷ rest);
        inside = (omega arith, omega (arith, one));
      }
  atom_as x false p q r =
      let none : m / 32 ≡ 0 = omega (arith, q) in
      record {
        answer =
            (λ i. got (core_record ((named ∙ p) i) (sym spelled i) (none i)) (drop (6 + none i) (m ∷ k ∷ a ∷ b ∷ c ∷ d ∷ v ∷ rest)))
            ∙ atom_reads a b c d bytes (omega (arith, spelled, field_stands)) x false (v ∷ rest)
            ∙ λ i. read_core_record (sym q i ∷ sym p i ∷ a ∷ b ∷ c ∷ d ∷ v ∷ rest);
        inside = (omega arith, omega (arith, none));
      }

  atom_found : CoreRecordFound (m ∷ k ∷ a ∷ b ∷ c ∷ d ∷ v ∷ rest) (Ok (found kind f (m / 32) (6 + m / 32)))
  atom_found = atom_as kind_cases.0 value_cases.0 kind_cases.1 value_cases.1 value_cases.2

-- seven bytes and what stands behind them
seven : (s : List ℕ) (at : ℕ) → at + 7 ≤ length s
    → drop at s ≡ get_or s at 0 ∷ get_or s (at + 1) 0 ∷ get_or s (at + 2) 0 ∷ get_or s (at + 3) 0 ∷ get_or s (at + 4) 0 ∷ get_or s (at + 5) 0 ∷ get_or s (at + 6) 0 ∷ drop (at + 7) s
seven s at h =
    one at (at + 1) (omega arith) (omega arith)
    ∙ ap (λ (l : List ℕ). get_or s at 0 ∷ l) (one (at + 1) (at + 2) (omega arith) (omega arith)
    ∙ ap (λ (l : List ℕ). get_or s (at + 1) 0 ∷ l) (one (at + 2) (at + 3) (omega arith) (omega arith)
    ∙ ap (λ (l : List ℕ). get_or s (at + 2) 0 ∷ l) (one (at + 3) (at + 4) (omega arith) (omega arith)
    ∙ ap (λ (l : List ℕ). get_or s (at + 3) 0 ∷ l) (one (at + 4) (at + 5) (omega arith) (omega arith)
    ∙ ap (λ (l : List ℕ). get_or s (at + 4) 0 ∷ l) (one (at + 5) (at + 6) (omega arith) (omega arith)
    ∙ ap (λ (l : List ℕ). get_or s (at + 5) 0 ∷ l) (one (at + 6) (at + 7) (omega arith) (omega arith)))))))
  where
    one : (i j : ℕ) → i < length s → j ≡ suc i → drop i s ≡ get_or s i 0 ∷ drop j s
    one i j l e = rw (e, drop-cons s i 0 l) refl

module _ (s : List ℕ) (at : ℕ) (h : at + 7 ≤ length s) where
  abbrev byte_at : ℕ → ℕ
  byte_at i = get_or s (at + i) 0

  pub operator_at : (kind : Kind) → kind_number kind ≡ byte_at 1 → operator_bytes (get_or s at 0) (byte_at 1) ≡ true → CoreRecordFound (drop at s) (Ok (found kind 0 0 2))
  operator_at kind is e = subst (λ (l : List ℕ). CoreRecordFound l (Ok (found kind 0 0 2))) (sym (seven s at h)) (operator_found (get_or s at 0) (byte_at 1) kind _ is e)

  pub atom_at : (kind : Kind) → kind_number kind ≡ byte_at 1 → Sliced s → {f : ℕ} → f ≡ from_le_bytes w32 (byte_at 2 ∷ byte_at 3 ∷ byte_at 4 ∷ byte_at 5 ∷ [])
      → atom_bytes (get_or s at 0) (byte_at 1) f (byte_at 6) ≡ true
      → CoreRecordFound (drop at s) (Ok (found kind f (get_or s at 0 / 32) (6 + get_or s at 0 / 32)))
  atom_at kind named each {f} is e =
      subst (λ (l : List ℕ). CoreRecordFound l (Ok (found kind f (get_or s at 0 / 32) (6 + get_or s at 0 / 32)))) (sym (seven s at h))
      (atom_found (get_or s at 0) (byte_at 1) (byte_at 2) (byte_at 3) (byte_at 4) (byte_at 5) (byte_at 6) (drop (at + 7) s) bytes is kind named e)
    where
      bytes : Bytes (byte_at 2 ∷ byte_at 3 ∷ byte_at 4 ∷ byte_at 5 ∷ [])
      bytes = ((each (at + 2)).fits, ((each (at + 3)).fits, ((each (at + 4)).fits, ((each (at + 5)).fits, tt))))
