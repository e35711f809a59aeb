-- The bytes of a core's records: how many, and that together they are the core's.
use mathlib.Core.Path.{◌≡◌, refl, sym, ap, subst, ◌∙◌}
use mathlib.Core.Bool.{Bool, true, false, not, cond}
use mathlib.Core.List.{List, [], ◌∷◌, ◌++◌, append_assoc, append-nil}
use Prim.Native.Nat.{ℕ, zero, suc, ◌+◌, ◌-◌, ◌*◌, ◌/◌, ◌%◌, ◌≤◌, ◌<◌}
use native.Mathlib.Nat.{add-zero, add-suc, zero-add}
use native.Mathlib.Decide.{dec_lt}
use native.Mathlib.Omega.{arith}
use native.Mathlib.Numerals.{add-one, add-two, add-three}
use lib.ListN.{length, get_or, drop, set, length-append}
use lib.Seq.{sets, sets-eq, length-sets}
use borrow.Author.Tests.{eq-eqb, ne_eqb}
use Rattle.literals.specs.Bits.{bit, bytes_of, value_of}
use Rattle.literals.proofs.Bits.{bit_small}
use Rattle.literals.proofs.Bytes.{length_bytes_of}
use Rattle.expr.specs.Terms.{Atom, Zero, One, Top, Dup, End, Assign, Test, Core, leaf, one, two, op1_kind, op2_kind, atom_kind, size}
use Rattle.expr.specs.Records.{map_of, stands, write_number, write_record}
use Rattle.expr.specs.Form.{atom_record, encode_core}
use Rattle.desugar.specs.Memory.{Holds, Lies, words, atom_field, atom_value}
use Rattle.desugar.specs.CoreBytes.{core_record, CoreShape, record_bytes, records_bytes, Put}
use Rattle.desugar.proofs.Regions.{same_at, size_pos, head, tail, left, right, moved, sets_append, length_words, slice_lies}

byte_length : (b : Bool) (v : ℕ) → length (cond b (bytes_of 1 v) []) ≡ bit b
byte_length true v = refl
byte_length false v = refl

field_length : (b : Bool) (v : ℕ) → length (cond b (bytes_of 4 v) []) ≡ 4 * bit b
field_length true v = refl
field_length false v = refl

-- the fields that a core's record lacks are empty
lacking : (a b c : List ℕ) → a ++ [] ++ b ++ [] ++ [] ++ c ++ [] ++ [] ≡ a ++ b ++ c
lacking a b c =
    append-nil (a ++ [] ++ b ++ [] ++ [] ++ c ++ []) ∙ append-nil (a ++ [] ++ b ++ [] ++ [] ++ c)
    ∙ ap (λ (l : List ℕ). l ++ c) (append-nil (a ++ [] ++ b ++ []) ∙ append-nil (a ++ [] ++ b) ∙ ap (λ (l : List ℕ). l ++ b) (append-nil a))

module _ (k f v : ℕ) where
  -- a record's bytes: its map, and the numbers that stand
  pub record_is : write_record (core_record k f v) ≡ (map_of (core_record k f v) ∷ []) ++ write_number 1 k ++ write_number 4 f ++ write_number 1 v
  record_is = ap (λ (l : List ℕ). map_of (core_record k f v) ∷ l) (lacking (write_number 1 k) (write_number 4 f) (write_number 1 v))

  pub parts_length : length (write_record (core_record k f v)) ≡ 1 + length (write_number 1 k) + length (write_number 4 f) + length (write_number 1 v)
  parts_length =
      omega
      (arith, ap length record_is, length-append (write_number 1 k ++ write_number 4 f) (write_number 1 v), length-append (write_number 1 k) (write_number 4 f))

  pub record_length : length (write_record (core_record k f v)) ≡ 1 + bit (stands k) + 4 * bit (stands f) + bit (stands v)
  record_length = omega (arith, parts_length, byte_length (stands k) k, field_length (stands f) f, byte_length (stands v) v)

  pub record_short : length (write_record (core_record k f v)) ≤ 7
  record_short = omega (arith, record_length, bit_small (stands k), bit_small (stands f), bit_small (stands v))

pub records_short : (xs : List ℕ) (at n : ℕ) → length (records_bytes xs at n) ≤ 7 * n
records_short xs at zero = omega arith
records_short xs at (suc n) =
    omega (
      arith,
      length-append (records_bytes xs at n) (record_bytes xs (at + 3 * n)),
      records_short xs at n,
      record_short (get_or xs (at + 3 * n) 0) (get_or xs (at + 3 * n + 1) 0) (get_or xs (at + 3 * n + 2) 0),
    )

-- some records, and then more
pub records_more : (xs : List ℕ) (at a b : ℕ) → records_bytes xs at (a + b) ≡ records_bytes xs at a ++ records_bytes xs (at + 3 * a) b
records_more xs at a zero = ap (records_bytes xs at) (add-zero a) ∙ sym (append-nil (records_bytes xs at a))
records_more xs at a (suc b) =
    ap (records_bytes xs at) (add-suc a b)
    ∙ (λ i. records_more xs at a b i ++ record_bytes xs (index i))
    ∙ append_assoc (records_bytes xs at a) (records_bytes xs (at + 3 * a) b) (record_bytes xs (at + 3 * a + 3 * b))
  where
    index : at + 3 * (a + b) ≡ at + 3 * a + 3 * b
    index = omega arith

-- the first records have no more bytes than all
pub records_below : (xs : List ℕ) (at a b : ℕ) → length (records_bytes xs at a) ≤ length (records_bytes xs at (a + b))
records_below xs at a b = omega (arith, ap length (records_more xs at a b), length-append (records_bytes xs at a) (records_bytes xs (at + 3 * a) b))

-- one record, by its three numbers
one_record : (xs : List ℕ) (at k f v : ℕ) → Holds xs at (k ∷ f ∷ v ∷ []) → records_bytes xs at 1 ≡ write_record (core_record k f v)
one_record xs at k f v h =
    ap (record_bytes xs) (add-zero at)
    ∙ (λ i. write_record (core_record (head h i) (head (tail h) i) (third i)))
  where
    third : get_or xs (at + 2) 0 ≡ v
    third = h.each 2 (omega arith)

atom_record_fact : (a : Atom) → write_record (core_record (atom_kind a) (atom_field a) (atom_value a)) ≡ write_record (atom_record a)
atom_record_fact Zero = refl
atom_record_fact One = refl
atom_record_fact Top = refl
atom_record_fact Dup = refl
atom_record_fact End = refl
atom_record_fact (Assign f v) = refl
atom_record_fact (Test f v) = refl

-- the records of a core are its bytes
pub core_bytes : (c : Core) (xs : List ℕ) (at : ℕ) → Holds xs at (words c) → records_bytes xs at (size c) ≡ encode_core c
core_bytes (leaf a) xs at h = one_record xs at (atom_kind a) (atom_field a) (atom_value a) h ∙ atom_record_fact a
core_bytes (one o c) xs at h =
    records_more xs at 1 (size c)
    ∙ (λ i. one_record xs at (op1_kind o) 0 0 (left (op1_kind o ∷ 0 ∷ 0 ∷ []) (words c) h) i ++ core_bytes c xs (at + 3) (right (op1_kind o ∷ 0 ∷ 0 ∷ []) (words c) h) i)
core_bytes (two o a b) xs at h =
    let own : List ℕ = op2_kind o ∷ 0 ∷ 0 ∷ [] in
    let behind = right own (words a ++ words b) h in
    let second = moved (right (words a) (words b) behind) (ap (λ n. at + 3 + n) (length_words a)) refl in
    records_more xs at (1 + size a) (size b)
    ∙ (λ i. records_more xs at 1 (size a) i ++ records_bytes xs (index i) (size b))
    ∙ (λ i. (one_record xs at (op2_kind o) 0 0 (left own (words a ++ words b) h) i ++ core_bytes a xs (at + 3) (left (words a) (words b) behind) i) ++ core_bytes b xs (at + 3 + 3 * size a) second i)
  where
    index : at + 3 * (1 + size a) ≡ at + 3 + 3 * size a
    index = omega arith

pub slice_bytes : {xs : List ℕ} (c : Core) → xs ≡ words c → records_bytes xs 0 (length xs / 3) ≡ encode_core c
slice_bytes {xs} c e =
    let l : Lies xs 0 (length xs / 3) c = slice_lies e in
    ap (records_bytes xs 0) l.count ∙ core_bytes c xs 0 l.holds

-- ## The shape of a core's records

abbrev ShapeAt : List ℕ → ℕ → Type 0
ShapeAt xs i = CoreShape (get_or xs i 0) (get_or xs (i + 1) 0) (get_or xs (i + 2) 0)

shape_moved : (xs : List ℕ) {i j : ℕ} → i ≡ j → ShapeAt xs i → ShapeAt xs j
shape_moved xs e h = subst (ShapeAt xs) e h

-- the shape of the three numbers that stand there
shape_held : {xs : List ℕ} {at k f v : ℕ} {ys : List ℕ} → Holds xs at (k ∷ f ∷ v ∷ ys) → CoreShape k f v → ShapeAt xs at
shape_held {xs} {at} {k} {f} {v} h s =
    let third : get_or xs (at + 2) 0 ≡ v = same_at xs (omega arith) ∙ head (tail (tail h)) in
    let field : get_or xs (at + 1) 0 ≡ f = head (tail h) in
    record {
      bare = λ g. let z = s.bare (omega (arith, g, head h)) in (field ∙ z.0, third ∙ z.1);
      named = λ g. omega (arith, s.named (omega (arith, g, field)), head h);
    }

atom_shape : (a : Atom) → CoreShape (atom_kind a) (atom_field a) (atom_value a)
atom_shape Zero = record { bare = λ g. absurd (omega arith); named = λ g. absurd (omega arith) }
atom_shape One = record { bare = λ g. absurd (omega arith); named = λ g. absurd (omega arith) }
atom_shape Top = record { bare = λ g. absurd (omega arith); named = λ g. absurd (omega arith) }
atom_shape Dup = record { bare = λ g. absurd (omega arith); named = λ g. absurd (omega arith) }
atom_shape End = record { bare = λ g. absurd (omega arith); named = λ g. absurd (omega arith) }
atom_shape (Assign f v) = record { bare = λ g. absurd (omega arith); named = λ g. omega arith }
atom_shape (Test f v) = record { bare = λ g. absurd (omega arith); named = λ g. omega arith }

operator_shape : (k : ℕ) → CoreShape k 0 0
operator_shape k = record { bare = λ g. (refl, refl); named = λ g. absurd (omega arith) }

-- the records of two cores, one behind the other
both_shaped : (xs : List ℕ) (at n m : ℕ) → ((j : ℕ) → j < n → ShapeAt xs (at + 3 * j)) → ((j : ℕ) → j < m → ShapeAt xs (at + 3 * n + 3 * j))
    → (j : ℕ) → j < n + m → ShapeAt xs (at + 3 * j)
both_shaped xs at n m first second j l = pick (dec_lt j n)
  where
    pick : Dec (j < n) → ShapeAt xs (at + 3 * j)
    pick (yes d) = first j d
    pick (no d) = shape_moved xs (omega (arith, d)) (second (j - n) (omega (arith, d, l)))

-- each record of a core
core_shape : (c : Core) (xs : List ℕ) (at : ℕ) → Holds xs at (words c) → (j : ℕ) → j < size c → ShapeAt xs (at + 3 * j)
core_shape (leaf a) xs at h zero l = shape_moved xs (omega arith) (shape_held h (atom_shape a))
core_shape (leaf a) xs at h (suc j) l = absurd (omega arith)
core_shape (one o c) xs at h zero l = shape_moved xs (omega arith) (shape_held h (operator_shape (op1_kind o)))
core_shape (one o c) xs at h (suc j) l =
    shape_moved xs (omega arith) (core_shape c xs (at + 3) (right (op1_kind o ∷ 0 ∷ 0 ∷ []) (words c) h) j (omega arith))
core_shape (two o a b) xs at h zero l = shape_moved xs (omega arith) (shape_held h (operator_shape (op2_kind o)))
core_shape (two o a b) xs at h (suc j) l =
    let behind = right (op2_kind o ∷ 0 ∷ 0 ∷ []) (words a ++ words b) h in
    let second = moved (right (words a) (words b) behind) (ap (λ n. at + 3 + n) (length_words a)) refl in
    shape_moved xs {i = at + 3 + 3 * j} (omega arith)
    (both_shaped xs (at + 3) (size a) (size b) (core_shape a xs (at + 3) (left (words a) (words b) behind)) (core_shape b xs (at + 3 + 3 * size a) second) j (omega arith))

pub slice_shape : {xs : List ℕ} (c : Core) → xs ≡ words c → (j : ℕ) → j < length xs / 3 → ShapeAt xs (3 * j)
slice_shape {xs} c e j h =
    let l : Lies xs 0 (length xs / 3) c = slice_lies e in
    shape_moved xs (zero-add (3 * j)) (core_shape c xs 0 l.holds j (omega (arith, l.count)))

-- a run of stores at the front
pub sets_front : (vs l : List ℕ) → length vs ≤ length l → sets l 0 vs ≡ vs ++ drop (length vs) l
sets_front vs l h = sets-eq vs l 0 (omega arith) ∙ ap (λ n. vs ++ drop n l) (zero-add (length vs))

-- ## Steps of the functions

pub number_none : (n v : ℕ) → v ≡ 0 → write_number n v ≡ []
number_none n v e = ap (λ b. cond (not b) (bytes_of n v) []) (eq-eqb v 0 e)

pub number_some : (n v : ℕ) → (v ≡ 0 → ⊥) → write_number n v ≡ bytes_of n v
number_some n v e = ap (λ b. cond (not b) (bytes_of n v) []) (ne_eqb v 0 e)

pub number_length : (n v : ℕ) → (v ≡ 0 → ⊥) → length (write_number n v) ≡ n
number_length n v e = ap length (number_some n v e) ∙ length_bytes_of n v

-- the bytes that are left of a number of n, i of which are written: one less, and none
pub number_step : (n i v : ℕ) (l : List ℕ) (to : ℕ) {ys : List ℕ} → i < n → sets l (to + i) (bytes_of (n - i) v) ≡ ys
    → sets (set l (to + i) (v % 256)) (to + (i + 1)) (bytes_of (n - (i + 1)) (v / 256)) ≡ ys
number_step n i v l to {ys} h e =
    let more : n - i ≡ suc (n - (i + 1)) = omega arith in
    let next : to + (i + 1) ≡ suc (to + i) = omega arith in
    rw next (ap (λ k. sets l (to + i) (bytes_of k v)) (sym more) ∙ e)

pub number_end : (n i v : ℕ) (l : List ℕ) (to : ℕ) {ys : List ℕ} → n ≤ i → sets l (to + i) (bytes_of (n - i) v) ≡ ys → l ≡ ys
number_end n i v l to {ys} h e =
    let none : n - i ≡ 0 = omega arith in
    ap (λ k. sets l (to + i) (bytes_of k v)) (sym none) ∙ e

-- a byte that is written where its number stands, and else written back
-- a record that has a kind
module _ (k f v : ℕ) (h : 0 < k) where
  kind_some : write_number 1 k ≡ (k % 256) ∷ []
  kind_some = number_some 1 k (λ e. omega (arith, e))

  pub kind_is : write_record (core_record k f v) ≡ (map_of (core_record k f v) ∷ (k % 256) ∷ []) ++ write_number 4 f ++ write_number 1 v
  kind_is = record_is k f v ∙ (λ i. (map_of (core_record k f v) ∷ kind_some i) ++ write_number 4 f ++ write_number 1 v)

  -- and no more
  pub kind_only : f ≡ 0 → v ≡ 0 → write_record (core_record k f v) ≡ 1 ∷ (k % 256) ∷ []
  kind_only f-is v-is =
      kind_is
      ∙ (λ i. (value_of (ap not (ne_eqb k 0 (λ e. omega (arith, e))) i ∷ false ∷ stands (f-is i) ∷ false ∷ false ∷ stands (v-is i) ∷ false ∷ false ∷ []) ∷ (k % 256) ∷ []) ++ number_none 4 f f-is i ++ number_none 1 v v-is i)

-- the map of a record with a kind and a field
flagged : (b : Bool) → 5 + 32 * bit b ≡ value_of (true ∷ false ∷ true ∷ false ∷ false ∷ b ∷ false ∷ false ∷ [])
flagged true = refl
flagged false = refl

pub atom_map : (k f v : ℕ) → 0 < k → 0 < f → 5 + 32 * bit (stands v) ≡ map_of (core_record k f v)
atom_map k f v hk hf =
    flagged (stands v)
    ∙ (λ i. value_of (ap not (sym (ne_eqb k 0 (λ e. omega (arith, e)))) i ∷ false ∷ ap not (sym (ne_eqb f 0 (λ e. omega (arith, e)))) i ∷ false ∷ false ∷ stands v ∷ false ∷ false ∷ []))

-- two bytes, one behind the other
pub pair : (l : List ℕ) (i a b : ℕ) → Put (a ∷ b ∷ []) l i (set (set l i a) (i + 1) b) (i + 2)
pair l i a b = record { written = rw (add-one); next = refl }

-- four bytes, one behind the other
pub four : (l : List ℕ) (i a b c d : ℕ) → set (set (set (set l i a) (i + 1) b) (i + 2) c) (i + 3) d ≡ sets l i (a ∷ b ∷ c ∷ d ∷ [])
four l i a b c d = rw (add-one, add-two, add-three)

-- the same bytes
pub put_as : {us vs l l' : List ℕ} {i r : ℕ} → us ≡ vs → Put us l i l' r → Put vs l i l' r
put_as {us} {vs} {l} {l'} {i} {r} e p = subst (λ (bs : List ℕ). Put bs l i l' r) e p

-- the same index behind them
-- bytes behind bytes
pub put_then : {us vs l l' l'' : List ℕ} {i j r : ℕ} → Put us l i l' j → Put vs l' j l'' r → Put (us ++ vs) l i l'' r
put_then {us} {vs} {l} {l'} {l''} {i} {j} {r} p q = record {
  written = q.written ∙ (λ k. sets (p.written k) (p.next k) vs) ∙ sets_append l i us vs;
  next = omega (arith, p.next, q.next, length-append us vs);
}

pub put_length : {us l l' : List ℕ} {i r : ℕ} → Put us l i l' r → length l' ≡ length l
put_length {us} {l} {l'} {i} p = ap length p.written ∙ length-sets l i us

module _ (xs : List ℕ) (n : ℕ) where
  -- one record more
  pub records_next : records_bytes xs 0 (n + 1) ≡ records_bytes xs 0 n ++ record_bytes xs (3 * n)
  records_next = ap (records_bytes xs 0) (add-one n) ∙ ap (λ i. records_bytes xs 0 n ++ record_bytes xs i) (zero-add (3 * n))

  pub length_next : length (records_bytes xs 0 (n + 1)) ≡ length (records_bytes xs 0 n) + length (record_bytes xs (3 * n))
  length_next = ap length records_next ∙ length-append (records_bytes xs 0 n) (record_bytes xs (3 * n))

-- a record has room where all of them have
pub records_within : (xs : List ℕ) (j n : ℕ) → j < n → length (records_bytes xs 0 j) + length (record_bytes xs (3 * j)) ≤ length (records_bytes xs 0 n)
records_within xs j n l =
    let all : j + 1 + (n - (j + 1)) ≡ n = omega arith in
    omega (arith, length_next xs j, records_below xs 0 (j + 1) (n - (j + 1)), ap (λ m. length (records_bytes xs 0 m)) all)

-- a byte follows on a record that is not the last
pub records_before : (xs : List ℕ) (j n : ℕ) → j + 1 < n → length (records_bytes xs 0 j) + length (record_bytes xs (3 * j)) < length (records_bytes xs 0 n)
records_before xs j n l =
    let next = 3 * (j + 1) in
    omega (arith, length_next xs j, records_within xs (j + 1) n l, record_length (get_or xs next 0) (get_or xs (next + 1) 0) (get_or xs (next + 2) 0))

-- a core has a record
pub slice_some : {xs : List ℕ} (c : Core) → xs ≡ words c → 1 ≤ length xs / 3
slice_some {xs} c e =
    let l : Lies xs 0 (length xs / 3) c = slice_lies e in
    omega (arith, l.count, size_pos c)

pub lies_inside : {xs : List ℕ} {at n : ℕ} {c : Core} → Lies xs at n c → at + 3 * n ≤ length xs
lies_inside {xs} {at} {n} {c} l = omega (arith, l.holds.fits, length_words c, l.count)
