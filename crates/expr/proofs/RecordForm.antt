-- Reading one record accepts exactly the writings of legal records.
use mathlib.Core.Path.{◌≡◌, refl, sym, ap, ◌∙◌}
use mathlib.Core.Bool.{Bool, true, false, not, ◌||◌, cond}
use mathlib.Core.List.{List, [], ◌∷◌, ◌++◌, append_assoc}
use Prim.Native.Nat.{ℕ, ◌^◌, ◌≤◌, ◌<◌}
use native.Mathlib.Omega.{arith}
use lib.Dec.{leb, eqb}
use lib.ListN.{length, get_or}
use Rattle.literals.specs.Bits.{Bits, value_of, bit_at, bits_of, Bytes, bytes_of}
use Rattle.literals.specs.Reading.{Read, got, Reads, go_on, ◌>>=◌, give, ask, nonzero, literal, max_literal, write_literal}
use Rattle.literals.proofs.Logic.{leb_is, eqb_is, or_right}
use Rattle.literals.proofs.Bits.{bit_at_value, bit_at_bits, value_of_bits}
use Rattle.literals.proofs.Codec.{IfGot, got_map, got_bind, got_ask, Wrote, Codec, codec_only, tested, nonzero_codec, literal_codec}
use Rattle.expr.specs.Records.{Record, none_lacks, is_match, fits_pattern, read_record, stands, map_of, write_number, write_record}
use Rattle.expr.specs.Form.{RecordFits}

-- a field that is read where its bit stands, and is absent where it does not
abbrev when_bit : {A : Type 0} → Bool → A → Reads A → Reads A
when_bit b absent m = cond b m (give absent)

-- ## Fields that stand where their bit does

-- a field that is read where it is not empty
record Field {A : Type 0} (absent : A) (read : Reads A) (empty : A → Bool) (Good : A → Type 0) (write : A → List ℕ) : Type 0 where
  forward : (a : A) (rest : List ℕ) → Good a → when_bit (not (empty a)) absent read (write a ++ rest) ≡ got a rest
  back : (b : Bool) (bs : List ℕ) → Bytes bs → IfGot (Wrote (λ a. (b ≡ not (empty a)) × Good a) write bs) (when_bit b absent read bs)

module _ {A : Type 0} {absent : A} {read : Reads A} {empty : A → Bool} {Good : A → Type 0} where
  -- a codec of what is not empty makes a field, where what is empty is not written
  optional : {write write' : A → List ℕ} → Codec read (λ a. (empty a ≡ false) × Good a) write
      → ((a : A) → empty a ≡ false → write' a ≡ write a) → empty absent ≡ true → ((a : A) → empty a ≡ true → a ≡ absent) → write' absent ≡ [] → Good absent
      → Field absent read empty Good write'
  optional {write} {write'} c same none only nothing good = record { forward = λ a rest g. there a rest g (empty a) refl; back = back }
    where
      there : (a : A) (rest : List ℕ) → Good a → (b : Bool) → empty a ≡ b → when_bit (not b) absent read (write' a ++ rest) ≡ got a rest
      there a rest g false e = ap (λ (w : List ℕ). read (w ++ rest)) (same a e) ∙ c.forward a rest (e, g)
      there a rest g true e = rw (only a e, nothing) refl

      back : (b : Bool) (bs : List ℕ) → Bytes bs → IfGot (Wrote (λ a. (b ≡ not (empty a)) × Good a) write' bs) (when_bit b absent read bs)
      back false bs h =
          record {
            good = (ap not (sym none), good);
            bytes = ap (λ (w : List ℕ). w ++ bs) (sym nothing);
            left = h;
          }
      back true bs h =
          got_map (Wrote (λ a. (empty a ≡ false) × Good a) write bs) (Wrote (λ a. (true ≡ not (empty a)) × Good a) write' bs) (read bs)
          (λ a rest w.
          record {
            good = (ap not (sym w.good.0), w.good.1);
            bytes = w.bytes ∙ ap (λ (v : List ℕ). v ++ rest) (sym (same a w.good.0));
            left = w.left;
          })
          (c.back bs h)

  -- reading on behind a field, and what is known there
  field_reads : {B : Type 0} {write : A → List ℕ} → Field absent read empty Good write → (b : Bool) (a : A) (rest : List ℕ) (f : A → Reads B) {z : Read B}
      → b ≡ not (empty a) → Good a → f a rest ≡ z → go_on (when_bit b absent read (write a ++ rest)) f ≡ z
  field_reads {write = write} F b a rest f e g k = rw (e, F.forward a rest g) k

  field_back : {B : Type 0} {write : A → List ℕ} → Field absent read empty Good write → (Q : B → List ℕ → Type 0) (b : Bool) (bs : List ℕ) (f : A → Reads B) → Bytes bs
      → ((a : A) (rest : List ℕ) → Wrote (λ a. (b ≡ not (empty a)) × Good a) write bs a rest → IfGot Q (f a rest)) → IfGot Q (go_on (when_bit b absent read bs) f)
  field_back {write = write} F Q b bs f h k =
      got_bind (Wrote (λ a. (b ≡ not (empty a)) × Good a) write bs) Q (when_bit b absent read bs) f (F.back b bs h) k

ask_reads : {B : Type 0} (b : Bool) (r : ℕ) (bs : List ℕ) (f : Reads B) {z : Read B} → b ≡ true → f bs ≡ z → go_on (ask b r bs) (λ _. f) ≡ z
ask_reads b r bs f e k = rw e k

-- ## The fields of a record

abbrev is_zero : ℕ → Bool
is_zero v = eqb v 0

abbrev is_empty : Bits → Bool
is_empty a = eqb (length a) 0

write_number_is : (n v : ℕ) → eqb v 0 ≡ false → write_number n v ≡ bytes_of n v
write_number_is n v e = rw e refl

number_field : (n : ℕ) → 0 < 256 ^ n → Field 0 (nonzero n) is_zero (λ v. v < 256 ^ n) (write_number n)
number_field n h = optional (nonzero_codec n) (write_number_is n) refl (λ v e. (eqb_is v 0).0 e) refl h

tested_field : (t : ℕ → Bool) (r : ℕ) → t 0 ≡ true
    → Field 0 (nonzero 1 >>= λ v. ask (t v) r >>= λ _. give v) is_zero (λ v. (v < 256 ^ 1) × (t v ≡ true)) (write_number 1)
tested_field t r h = optional (tested t r (nonzero_codec 1)) (write_number_is 1) refl (λ v e. (eqb_is v 0).0 e) refl (omega arith, h)

pub empty_is : (a : Bits) → is_empty a ≡ true → a ≡ []
empty_is [] e = refl
empty_is (b ∷ a) e = absurd (omega (arith, (eqb_is (length (b ∷ a)) 0).0 e))

literal_field : Field [] literal is_empty (λ a. length a ≤ max_literal) write_literal
literal_field = optional literal_codec (λ a e. refl) refl empty_is refl (omega arith)

-- ## The record

abbrev pub field_bits : List ℕ
field_bits = 1 ∷ 2 ∷ 3 ∷ 4 ∷ 5 ∷ 6 ∷ 7 ∷ []

-- the rules of one record
pub record Legal (h : Record) : Type 0 where
  pub kind : h.kind ≤ 26
  pub has : none_lacks h.kind (map_of h) field_bits ≡ true
  pub pattern : h.pattern ≤ 3
  pub fitting : fits_pattern h.kind h.pattern (map_of h) ≡ true
  pub number : (is_match h.kind || leb h.number 1) ≡ true
  pub fits : RecordFits h

-- which fields stand, in map order
abbrev pub standing : Record → Bits
standing h =
    stands h.kind ∷ stands h.name ∷ stands h.start ∷ stands h.end ∷ stands h.pattern ∷ stands h.number
    ∷ stands (length h.lit_a) ∷ stands (length h.lit_b) ∷ []

pub map_bit : (i : ℕ) (h : Record) → bit_at i (map_of h) ≡ get_or (standing h) i false
map_bit i h = bit_at_value i (standing h)

-- a record's bytes, its fields one behind the other
fields_in_order : (h : Record) (rest : List ℕ)
    → write_record h ++ rest
    ≡ map_of h ∷ (write_number 1 h.kind ++ (write_number 2 h.name ++ (write_number 4 h.start ++ (write_number 4 h.end
    ++ (write_number 1 h.pattern ++ (write_number 1 h.number ++ (write_literal h.lit_a ++ (write_literal h.lit_b ++ rest))))))))
fields_in_order h rest = simp append_assoc

record_forward : (h : Record) (rest : List ℕ) → Legal h → read_record (write_record h ++ rest) ≡ got h rest
record_forward h rest l =
    ap read_record (fields_in_order h rest)
    ∙ field_reads (tested_field (λ k. leb k 26) 2 refl) _ h.kind _ _ (map_bit 0 h) (omega (arith, l.kind), (leb_is h.kind 26).1 l.kind)
    (ask_reads _ 3 _ _ l.has
    (field_reads (number_field 2 (omega arith)) _ h.name _ _ (map_bit 1 h) l.fits.name
    (field_reads (number_field 4 (omega arith)) _ h.start _ _ (map_bit 2 h) l.fits.start
    (field_reads (number_field 4 (omega arith)) _ h.end _ _ (map_bit 3 h) l.fits.end
    (field_reads (tested_field (λ p. leb p 3) 5 refl) _ h.pattern _ _ (map_bit 4 h) (omega (arith, l.pattern), (leb_is h.pattern 3).1 l.pattern)
    (ask_reads _ 3 _ _ l.fitting
    (field_reads (tested_field (λ v. is_match h.kind || leb v 1) 5 (or_right (is_match h.kind) true refl)) _ h.number _ _ (map_bit 5 h) (l.fits.number, l.number)
    (field_reads literal_field _ h.lit_a _ _ (map_bit 6 h) l.fits.lit_a
    (field_reads literal_field _ h.lit_b _ _ (map_bit 7 h) l.fits.lit_b refl)))))))))

-- a byte is what its eight bits spell
byte_bits : (m : ℕ) → m < 256 → value_of (bit_at 0 m ∷ bit_at 1 m ∷ bit_at 2 m ∷ bit_at 3 m ∷ bit_at 4 m ∷ bit_at 5 m ∷ bit_at 6 m ∷ bit_at 7 m ∷ []) ≡ m
byte_bits m small =
    let at : (i : ℕ) → i < 8 → bit_at i m ≡ get_or (bits_of 8 m) i false = λ i l. sym (bit_at_bits 8 m i l) in
    (λ i.
    value_of
    (at 0 (omega arith) i ∷ at 1 (omega arith) i ∷ at 2 (omega arith) i ∷ at 3 (omega arith) i ∷ at 4 (omega arith) i ∷ at 5 (omega arith) i
    ∷ at 6 (omega arith) i ∷ at 7 (omega arith) i ∷ []))
    ∙ value_of_bits 8 m small

record_back : (bs : List ℕ) → Bytes bs → IfGot (Wrote Legal write_record bs) (read_record bs)
record_back [] b = tt
record_back (m ∷ bs) b =
    field_back (tested_field (λ k. leb k 26) 2 refl) _ (bit_at 0 m) bs _ b.1 (λ kind r0 w0.
    got_ask _ (none_lacks kind m field_bits) 3 _ r0 (λ has.
    field_back (number_field 2 (omega arith)) _ (bit_at 1 m) r0 _ w0.left (λ name r1 w1.
    field_back (number_field 4 (omega arith)) _ (bit_at 2 m) r1 _ w1.left (λ start r2 w2.
    field_back (number_field 4 (omega arith)) _ (bit_at 3 m) r2 _ w2.left (λ end r3 w3.
    field_back (tested_field (λ p. leb p 3) 5 refl) _ (bit_at 4 m) r3 _ w3.left (λ pattern r4 w4.
    got_ask _ (fits_pattern kind pattern m) 3 _ r4 (λ fitting.
    field_back (tested_field (λ v. is_match kind || leb v 1) 5 (or_right (is_match kind) true refl)) _ (bit_at 5 m) r4 _ w4.left (λ number r5 w5.
    field_back literal_field _ (bit_at 6 m) r5 _ w5.left (λ a r6 w6.
    field_back literal_field _ (bit_at 7 m) r6 _ w6.left (λ c r7 w7.
    let h : Record = record { kind = kind; name = name; start = start; end = end; pattern = pattern; number = number; lit_a = a; lit_b = c } in
    let map : map_of h ≡ m =
    sym (sym (byte_bits m b.0) ∙ λ i.
    value_of
    (w0.good.0 i ∷ w1.good.0 i ∷ w2.good.0 i ∷ w3.good.0 i ∷ w4.good.0 i ∷ w5.good.0 i ∷ w6.good.0 i ∷ w7.good.0 i ∷ [])) in
    record {
      good =
          record {
            kind = (leb_is kind 26).0 w0.good.1.1;
            has = ap (λ n. none_lacks kind n field_bits) map ∙ has;
            pattern = (leb_is pattern 3).0 w4.good.1.1;
            fitting = ap (fits_pattern kind pattern) map ∙ fitting;
            number = w5.good.1.1;
            fits = record { name = w1.good.1; start = w2.good.1; end = w3.good.1; number = w5.good.1.0; lit_a = w6.good.1; lit_b = w7.good.1 };
          };
      bytes = cc (map, w0.bytes, w1.bytes, w2.bytes, w3.bytes, w4.bytes, w5.bytes, w6.bytes, w7.bytes, fields_in_order h r7);
      left = w7.left;
    }))))))))))

pub record_codec : Codec read_record Legal write_record
record_codec = record { forward = record_forward; back = record_back }

pub record_only : (bs : List ℕ) (h : Record) (rest : List ℕ) → Bytes bs → read_record bs ≡ got h rest → Wrote Legal write_record bs h rest
record_only bs h rest b e = codec_only record_codec bs h rest b e
