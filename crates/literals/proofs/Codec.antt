-- Reading gives back what was written, and reads nothing else.
use mathlib.Core.Path.{◌≡◌, refl, sym, ap, subst, ◌∙◌}
use mathlib.Core.Logic.{◌⊎◌, inl, inr, ◌↔◌}
use mathlib.Core.Bool.{Bool, true, false, not, false≢true, true≢false}
use mathlib.Core.List.{List, [], ◌∷◌, ◌++◌}
use Prim.Native.Nat.{ℕ, zero, suc, ◌+◌, ◌-◌, ◌*◌, ◌^◌, ◌≤◌, ◌<◌}
use native.Mathlib.Omega.{arith}
use native.Mathlib.Decide.{dec_lt}
use borrow.Author.Tests.{ne_eqb, lt-leb}
use lib.Dec.{leb, eqb}
use lib.ListN.{length, take, drop, replicate, take-append-drop}
use lib.Seq.{take-append_seam, drop-append_seam, length-take-le}
use Rattle.literals.specs.Bits.{Bits, value_of, pad, Bytes, number_of, bytes_of, unpack, pack}
use Rattle.literals.specs.Reading.{Read, got, fault, Reads, go_on, ◌>>=◌, give, ask, chunk, nonzero, max_literal, bytes_for, all_false, literal, write_literal}
use Rattle.literals.proofs.Logic.{leb_is}
use Rattle.literals.proofs.Bits.{value_of_pad}
use Rattle.literals.proofs.Bytes.{bytes_left, bytes_right, length_bytes_of, number_of_bytes, bytes_of_number, number_below, pack_is, unpack_pack, length_unpack, value_of_unpack}

-- ## What was read, if it was

abbrev pub IfGot : {A : Type 0} → (A → List ℕ → Type 0) → Read A → Type 0
IfGot P (got a rest) = P a rest
IfGot P (fault r) = Unit {0}

pub if_got : {A : Type 0} (P : A → List ℕ → Type 0) (x : Read A) {a : A} {rest : List ℕ} → IfGot P x → x ≡ got a rest → P a rest
if_got P x h e = subst (IfGot P) e h

pub got_map : {A : Type 0} (P Q : A → List ℕ → Type 0) (x : Read A) → ((a : A) (rest : List ℕ) → P a rest → Q a rest) → IfGot P x → IfGot Q x
got_map P Q (got a rest) k h = k a rest h
got_map P Q (fault r) k h = tt

pub got_bind : {A B : Type 0} (P : A → List ℕ → Type 0) (Q : B → List ℕ → Type 0) (x : Read A) (f : A → Reads B)
    → IfGot P x → ((a : A) (rest : List ℕ) → P a rest → IfGot Q (f a rest)) → IfGot Q (go_on x f)
got_bind P Q (got a rest) f h k = k a rest h
got_bind P Q (fault r) f h k = tt

-- behind a question that is answered
pub got_ask : {B : Type 0} (Q : B → List ℕ → Type 0) (b : Bool) (r : ℕ) (f : Reads B) (bs : List ℕ)
    → (b ≡ true → IfGot Q (f bs)) → IfGot Q (go_on (ask b r bs) (λ _. f))
got_ask Q true r f bs k = k refl
got_ask Q false r f bs k = tt

-- ## Chunks

pub chunk_append : (a rest : List ℕ) → chunk (length a) (a ++ rest) ≡ got a rest
chunk_append [] rest = refl
chunk_append (b ∷ a) rest = rw (chunk_append a rest)

abbrev pub Chunk : ℕ → List ℕ → List ℕ → List ℕ → Type 0
Chunk n bs a rest = (length a ≡ n) × (bs ≡ a ++ rest)

pub chunk_back : (n : ℕ) (bs : List ℕ) → IfGot (Chunk n bs) (chunk n bs)
chunk_back zero bs = (refl, refl)
chunk_back (suc n) [] = tt
chunk_back (suc n) (b ∷ bs) =
    got_bind (Chunk n bs) (Chunk (suc n) (b ∷ bs)) (chunk n bs) (λ a. give (b ∷ a)) (chunk_back n bs)
    (λ a rest h. (ap suc h.0, ap (λ (cs : List ℕ). b ∷ cs) h.1))

pub chunk_only : (n : ℕ) (bs a rest : List ℕ) → chunk n bs ≡ got a rest → (length a ≡ n) × (bs ≡ a ++ rest)
chunk_only n bs a rest e = if_got (Chunk n bs) (chunk n bs) (chunk_back n bs) e

pub chunk_take : (n : ℕ) (bs : List ℕ) → n ≤ length bs → chunk n bs ≡ got (take n bs) (drop n bs)
chunk_take zero bs h = refl
chunk_take (suc n) [] h = absurd (omega arith)
chunk_take (suc n) (b ∷ bs) h = rw (chunk_take n bs (omega arith)) refl

pub chunk_lacks : (n : ℕ) (bs : List ℕ) → length bs < n → chunk n bs ≡ fault 1
chunk_lacks zero bs h = absurd (omega arith)
chunk_lacks (suc n) [] h = refl
chunk_lacks (suc n) (b ∷ bs) h = rw (chunk_lacks n bs (omega arith)) refl

-- ## Codecs

-- what reading leaves: a good value, whose bytes are the ones that were read
pub record Wrote {A : Type 0} (Good : A → Type 0) (write : A → List ℕ) (bs : List ℕ) (a : A) (rest : List ℕ) : Type 0 where
  pub good : Good a
  pub bytes : bs ≡ write a ++ rest
  pub left : Bytes rest

-- a reader that accepts exactly the writings of good values
pub record Codec {A : Type 0} (read : Reads A) (Good : A → Type 0) (write : A → List ℕ) : Type 0 where
  pub forward : (a : A) (rest : List ℕ) → Good a → read (write a ++ rest) ≡ got a rest
  pub back : (bs : List ℕ) → Bytes bs → IfGot (Wrote Good write bs) (read bs)

pub codec_only : {A : Type 0} {read : Reads A} {Good : A → Type 0} {write : A → List ℕ} → Codec read Good write → (bs : List ℕ) (a : A) (rest : List ℕ)
    → Bytes bs → read bs ≡ got a rest → Wrote Good write bs a rest
codec_only {read = read} {Good = Good} {write = write} c bs a rest h e = if_got (Wrote Good write bs) (read bs) (c.back bs h) e

-- a reader whose values must pass a test besides
pub tested : {A : Type 0} {read : Reads A} {S Good : A → Type 0} {write : A → List ℕ} (t : A → Bool) (r : ℕ)
    → Codec read (λ a. S a × Good a) write → Codec (read >>= λ a. ask (t a) r >>= λ _. give a) (λ a. S a × (Good a × (t a ≡ true))) write
tested {A} {read} {S} {Good} {write} t r c =
    record {
      forward = λ a rest h. rw (c.forward a rest (h.0, h.1.0), h.1.1) refl;
      back =
          λ bs h.
          got_bind (Wrote (λ a. S a × Good a) write bs) (Wrote (λ a. S a × (Good a × (t a ≡ true))) write bs) (read bs) _ (c.back bs h)
          (λ a rest w. got_ask _ (t a) r (give a) rest (λ e. record { good = (w.good.0, (w.good.1, e)); bytes = w.bytes; left = w.left }));
    }

-- ## Numbers that are not zero

not_false : (b : Bool) → not b ≡ true → b ≡ false
not_false true e = absurd (false≢true e)
not_false false e = refl

pub nonzero_forward : (n v : ℕ) (rest : List ℕ) → eqb v 0 ≡ false → v < 256 ^ n → nonzero n (bytes_of n v ++ rest) ≡ got v rest
nonzero_forward n v rest z h =
    let e : chunk n (bytes_of n v ++ rest) ≡ got (bytes_of n v) rest =
    ap (λ m. chunk m (bytes_of n v ++ rest)) (sym (length_bytes_of n v)) ∙ chunk_append (bytes_of n v) rest in
    rw (e, number_of_bytes n v h, z) refl

pub nonzero_codec : (n : ℕ) → Codec (nonzero n) (λ v. (eqb v 0 ≡ false) × (v < 256 ^ n)) (bytes_of n)
nonzero_codec n =
    record {
      forward = λ v rest h. nonzero_forward n v rest h.0 h.1;
      back =
          λ bs h.
          got_bind (Chunk n bs) _ (chunk n bs) _ (chunk_back n bs)
          (λ a rest k.
          got_ask _ (not (eqb (number_of a) 0)) 4 (give (number_of a)) rest
          (λ z.
          let b : Bytes (a ++ rest) = subst Bytes k.1 h in
          let e : bytes_of n (number_of a) ≡ a = ap (λ m. bytes_of m (number_of a)) (sym k.0) ∙ bytes_of_number a (bytes_left a rest b) in
          record {
            good = (not_false _ z, subst (λ m. number_of a < 256 ^ m) k.0 (number_below a (bytes_left a rest b)));
            bytes = k.1 ∙ ap (λ (cs : List ℕ). cs ++ rest) (sym e);
            left = bytes_right a rest b;
          }));
    }

pub nonzero_only : (n : ℕ) (bs : List ℕ) (v : ℕ) (rest : List ℕ) → Bytes bs → nonzero n bs ≡ got v rest
    → Wrote (λ u. (eqb u 0 ≡ false) × (u < 256 ^ n)) (bytes_of n) bs v rest
nonzero_only n bs v rest b e = codec_only (nonzero_codec n) bs v rest b e

-- ## Literals

all_false_fact : (n : ℕ) → all_false (replicate n false) ≡ true
all_false_fact zero = refl
all_false_fact (suc n) = all_false_fact n

falses : (a : Bits) → all_false a ≡ true → a ≡ replicate (length a) false
falses [] e = refl
falses (true ∷ a) e = absurd (false≢true e)
falses (false ∷ a) e = ap (λ (b : Bits). false ∷ b) (falses a e)

-- the bits that are read are the bits that were packed
bits_forward : (a : Bits) (n : ℕ) → length a ≤ 8 * n → (take (length a) (unpack (pack n a)) ≡ a) × (all_false (drop (length a) (unpack (pack n a))) ≡ true)
bits_forward a n h =
    rw (unpack_pack n a h) (
      take-append_seam a (replicate (8 * n - length a) false),
      ap all_false (drop-append_seam a (replicate (8 * n - length a) false)) ∙ all_false_fact (8 * n - length a),
    )

-- the bytes that were read are the packed bits
bits_back : (cs : List ℕ) (n : ℕ) → Bytes cs → all_false (drop n (unpack cs)) ≡ true → pack (length cs) (take n (unpack cs)) ≡ cs
bits_back cs n h e =
    let u : Bits = unpack cs in
    let spare : ℕ = length (drop n u) in
    let long : length (take n u) + spare - length (take n u) ≡ spare = omega arith in
    let split : pad (length (take n u) + spare) (take n u) ≡ u =
    ap (λ k. take n u ++ replicate k false) long ∙ ap (λ (b : Bits). take n u ++ b) (sym (falses (drop n u) e)) ∙ take-append-drop n u in
    let value : value_of (take n u) ≡ number_of cs =
    sym (value_of_pad (length (take n u) + spare) (take n u)) ∙ ap value_of split ∙ value_of_unpack cs h in
    pack_is (length cs) (take n u) ∙ ap (bytes_of (length cs)) value ∙ bytes_of_number cs h

-- a literal that is written: not empty, and not too long
abbrev pub Written : Bits → Type 0
Written a = (eqb (length a) 0 ≡ false) × (length a ≤ max_literal)

bytes_for_enough : (n : ℕ) → n ≤ 8 * bytes_for n
bytes_for_enough n = omega arith

pub length_pack : (n : ℕ) (a : Bits) → length (pack n a) ≡ n
length_pack n a = ap length (pack_is n a) ∙ length_bytes_of n (value_of a)

write_literal_is : (a : Bits) → eqb (length a) 0 ≡ false → write_literal a ≡ length a ∷ pack (bytes_for (length a)) a
write_literal_is [] z = absurd (true≢false z)
write_literal_is (b ∷ a) z = refl

literal_reads : (n : ℕ) (cs rest : List ℕ) → eqb n 0 ≡ false → leb n max_literal ≡ true → length cs ≡ bytes_for n → all_false (drop n (unpack cs)) ≡ true
    → literal (n ∷ (cs ++ rest)) ≡ got (take n (unpack cs)) rest
literal_reads n cs rest z small long spare =
    let read : chunk (bytes_for n) (cs ++ rest) ≡ got cs rest = ap (λ m. chunk m (cs ++ rest)) (sym long) ∙ chunk_append cs rest in
    rw (z, small, read, spare) refl

pub literal_forward : (a : Bits) (rest : List ℕ) → Written a → literal (write_literal a ++ rest) ≡ got a rest
literal_forward a rest h =
    let n : ℕ = length a in
    let bits = bits_forward a (bytes_for n) (bytes_for_enough n) in
    ap (λ (cs : List ℕ). literal (cs ++ rest)) (write_literal_is a h.0)
    ∙ literal_reads n (pack (bytes_for n) a) rest h.0 ((leb_is n max_literal).1 h.1) (length_pack (bytes_for n) a) bits.1
    ∙ ap (λ b. got b rest) bits.0

-- a length, its bytes and spare bits that are false make up a written literal
literal_wrote : (n : ℕ) (bs cs rest : List ℕ) → Bytes bs → eqb n 0 ≡ false → n ≤ max_literal → Chunk (bytes_for n) bs cs rest → all_false (drop n (unpack cs)) ≡ true
    → Wrote Written write_literal (n ∷ bs) (take n (unpack cs)) rest
literal_wrote n bs cs rest h z small k spare =
    let a : Bits = take n (unpack cs) in
    let b : Bytes (cs ++ rest) = subst Bytes k.1 h in
    let long : length a ≡ n = length-take-le n (unpack cs) (omega (arith, length_unpack cs, bytes_for_enough n, k.0)) in
    let nonempty : eqb (length a) 0 ≡ false = rw long z in
    let packed : pack (bytes_for (length a)) a ≡ cs =
    ap (λ m. pack (bytes_for m) a) long ∙ ap (λ m. pack m a) (sym k.0) ∙ bits_back cs n (bytes_left cs rest b) spare in
    let written : write_literal a ≡ n ∷ cs = write_literal_is a nonempty ∙ λ i. long i ∷ packed i in
    record {
      good = (nonempty, omega (arith, long));
      bytes = ap (λ (ds : List ℕ). n ∷ ds) k.1 ∙ ap (λ (ds : List ℕ). ds ++ rest) (sym written);
      left = bytes_right cs rest b;
    }

literal_back : (bs : List ℕ) → Bytes bs → IfGot (Wrote Written write_literal bs) (literal bs)
literal_back [] h = tt
literal_back (n ∷ bs) h =
    got_ask _ (not (eqb n 0)) 4 _ bs (λ z.
    got_ask _ (leb n max_literal) 5 _ bs (λ small.
    got_bind (Chunk (bytes_for n) bs) _ (chunk (bytes_for n) bs) _ (chunk_back (bytes_for n) bs) (λ cs rest k.
    got_ask _ (all_false (drop n (unpack cs))) 4 (give (take n (unpack cs))) rest (λ spare.
    literal_wrote n bs cs rest h.1 (not_false _ z) ((leb_is n max_literal).0 small) k spare))))

pub literal_codec : Codec literal Written write_literal
literal_codec = record { forward = literal_forward; back = literal_back }

pub literal_only : (bs : List ℕ) (a : Bits) (rest : List ℕ) → Bytes bs → literal bs ≡ got a rest → Wrote Written write_literal bs a rest
literal_only bs a rest b e = codec_only literal_codec bs a rest b e

-- ## The limit

-- behind its length a literal is refused by 1 or 4 alone
spare_refused : (b : Bool) (a : Bits) (rest : List ℕ) → go_on (ask b 4 rest) (λ _. give a) ≡ fault 5 → ⊥
spare_refused true a rest e = let z : ◌≡◌ {A = ℕ} 0 1 = cc in absurd (omega arith)
spare_refused false a rest e = let z : ◌≡◌ {A = ℕ} 4 5 = cc in absurd (omega arith)

bits_refused : (n : ℕ) (x : Read (List ℕ)) → (x ≡ fault 1) ⊎ ((cs : List ℕ) × (rest : List ℕ) × (x ≡ got cs rest))
    → go_on x (λ cs. ask (all_false (drop n (unpack cs))) 4 >>= λ _. give (take n (unpack cs))) ≡ fault 5 → ⊥
bits_refused n (fault r) (inl l) e = let z : ◌≡◌ {A = ℕ} 1 5 = cc in absurd (omega arith)
bits_refused n (fault r) (inr l) e = let k = l.2 in let z : ◌≡◌ {A = ℕ} 0 1 = cc in absurd (omega arith)
bits_refused n (got cs rest) l e = spare_refused (all_false (drop n (unpack cs))) (take n (unpack cs)) rest e

chunk_refused : (n : ℕ) (bs : List ℕ) → (chunk n bs ≡ fault 1) ⊎ ((cs : List ℕ) × (rest : List ℕ) × (chunk n bs ≡ got cs rest))
chunk_refused n bs = go (dec_lt (length bs) n)
  where
    go : Dec (length bs < n) → (chunk n bs ≡ fault 1) ⊎ ((cs : List ℕ) × (rest : List ℕ) × (chunk n bs ≡ got cs rest))
    go (yes l) = inl (chunk_lacks n bs l)
    go (no l) = inr (take n bs, drop n bs, chunk_take n bs (omega arith))

within_limit : (n : ℕ) (bs : List ℕ) → n ≤ max_literal → literal (n ∷ bs) ≡ fault 5 → ⊥
within_limit zero bs small e = let z : ◌≡◌ {A = ℕ} 4 5 = cc in absurd (omega arith)
within_limit (suc n) bs small e =
    bits_refused (suc n) (chunk (bytes_for (suc n)) bs) (chunk_refused (bytes_for (suc n)) bs)
    (rw (ne_eqb (suc n) 0 (λ z. omega arith), (leb_is (suc n) max_literal).1 small) at e)

-- a length byte is refused by 5 exactly if it is above the limit, whatever follows it
pub literal_limit : (n : ℕ) (bs : List ℕ) → (literal (n ∷ bs) ≡ fault 5) ↔ (max_literal < n)
literal_limit n bs = (go (dec_lt max_literal n), λ long. rw (ne_eqb n 0 (λ z. omega arith), lt-leb n max_literal long) refl)
  where
    go : Dec (max_literal < n) → literal (n ∷ bs) ≡ fault 5 → max_literal < n
    go (yes long) e = long
    go (no small) e = absurd (within_limit n bs (omega arith) e)
