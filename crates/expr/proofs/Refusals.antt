-- The refusals of form are 1 to 8, those of a record 1 to 5.
use mathlib.Core.Path.{◌≡◌, subst}
use mathlib.Core.Bool.{Bool, true, false, not, ◌||◌, cond}
use mathlib.Core.List.{List, [], ◌∷◌}
use Prim.Native.Nat.{ℕ, zero, suc, ◌+◌, ◌≤◌}
use native.Mathlib.Omega.{arith}
use lib.Dec.{leb, eqb, ltb}
use lib.ListN.{drop}
use Rattle.literals.specs.Bits.{bit_at, number_of, unpack}
use Rattle.literals.specs.Reading.{Read, got, fault, Reads, go_on, ◌>>=◌, give, ask, byte, chunk, nonzero, literal, max_literal, bytes_for, all_false}
use Rattle.expr.specs.Answers.{Answer, ok, refuse, and_then, need}
use Rattle.expr.specs.Records.{Record, none_lacks, is_match, fits_pattern, read_record}
use Rattle.expr.specs.Form.{max_records, max_depth, Node, node0, node1, node2, node3, node_of, Parsed, children, node_at, parse, whole_term, decode}

-- ## Reading

abbrev Small : {A : Type 0} → Read A → Type 0
Small (got a bs) = Unit {0}
Small (fault r) = (1 ≤ r) × (r ≤ 5)

small_then : {A B : Type 0} (x : Read A) (f : A → Reads B) → Small x → ((a : A) (bs : List ℕ) → Small (f a bs)) → Small (go_on x f)
small_then (got a bs) f h k = k a bs
small_then (fault r) f h k = h

small_ask : {B : Type 0} (b : Bool) (r : ℕ) (f : Reads B) (bs : List ℕ) → (1 ≤ r) × (r ≤ 5) → ((bs : List ℕ) → Small (f bs)) → Small (go_on (ask b r bs) (λ _. f))
small_ask true r f bs h k = k bs
small_ask false r f bs h k = h

small_byte : (bs : List ℕ) → Small (byte bs)
small_byte [] = (omega arith, omega arith)
small_byte (b ∷ bs) = tt

small_chunk : (n : ℕ) (bs : List ℕ) → Small (chunk n bs)
small_chunk zero bs = tt
small_chunk (suc n) bs = small_then (byte bs) _ (small_byte bs) (λ b cs. small_then (chunk n cs) _ (small_chunk n cs) (λ a ds. tt))

small_number : (n : ℕ) (bs : List ℕ) → Small (nonzero n bs)
small_number n bs = small_then (chunk n bs) _ (small_chunk n bs) (λ a cs. small_ask (not (eqb (number_of a) 0)) 4 _ cs (omega arith, omega arith) (λ ds. tt))

small_literal : (bs : List ℕ) → Small (literal bs)
small_literal bs =
    small_then (byte bs) _ (small_byte bs) (λ n cs.
    small_ask (not (eqb n 0)) 4 _ cs (omega arith, omega arith) (λ ds.
    small_ask (leb n max_literal) 5 _ ds (omega arith, omega arith) (λ es.
    small_then (chunk (bytes_for n) es) _ (small_chunk (bytes_for n) es) (λ a fs.
    small_ask (all_false (drop n (unpack a))) 4 _ fs (omega arith, omega arith) (λ gs. tt)))))

-- a field that is read where its bit stands, and what is behind it
small_field : {A B : Type 0} (b : Bool) (m : Reads A) (absent : A) (f : A → Reads B) (bs : List ℕ) → ((bs : List ℕ) → Small (m bs))
    → ((a : A) (bs : List ℕ) → Small (f a bs)) → Small (go_on (cond b m (give absent) bs) f)
small_field true m absent f bs h k = small_then (m bs) f (h bs) k
small_field false m absent f bs h k = k absent bs

small_tested : (t : ℕ → Bool) (r : ℕ) → (1 ≤ r) × (r ≤ 5) → (bs : List ℕ) → Small ((nonzero 1 >>= λ v. ask (t v) r >>= λ _. give v) bs)
small_tested t r h bs = small_then (nonzero 1 bs) _ (small_number 1 bs) (λ v cs. small_ask (t v) r _ cs h (λ ds. tt))

small_record : (bs : List ℕ) → Small (read_record bs)
small_record bs =
    small_then (byte bs) _ (small_byte bs) (λ m b0.
    small_field (bit_at 0 m) _ 0 _ b0 (small_tested (λ k. leb k 26) 2 (omega arith, omega arith)) (λ k b1.
    small_ask (none_lacks k m (1 ∷ 2 ∷ 3 ∷ 4 ∷ 5 ∷ 6 ∷ 7 ∷ [])) 3 _ b1 (omega arith, omega arith) (λ b2.
    small_field (bit_at 1 m) _ 0 _ b2 (small_number 2) (λ name b3.
    small_field (bit_at 2 m) _ 0 _ b3 (small_number 4) (λ start b4.
    small_field (bit_at 3 m) _ 0 _ b4 (small_number 4) (λ end b5.
    small_field (bit_at 4 m) _ 0 _ b5 (small_tested (λ p. leb p 3) 5 (omega arith, omega arith)) (λ pattern b6.
    small_ask (fits_pattern k pattern m) 3 _ b6 (omega arith, omega arith) (λ b7.
    small_field (bit_at 5 m) _ 0 _ b7 (small_tested (λ v. is_match k || leb v 1) 5 (omega arith, omega arith)) (λ number b8.
    small_field (bit_at 6 m) _ [] _ b8 small_literal (λ a b9.
    small_field (bit_at 7 m) _ [] _ b9 small_literal (λ b b10. tt)))))))))))

pub record_numbers : (bs : List ℕ) {r : ℕ} → read_record bs ≡ fault r → (1 ≤ r) × (r ≤ 5)
record_numbers bs e = subst Small e (small_record bs)

-- ## Terms

abbrev Low : {A : Type 0} → Answer A → Type 0
Low (ok a) = Unit {0}
Low (refuse r at) = (1 ≤ r) × (r ≤ 8)

low_then : {A B : Type 0} (x : Answer A) (f : A → Answer B) → Low x → ((a : A) → Low (f a)) → Low (and_then x f)
low_then (ok a) f h k = k a
low_then (refuse r at) f h k = h

low_need : (b : Bool) (r at : ℕ) → (1 ≤ r) × (r ≤ 8) → Low (need b r at)
low_need true r at h = tt
low_need false r at h = h

low_children : (d : ℕ) → ((at : ℕ) (bs : List ℕ) → Low (parse d at bs)) → (n : Node) (at : ℕ) (bs : List ℕ) → Low (children (parse d) n at bs)
low_children d h (node0 e) at bs = tt
low_children d h (node1 f) at bs = low_then (parse d at bs) _ (h at bs) (λ a. tt)
low_children d h (node2 f) at bs =
    low_then (parse d at bs) _ (h at bs) (λ a. low_then (parse d a.next a.rest) _ (h a.next a.rest) (λ b. tt))
low_children d h (node3 f) at bs =
    low_then (parse d at bs) _ (h at bs) (λ a.
    low_then (parse d a.next a.rest) _ (h a.next a.rest) (λ b.
    low_then (parse d b.next b.rest) _ (h b.next b.rest) (λ c. tt)))

low_parse : (d at : ℕ) (bs : List ℕ) → Low (parse d at bs)
low_parse zero at bs = low_then (need (ltb at max_records) 6 at) _ (low_need (ltb at max_records) 6 at (omega arith, omega arith)) (λ _. (omega arith, omega arith))
low_parse (suc d) at bs =
    low_then (need (ltb at max_records) 6 at) _ (low_need (ltb at max_records) 6 at (omega arith, omega arith)) (λ _. go (low_parse d) (read_record bs) (small_record bs))
  where
    go : ((at : ℕ) (bs : List ℕ) → Low (parse d at bs)) → (x : Read Record) → Small x → Low (node_at (parse d) at x)
    go low (got h cs) k = low_children d low (node_of h) (at + 1) cs
    go low (fault r) k = (k.0, omega (arith, k.1))

low_whole : (r : Parsed) (bs : List ℕ) → Low (whole_term r bs)
low_whole r [] = tt
low_whole r (b ∷ bs) = (omega arith, omega arith)

pub decode_numbers : (bs : List ℕ) {r at : ℕ} → decode bs ≡ refuse r at → (1 ≤ r) × (r ≤ 8)
decode_numbers bs e = subst Low e (low_then (parse max_depth 0 bs) _ (low_parse max_depth 0 bs) (λ r. low_whole r r.rest))

pub decode_low : (bs : List ℕ) {r at : ℕ} → decode bs ≡ refuse r at → r ≤ 8
decode_low bs e = (decode_numbers bs e).1
