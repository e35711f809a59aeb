-- Packets that lie end to end.
use mathlib.Core.Path.{◌≡◌, refl, sym, ap, ◌∙◌}
use mathlib.Core.Bool.{Bool, true, false}
use mathlib.Core.List.{List, [], ◌∷◌, ◌++◌}
use Prim.Native.Nat.{ℕ, zero, suc, ◌+◌, ◌-◌, ◌*◌, ◌/◌, ◌^◌, ◌≤◌, ◌<◌, min}
use native.Mathlib.Omega.{arith}
use borrow.Author.Tests.{le-leb, lt-leb, leb-true, leb-false}
use lib.Dec.{leb}
use lib.ListN.{length, take, drop, get_or, length-append, length-take, length-drop, drop_of_length-le}
use Rattle.std.proofs.Common.{append-nil, append_assoc}
use Rattle.std.proofs.lemmas.List.Sums.{sum_by-cons}
use lib.Seq.{drop-drop, take_all, take-nil}
use Rattle.std.specs.Prelude.{Some, None, sum}
use Rattle.literals.specs.Bits.{bit, unpack}
use Rattle.expr.specs.Answers.{and_then, need}
use Rattle.packets.specs.Running.{max_packets, packet_bytes, packet_of, wide_enough}
use Rattle.packets.specs.Claims.{total}
use Rattle.packets.specs.Results.{field_mask, all_mask, ShortFound}
use Rattle.packets.proofs.MaskLaws.{mask_below, all_ones}

pub packets_long : (ns s : List ℕ) → length (packet_bytes ns s) ≡ length ns
packets_long [] s = refl
packets_long (n ∷ ns) s = ap suc (packets_long ns (drop n s))

past : (ps : List (List ℕ)) (k : ℕ) → length ps ≤ k → drop k ps ≡ []
past [] zero h = refl
past [] (suc k) h = refl
past (p ∷ ps) zero h = absurd (omega arith)
past (p ∷ ps) (suc k) h = past ps k (omega arith)

-- where packet i begins
abbrev pub start_of : ℕ → List ℕ → ℕ
start_of i ns = total (take i ns)

start_next : (i : ℕ) (ns : List ℕ) → i < length ns → start_of (suc i) ns ≡ start_of i ns + get_or ns i 0
start_next i [] h = absurd (omega arith)
start_next zero (n ∷ ns) h = omega arith
start_next (suc i) (n ∷ ns) h = omega (arith, start_next i ns (omega arith))

start_within : (i : ℕ) (ns : List ℕ) → i < length ns → start_of i ns + get_or ns i 0 ≤ total ns
start_within i [] h = absurd (omega (arith, h))
start_within zero (n ∷ ns) h = omega arith
start_within (suc i) (n ∷ ns) h = omega (arith, start_within i ns (omega arith))

-- packet i, and those behind it
packet_at : (i : ℕ) (ns s : List ℕ) → i < length ns → drop i (packet_bytes ns s) ≡ take (get_or ns i 0) (drop (start_of i ns) s) ∷ drop (suc i) (packet_bytes ns s)
packet_at i [] s h = absurd (omega arith)
packet_at zero (n ∷ ns) s h = refl
packet_at (suc i) (n ∷ ns) s h =
    packet_at i ns (drop n s) (omega arith) ∙ ap (λ (l : List ℕ). take (get_or ns i 0) l ∷ drop (suc i) (packet_bytes ns (drop n s))) (drop-drop (start_of i ns) n s)

-- ## Where they end

pub sum_total : (ns : List ℕ) → sum ns ≡ total ns
sum_total [] = refl
sum_total (n ∷ ns) = sum_by-cons (λ k. k) n ns ∙ ap (λ k. n + k) (sum_total ns)

-- packet i begins at start
pub record Summed (ns : List ℕ) (i start : ℕ) : Type 0 where
  pub low : i ≤ length ns
  pub begins : start ≡ start_of i ns

pub sum_start : (ns : List ℕ) → Summed ns 0 0
sum_start ns = record { low = omega arith; begins = refl }

module _ {ns : List ℕ} {i start : ℕ} (m : Summed ns i start) where
  pub sum_within : i < length ns → start + get_or ns i 0 ≤ total ns
  sum_within h = omega (arith, m.begins, start_within i ns h)

  pub sum_next : i < length ns → Summed ns (i + 1) (start + get_or ns i 0)
  sum_next h =
      let more : suc i ≡ i + 1 = omega arith in
      record { low = omega arith; begins = ap (λ k. k + get_or ns i 0) m.begins ∙ sym (start_next i ns h) ∙ ap (λ k. start_of k ns) more }

-- a mask with as many ones as there are packets
pub ones : (ns s : List ℕ) {all : ℕ} → all + 1 ≡ 2 ^ length ns → all ≡ all_mask (packet_bytes ns s)
ones ns s a = omega (arith, a, all_ones (packet_bytes ns s), ap (λ k. 2 ^ k) (packets_long ns s))

-- ## A packet cut out of the slice

-- the part from one bound to the other, where each is cut at the slice's end
cut : (s : List ℕ) (start n a b : ℕ) → a ≡ min start (length s) → b ≡ min (start + n) (length s) → take (b - a) (drop a s) ≡ take n (drop start s)
cut s start n a b p q = go (leb (length s) start) refl
  where
    inside : start < length s → (x : Bool) → leb (start + n) (length s) ≡ x → take (b - a) (drop a s) ≡ take n (drop start s)
    inside l true e =
        let h = leb-true (start + n) (length s) e in
        let same : a ≡ start = omega (arith, p, l) in
        let long : b - a ≡ n = omega (arith, p, q, l, h) in
        λ i. take (long i) (drop (same i) s)
    inside l false e =
        let h = leb-false (start + n) (length s) e in
        let same : a ≡ start = omega (arith, p, l) in
        ap (λ k. take (b - a) (drop k s)) same ∙ take_all (b - a) (drop start s) (omega (arith, length-drop start s, p, q, l, h))
        ∙ sym (take_all n (drop start s) (omega (arith, length-drop start s, l, h)))

    go : (x : Bool) → leb (length s) start ≡ x → take (b - a) (drop a s) ≡ take n (drop start s)
    go true e =
        let h = leb-true (length s) start e in
        ap (take (b - a)) (drop_of_length-le s {i = a} (omega (arith, p, h))) ∙ take-nil (b - a) ∙ sym (ap (take n) (drop_of_length-le s h) ∙ take-nil n)
    go false e = inside (leb-false (length s) start e) (leb (start + n) (length s)) refl

-- ## The mask of a field, from the last packet to the first

total_push : (ns : List ℕ) (n : ℕ) → total (ns ++ n ∷ []) ≡ total ns + n
total_push [] n = omega arith
total_push (m ∷ ns) n = omega (arith, total_push ns n)

-- the packets behind those that are left are in the mask, and begin at start
pub record Masked (f : ℕ) (s ns left : List ℕ) (start mask : ℕ) : Type 0 where
  pub behind : List ℕ
  pub whole : left ++ behind ≡ ns
  pub begins : start ≡ total left
  pub is : mask ≡ field_mask f (packet_bytes behind (drop start s))

pub masked_start : (f : ℕ) (s ns : List ℕ) {end : ℕ} → end ≡ total ns → Masked f s ns ns end 0
masked_start f s ns e = record { behind = []; whole = append-nil ns; begins = e; is = refl }

module _ {f : ℕ} {s ns left : List ℕ} {start mask : ℕ} (m : Masked f s ns left start mask) (left' : List ℕ) (n : ℕ) (last : left ≡ left' ++ n ∷ []) where
  pub start_back : start ≡ total left' + n
  start_back = m.begins ∙ ap total last ∙ total_push left' n

  pub mask_small : length ns ≤ max_packets → 2 * mask + 1 < 2 ^ 64
  mask_small few =
      omega (
        arith,
        few,
        m.is,
        mask_below (λ p. packet_of p f) (packet_bytes m.behind (drop start s)) 63 (omega (arith, few, packets_long m.behind (drop start s), count)),
      )
    where
      count : length left' + 1 + length m.behind ≡ length ns
      count = omega (arith, length-append left' (n ∷ []), length-append left m.behind, ap length last, ap length m.whole)

  pub masked_next : {from a b mask' : ℕ} {x : Bool} → from ≡ start - n → a ≡ min from (length s) → b ≡ min start (length s)
      → x ≡ get_or (unpack (take (b - a) (drop a s))) f false → mask' ≡ bit x + 2 * mask → Masked f s ns left' from mask'
  masked_next {from} {a} {b} {mask'} {x} e p q g w =
      let over : from + n ≡ start = omega (arith, e, start_back) in
      let piece : take (b - a) (drop a s) ≡ take n (drop from s) = cut s from n a b p (omega (arith, q, over)) in
      let found : x ≡ packet_of (take n (drop from s)) f = g ∙ ap (λ (l : List ℕ). get_or (unpack l) f false) piece in
      let rest : drop start s ≡ drop n (drop from s) = ap (λ k. drop k s) (sym over) ∙ sym (drop-drop n from s) in
      record {
        behind = n ∷ m.behind;
        whole = sym (append_assoc left' (n ∷ []) m.behind) ∙ ap (λ (l : List ℕ). l ++ m.behind) (sym last) ∙ m.whole;
        begins = omega (arith, e, start_back);
        is = w ∙ (λ j. bit (found j) + 2 * m.is j) ∙ ap (λ (l : List ℕ). bit (packet_of (take n (drop from s)) f) + 2 * field_mask f (packet_bytes m.behind l)) rest;
      }

pub masked_end : {f : ℕ} {s ns left : List ℕ} {start mask : ℕ} → Masked f s ns left start mask → length left ≡ 0 → mask ≡ field_mask f (packet_bytes ns s)
masked_end {f} {s} {left = []} m h = m.is ∙ λ j. field_mask f (packet_bytes (m.whole j) (drop (m.begins j) s))
masked_end {left = n ∷ left} m h = absurd (omega (arith, h))

-- ## Is every packet wide enough?

module _ (n : ℕ) (ns s : List ℕ) where
  -- the answer is that of the packets from i on, and packet i begins at start
  pub record Judged (i start : ℕ) : Type 0 where
    pub sum : Summed ns i start
    pub answer : wide_enough n (packet_bytes ns s) 0 ≡ wide_enough n (drop i (packet_bytes ns s)) i

  module _ {i start : ℕ} (j : Judged i start) where
    module _ (h : i < length ns) {a b : ℕ} (p : a ≡ min start (length s)) (q : b ≡ min (start + get_or ns i 0) (length s)) where
      long : length (take (get_or ns i 0) (drop (start_of i ns) s)) ≡ b - a
      long = omega (arith, p, q, j.sum.begins, length-take (get_or ns i 0) (drop (start_of i ns) s), length-drop (start_of i ns) s)

      opened : wide_enough n (packet_bytes ns s) 0 ≡ and_then (need (leb n (8 * (b - a))) 50 i) λ _. wide_enough n (drop (suc i) (packet_bytes ns s)) (i + 1)
      opened =
          j.answer ∙ ap (λ (l : List (List ℕ)). wide_enough n l i) (packet_at i ns s h)
          ∙ ap (λ k. and_then (need (leb n (8 * k)) 50 i) λ _. wide_enough n (drop (suc i) (packet_bytes ns s)) (i + 1)) long

      pub judged_short : b - a < (n + 7) / 8 → ShortFound n (packet_bytes ns s) (Some i)
      judged_short g =
          opened ∙ ap (λ x. and_then (need x 50 i) λ _. wide_enough n (drop (suc i) (packet_bytes ns s)) (i + 1)) (lt-leb n (8 * (b - a)) (omega arith))

      pub judged_next : (n + 7) / 8 ≤ b - a → Judged (i + 1) (start + get_or ns i 0)
      judged_next g =
          let more : suc i ≡ i + 1 = omega arith in
          record {
            sum = sum_next j.sum h;
            answer =
                opened ∙ ap (λ x. and_then (need x 50 i) λ _. wide_enough n (drop (suc i) (packet_bytes ns s)) (i + 1)) (le-leb n (8 * (b - a)) (omega arith))
                ∙ ap (λ m. wide_enough n (drop m (packet_bytes ns s)) (i + 1)) more;
          }

    pub judged_end : length ns ≤ i → ShortFound n (packet_bytes ns s) None
    judged_end h = j.answer ∙ ap (λ (l : List (List ℕ)). wide_enough n l i) (past (packet_bytes ns s) i (omega (arith, packets_long ns s)))
