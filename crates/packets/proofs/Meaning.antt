-- What the bits of an answer mean.
use mathlib.Core.Path.{◌≡◌, refl, sym, ap, subst, ◌∙◌}
use mathlib.Core.Bool.{Bool, true, false, beq, ◌&&◌}
use mathlib.Core.List.{List, [], ◌∷◌, map}
use Prim.Native.Nat.{ℕ, zero, suc, ◌+◌, ◌*◌, ◌^◌, ◌≤◌, ◌<◌, max}
use native.Mathlib.Omega.{arith}
use borrow.Author.Tests.{le-leb, lt-leb, leb-true, leb-false}
use lib.Dec.{leb, ltb}
use lib.ListN.{length, take, drop, get_or, length-map, get_or-eq_default}
use lib.Seq.{drop-drop, take-length}
use Rattle.literals.specs.Bits.{bit, bit_at}
use Rattle.literals.proofs.Bits.{bit_at_value}
use Rattle.literals.proofs.Logic.{and_right}
use Rattle.expr.specs.Answers.{Answer, ok, refuse, and_then, need}
use Rattle.expr.specs.Terms.{Zero, One, Top, Dup, End, Assign, Test, Core, leaf, one, two, records}
use Rattle.expr.specs.Form.{written}
use Rattle.expr.specs.Operations.{num_fields, atom_fields}
use Rattle.desugar.specs.Negation.{is_test}
use Rattle.desugar.specs.Packets.{Others, Packet, passes_pair, passes}
use Rattle.desugar.proofs.Tests.{test_filters}
use Rattle.cores.specs.Reading.{read_core}
use Rattle.cores.proofs.CoreForm.{read_as}
use Rattle.packets.specs.Running.{max_packets, packet_bytes, packet_of, wide_enough, passing, run_packets}
use Rattle.packets.specs.Claims.{Continues, EachBit, FirstShort}
use Rattle.packets.proofs.MaskLaws.{mask_below}
use Rattle.packets.proofs.PacketLaws.{packets_long, start_of}

-- ## Fields that are not asked for

-- a core has only fields below a number
abbrev Below : ℕ → Core → Type 0
Below n (leaf a) = atom_fields a ≤ n
Below n (one o c) = Below n c
Below n (two o a b) = Below n a × Below n b

below_more : (c : Core) {m n : ℕ} → m ≤ n → Below m c → Below n c
below_more (leaf a) l b = omega (arith, l, b)
below_more (one o c) l b = below_more c l b
below_more (two o a b) l d = (below_more a l d.0, below_more b l d.1)

below_fields : (c : Core) (at n : ℕ) → num_fields (written c) at ≡ ok n → Below n c
below_fields (leaf a) at n e = go (ltb (atom_fields a) (2 ^ 32)) e
  where
    go : (b : Bool) → (and_then (need b 25 at) λ _. ok (atom_fields a)) ≡ ok n → atom_fields a ≤ n
    go true d = let same : atom_fields a ≡ n = cc in omega (arith, same)
    go false d = let z : ◌≡◌ {A = ℕ} 0 1 = cc in absurd (omega arith)
below_fields (one o c) at n e = below_fields c (at + 1) n e
below_fields (two o a b) at n e =
    go (num_fields (written a) (at + 1)) refl (num_fields (written b) (at + 1 + records (written a))) refl e (below_fields a (at + 1)) (below_fields b (at + 1 + records (written a)))
  where
    go : (x : Answer ℕ) → num_fields (written a) (at + 1) ≡ x → (y : Answer ℕ) → num_fields (written b) (at + 1 + records (written a)) ≡ y
        → (and_then x λ k. and_then y λ l. ok (max k l)) ≡ ok n
        → ((m : ℕ) → num_fields (written a) (at + 1) ≡ ok m → Below m a) → ((m : ℕ) → num_fields (written b) (at + 1 + records (written a)) ≡ ok m → Below m b)
        → Below n a × Below n b
    go (refuse r p) d y f g u v = let z : ◌≡◌ {A = ℕ} 0 1 = cc in absurd (omega arith)
    go (ok k) d (refuse r p) f g u v = let z : ◌≡◌ {A = ℕ} 0 1 = cc in absurd (omega arith)
    go (ok k) d (ok l) f g u v =
        let same : max k l ≡ n = cc in (below_more a {m = k} (omega (arith, same)) (u k d), below_more b {m = l} (omega (arith, same)) (v l f))

-- packets that agree below it pass or do not alike
passes_same : (c : Core) (n : ℕ) → Below n c → (p q : Packet) → ((f : ℕ) → f < n → p f ≡ q f) → passes c p ≡ passes c q
passes_same (leaf Zero) n b p q h = refl
passes_same (leaf One) n b p q h = refl
passes_same (leaf Top) n b p q h = refl
passes_same (leaf Dup) n b p q h = refl
passes_same (leaf End) n b p q h = refl
passes_same (leaf (Assign f v)) n b p q h = refl
passes_same (leaf (Test f v)) n b p q h = ap (λ x. beq x v) (h f (omega (arith, b)))
passes_same (one o c) n b p q h = refl
passes_same (two o a c) n b p q h = λ i. passes_pair o (passes_same a n b.0 p q h i) (passes_same c n b.1 p q h i)

-- ## Packets that are wide enough

wide_each : (n : ℕ) (ps : List (List ℕ)) (at : ℕ) → wide_enough n ps at ≡ ok tt → (i : ℕ) → i < length ps → n ≤ 8 * length (get_or ps i [])
wide_each n [] at e i h = absurd (omega (arith, h))
wide_each n (p ∷ ps) at e i h = go (leb n (8 * length p)) refl e (wide_each n ps (at + 1)) i h
  where
    go : (b : Bool) → leb n (8 * length p) ≡ b → and_then (need b 50 at) (λ _. wide_enough n ps (at + 1)) ≡ ok tt
        → (wide_enough n ps (at + 1) ≡ ok tt → (j : ℕ) → j < length ps → n ≤ 8 * length (get_or ps j []))
        → (j : ℕ) → j < length (p ∷ ps) → n ≤ 8 * length (get_or (p ∷ ps) j [])
    go true k d rest zero l = leb-true n (8 * length p) k
    go true k d rest (suc j) l = rest d j (omega (arith, l))
    go false k d rest j l = let z : ◌≡◌ {A = ℕ} 0 1 = cc in absurd (omega arith)

-- ## An answer that is no refusal

pub record RanAs (bs : List ℕ) (room : ℕ) (slice lengths : List ℕ) (m : ℕ) : Type 0 where
  pub core : Core
  pub fields : ℕ
  pub read : read_core bs room ≡ ok (core, fields)
  pub test : is_test core ≡ true
  pub count : (leb 1 (length lengths) && leb (length lengths) max_packets) ≡ true
  pub wide : wide_enough fields (packet_bytes lengths slice) 0 ≡ ok tt
  pub mask : m ≡ passing core (packet_bytes lengths slice)

module _ (bs : List ℕ) (room : ℕ) (slice lengths : List ℕ) where
  pub ran_as : (m : ℕ) → run_packets bs room slice lengths ≡ ok m → RanAs bs room slice lengths m
  ran_as m e = read (read_core bs room) refl e
    where
      widened : (c : Core) (n : ℕ) → read_core bs room ≡ ok (c, n) → is_test c ≡ true → (leb 1 (length lengths) && leb (length lengths) max_packets) ≡ true
          → (x : Answer (Unit {0})) → wide_enough n (packet_bytes lengths slice) 0 ≡ x → (and_then x λ _. ok (passing c (packet_bytes lengths slice))) ≡ ok m → RanAs bs room slice lengths m
      widened c n r t f (refuse q p) w d = let z : ◌≡◌ {A = ℕ} 0 1 = cc in absurd (omega arith)
      widened c n r t f (ok tt) w d = let same : passing c (packet_bytes lengths slice) ≡ m = cc in
          record { core = c; fields = n; read = r; test = t; count = f; wide = w; mask = sym same }

      counted : (c : Core) (n : ℕ) → read_core bs room ≡ ok (c, n) → is_test c ≡ true → (b : Bool) → (leb 1 (length lengths) && leb (length lengths) max_packets) ≡ b
          → (and_then (need b 49 0) λ _. and_then (wide_enough n (packet_bytes lengths slice) 0) λ _. ok (passing c (packet_bytes lengths slice))) ≡ ok m → RanAs bs room slice lengths m
      counted c n r t false f d = let z : ◌≡◌ {A = ℕ} 0 1 = cc in absurd (omega arith)
      counted c n r t true f d = widened c n r t f (wide_enough n (packet_bytes lengths slice) 0) refl d

      tested : (c : Core) (n : ℕ) → read_core bs room ≡ ok (c, n) → (b : Bool) → is_test c ≡ b
          → (and_then (need b 48 0) λ _. and_then (need (leb 1 (length lengths) && leb (length lengths) max_packets) 49 0) λ _. and_then (wide_enough n (packet_bytes lengths slice) 0) λ _. ok (passing c (packet_bytes lengths slice))) ≡ ok m
          → RanAs bs room slice lengths m
      tested c n r false t d = let z : ◌≡◌ {A = ℕ} 0 1 = cc in absurd (omega arith)
      tested c n r true t d = counted c n r t (leb 1 (length lengths) && leb (length lengths) max_packets) refl d

      read : (x : Answer (Core × ℕ)) → read_core bs room ≡ x
          → (and_then x λ r. and_then (need (is_test r.0) 48 0) λ _. and_then (need (leb 1 (length lengths) && leb (length lengths) max_packets) 49 0) λ _. and_then (wide_enough r.1 (packet_bytes lengths slice) 0) λ _. ok (passing r.0 (packet_bytes lengths slice))) ≡ ok m
          → RanAs bs room slice lengths m
      read (refuse q p) r d = let z : ◌≡◌ {A = ℕ} 0 1 = cc in absurd (omega arith)
      read (ok q) r d = tested q.0 q.1 r (is_test q.0) refl d

-- the bit of a packet
bit_of : (c : Core) (ps : List (List ℕ)) (i : ℕ) → i < length ps → bit_at i (passing c ps) ≡ passes c (packet_of (get_or ps i []))
bit_of c ps i h = bit_at_value i (map (λ p. passes c (packet_of p)) ps) ∙ inside ps i h
  where
    inside : (qs : List (List ℕ)) (k : ℕ) → k < length qs → get_or (map (λ p. passes c (packet_of p)) qs) k false ≡ passes c (packet_of (get_or qs k []))
    inside [] k l = absurd (omega (arith, l))
    inside (q ∷ qs) zero l = refl
    inside (q ∷ qs) (suc k) l = inside qs k (omega (arith, l))

module _ {bs : List ℕ} {room : ℕ} {slice lengths : List ℕ} {m : ℕ} (r : RanAs bs room slice lengths m) where
  few : length lengths ≤ max_packets
  few = leb-true (length lengths) max_packets (and_right (leb 1 (length lengths)) (leb (length lengths) max_packets) r.count)

  wide_at : (i : ℕ) → i < length lengths → r.fields ≤ 8 * length (get_or (packet_bytes lengths slice) i [])
  wide_at i h = wide_each r.fields (packet_bytes lengths slice) 0 r.wide i (omega (arith, h, packets_long lengths slice))

  -- "bit i says whether packet i passes"
  pub ran_bit : (i : ℕ) → i < length lengths → (p : Packet) → Continues (get_or (packet_bytes lengths slice) i []) p → bit_at i m ≡ passes r.core p
  ran_bit i h p k =
      ap (bit_at i) r.mask ∙ bit_of r.core (packet_bytes lengths slice) i (omega (arith, h, packets_long lengths slice))
      ∙ passes_same r.core r.fields (below_fields r.core 0 r.fields (read_as bs room (r.core, r.fields) r.read).fields) (packet_of (get_or (packet_bytes lengths slice) i [])) p
      (λ f l. sym (k f (omega (arith, l, wide_at i h))))

  pub ran_means : (others : Others) → EachBit others bs slice lengths m
  ran_means others = record {
    tree = r.core;
    is = (read_as bs room (r.core, r.fields) r.read).is;
    means = λ i h p k.
        let own = ran_bit i h p k in
        let filters = test_filters others r.core r.test p p in
        ((λ e. filters.1 (refl, sym own ∙ e)), (λ e. own ∙ (filters.0 e).1));
  }

  -- "unused bits are zero"
  pub ran_unused : (i : ℕ) → length lengths ≤ i → bit_at i m ≡ false
  ran_unused i h =
      ap (bit_at i) r.mask ∙ bit_at_value i (map (λ p. passes r.core (packet_of p)) (packet_bytes lengths slice))
      ∙ get_or-eq_default (map (λ p. passes r.core (packet_of p)) (packet_bytes lengths slice)) false (omega (arith, h, packets_long lengths slice, length-map (packet_bytes lengths slice) (λ p. passes r.core (packet_of p))))

  -- "a 64-bit number"
  pub ran_small : m < 2 ^ 64
  ran_small = omega (arith, r.mask, mask_below (λ p. passes r.core (packet_of p)) (packet_bytes lengths slice) 64 (omega (arith, few, packets_long lengths slice)))

  -- a packet by itself
  pub ran_alone : (i : ℕ) → i < length lengths → let p : List ℕ = get_or (packet_bytes lengths slice) i [] in run_packets bs room p (length p ∷ []) ≡ ok (bit (bit_at i m))
  ran_alone i h =
      let p : List ℕ = get_or (packet_bytes lengths slice) i [] in
      let whole : take (length p) p ≡ p = take-length p in
      let own : bit_at i m ≡ passes r.core (packet_of p) = ran_bit i h (packet_of p) (λ f _. refl) in
      ap (λ x. and_then x (answered p)) r.read
      ∙ ap (λ b. and_then (need b 48 0) λ _. narrow p) r.test
      ∙ ap (λ (q : List ℕ). and_then (and_then (need (leb r.fields (8 * length q)) 50 0) λ _. ok tt) λ _. ok (bit (passes r.core (packet_of q)) + 2 * 0)) whole
      ∙ ap (λ b. and_then (and_then (need b 50 0) λ _. ok tt) λ _. ok (bit (passes r.core (packet_of p)) + 2 * 0)) (le-leb r.fields (8 * length p) (wide_at i h))
      ∙ ap ok (plus_none (bit (passes r.core (packet_of p)))) ∙ ap (λ b. ok (bit b)) (sym own)
    where
      answered : List ℕ → Core × ℕ → Answer ℕ
      answered p q =
          and_then (need (is_test q.0) 48 0) λ _. and_then (need true 49 0) λ _. and_then (wide_enough q.1 (packet_bytes (length p ∷ []) p) 0) λ _.
          ok (passing q.0 (packet_bytes (length p ∷ []) p))

      narrow : List ℕ → Answer ℕ
      narrow p = and_then (wide_enough r.fields (packet_bytes (length p ∷ []) p) 0) λ _. ok (passing r.core (packet_bytes (length p ∷ []) p))

      plus_none : (n : ℕ) → n + 2 * 0 ≡ n
      plus_none n = omega arith

-- ## The first packet that is too short

short_forth : (n : ℕ) (ps : List (List ℕ)) (at i : ℕ) → FirstShort n ps i → wide_enough n ps at ≡ refuse 50 (at + i)
short_forth n [] at i s = absurd (omega (arith, s.packet))
short_forth n (p ∷ ps) at zero s =
    let same : at ≡ at + 0 = omega arith in
    ap (λ b. and_then (need b 50 at) λ _. wide_enough n ps (at + 1)) (lt-leb n (8 * length p) s.short) ∙ ap (refuse 50) same
short_forth n (p ∷ ps) at (suc i) s =
    let same : at + 1 + i ≡ at + suc i = omega arith in
    ap (λ b. and_then (need b 50 at) λ _. wide_enough n ps (at + 1)) (le-leb n (8 * length p) (s.least 0 (omega arith)))
    ∙ short_forth n ps (at + 1) i (record { packet = omega (arith, s.packet); short = s.short; least = λ j h. s.least (suc j) (omega (arith, h)) })
    ∙ ap (refuse 50) same

-- a refusal by it
record ShortAt (n : ℕ) (ps : List (List ℕ)) (at k q : ℕ) : Type 0 where
  index : ℕ
  number : k ≡ 50
  place : q ≡ at + index
  first : FirstShort n ps index

short_back : (n : ℕ) (ps : List (List ℕ)) (at k q : ℕ) → wide_enough n ps at ≡ refuse k q → ShortAt n ps at k q
short_back n [] at k q e = let z : ◌≡◌ {A = ℕ} 0 1 = cc in absurd (omega arith)
short_back n (p ∷ ps) at k q e = go (leb n (8 * length p)) refl (short_back n ps (at + 1) k q) e
  where
    go : (b : Bool) → leb n (8 * length p) ≡ b → (wide_enough n ps (at + 1) ≡ refuse k q → ShortAt n ps (at + 1) k q)
        → (and_then (need b 50 at) λ _. wide_enough n ps (at + 1)) ≡ refuse k q → ShortAt n (p ∷ ps) at k q
    go true h rest d =
        let s = rest d in
        record {
          index = suc s.index;
          number = s.number;
          place = omega (arith, s.place);
          first = record {
            packet = omega (arith, s.first.packet);
            short = s.first.short;
            least = least h s.first.least;
          };
        }
      where
        least : leb n (8 * length p) ≡ true → {i : ℕ} → ((j : ℕ) → j < i → n ≤ 8 * length (get_or ps j [])) → (j : ℕ) → j < suc i → n ≤ 8 * length (get_or (p ∷ ps) j [])
        least h k zero l = leb-true n (8 * length p) h
        least h k (suc j) l = k j (omega (arith, l))
    go false h rest d =
        let number : 50 ≡ k = cc in
        let place : at ≡ q = cc in
        record {
          index = 0;
          number = sym number;
          place = omega (arith, place);
          first = record { packet = omega arith; short = leb-false n (8 * length p) h; least = λ j l. absurd (omega (arith, l)) };
        }

pub short_is : (n : ℕ) (ps : List (List ℕ)) (i : ℕ) → FirstShort n ps i → wide_enough n ps 0 ≡ refuse 50 i
short_is n ps i s = let same : 0 + i ≡ i = omega arith in short_forth n ps 0 i s ∙ ap (refuse 50) same

pub short_of : (n : ℕ) (ps : List (List ℕ)) (k q : ℕ) → wide_enough n ps 0 ≡ refuse k q → (k ≡ 50) × FirstShort n ps q
short_of n ps k q e = let s = short_back n ps 0 k q e in let same : s.index ≡ q = omega (arith, s.place) in (s.number, subst (FirstShort n ps) same s.first)

-- "Packets lie end to end in one slice"
pub packet_lies : (i : ℕ) (ns s : List ℕ) → i < length ns → get_or (packet_bytes ns s) i [] ≡ take (get_or ns i 0) (drop (start_of i ns) s)
packet_lies i [] s h = absurd (omega (arith, h))
packet_lies zero (n ∷ ns) s h = refl
packet_lies (suc i) (n ∷ ns) s h = packet_lies i ns (drop n s) (omega (arith, h)) ∙ ap (λ (l : List ℕ). take (get_or ns i 0) l) (drop-drop (start_of i ns) n s)
