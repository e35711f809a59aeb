-- What running packets through a core answers, by what its parts say.
use mathlib.Core.Path.{◌≡◌, refl, sym, ap, subst, ◌∙◌}
use mathlib.Core.Bool.{Bool, true, false, not, ◌&&◌, ◌||◌, false≢true}
use mathlib.Core.List.{List, [], ◌∷◌}
use Prim.Native.Nat.{ℕ, ◌+◌, ◌*◌, ◌≤◌}
use native.Mathlib.Omega.{arith}
use borrow.Author.Tests.{le-leb, lt-leb, ltb-true, ltb-false, leb-true, not-true, not-false}
use lib.Dec.{leb, ltb}
use lib.ListN.{length}
use Rattle.std.specs.Prelude.{Result, Ok, Err}
use Rattle.refusals.specs.Refusals.{number_of}
use Rattle.refusals.specs.declared.Refused.{Refused}
use Rattle.std.specs.Prelude.{Some, None}
use Rattle.literals.specs.Bits.{Bytes}
use Rattle.expr.specs.Answers.{Answer, ok, refuse, and_then, need}
use Rattle.expr.specs.Terms.{Core, size}
use Rattle.expr.proofs.Places.{Placed, placed_then, placed_need}
use Rattle.desugar.specs.Negation.{is_test}
use Rattle.cores.specs.Reading.{max_core, read_core}
use Rattle.cores.specs.Results.{counts_of}
use Rattle.packets.specs.Running.{max_packets, packet_bytes, wide_enough, passing, run_packets}
use Rattle.packets.specs.Results.{pass_answer, PassOf, Passed, ShortFound}
use Rattle.packets.specs.declared.Pass.{Pass}
use Rattle.cores.proofs.CoreForm.{read_as}
use Rattle.cores.proofs.CorePlaces.{read_placed}
use Rattle.packets.proofs.PacketLaws.{packets_long}

module _ (s : List ℕ) (room : ℕ) (slice lengths : List ℕ) where
  -- what is answered of a core and its field count
  abbrev behind : Core × ℕ → Answer ℕ
  behind r =
      and_then (need (is_test r.0) 48 0) λ _.
      and_then (need (leb 1 (length lengths) && leb (length lengths) max_packets) 49 0) λ _.
      and_then (wide_enough r.1 (packet_bytes lengths slice) 0) λ _.
      ok (passing r.0 (packet_bytes lengths slice))

  -- the core was refused
  pub ran_refused : {ps : List (List ℕ)} (e : Refused) → Passed s room ps (Err e) → refuse (number_of e.refusal) e.place ≡ run_packets s room slice lengths
  ran_refused e p = go (read_core s room) p.answer
    where
      go : (x : Answer (Core × ℕ)) → refuse (number_of e.refusal) e.place ≡ counts_of x → refuse (number_of e.refusal) e.place ≡ and_then x behind
      go (ok q) d = let z : ◌≡◌ {A = ℕ} 0 1 = cc in absurd (omega arith)
      go (refuse m j) d = cc

  -- the core was read, and these are its fields, whether it is a test, and its mask
  pub record Read (ps : List (List ℕ)) (d : Pass) : Type 0 where
    core : Core
    read : read_core s room ≡ ok (core, d.fields)
    test : d.test ≡ is_test core
    mask : d.mask ≡ passing core ps

  pub read_of : {ps : List (List ℕ)} (d : Pass) → Passed s room ps (Ok d) → Read ps d
  read_of {ps} d p = go (read_core s room) refl p.answer
    where
      go : (x : Answer (Core × ℕ)) → read_core s room ≡ x → ok (d.count, d.fields) ≡ counts_of x → Read ps d
      go (refuse m j) h k = let z : ◌≡◌ {A = ℕ} 0 1 = cc in absurd (omega arith)
      go (ok q) h k =
          let pair : ◌≡◌ {A = ℕ × ℕ} (d.count, d.fields) (size q.0, q.1) = cc in
          let fields : d.fields ≡ q.1 = ap (λ y. y.1) pair in
          let own : PassOf q.0 ps (Ok d) = p.core q.0 (read_as s room q h).is in
          record { core = q.0; read = h ∙ ap (λ n. ok (q.0, n)) (sym fields); test = own.0; mask = own.1 }

  module _ {ps : List (List ℕ)} {d : Pass} (q : Read ps d) where
    -- what is left to answer
    abbrev left : Bool → Bool → Answer ℕ
    left t f =
        and_then (need t 48 0) λ _. and_then (need f 49 0) λ _. and_then (wide_enough d.fields (packet_bytes lengths slice) 0) λ _.
        ok (passing q.core (packet_bytes lengths slice))

    opened : (t f : Bool) → d.test ≡ t → (leb 1 (length lengths) && leb (length lengths) max_packets) ≡ f → run_packets s room slice lengths ≡ left t f
    opened t f h k = ap (λ x. and_then x behind) q.read ∙ λ i. left ((sym q.test ∙ h) i) (k i)

    pub ran_no_test : not d.test ≡ true → refuse 48 0 ≡ run_packets s room slice lengths
    ran_no_test h = sym (opened false _ (not-true d.test h) refl)

    module _ (no : not d.test ≡ false) where
      t : d.test ≡ true
      t = not-false d.test no

      -- one comparison is wrong
      pub ran_count : (ltb (length lengths) 1 || ltb max_packets (length lengths)) ≡ true → refuse 49 0 ≡ run_packets s room slice lengths
      ran_count h = sym (opened true false t (go (ltb (length lengths) 1) refl (ltb max_packets (length lengths)) refl h))
        where
          go : (x : Bool) → ltb (length lengths) 1 ≡ x → (y : Bool) → ltb max_packets (length lengths) ≡ y → (x || y) ≡ true
              → (leb 1 (length lengths) && leb (length lengths) max_packets) ≡ false
          go true e y f k = ap (λ b. b && leb (length lengths) max_packets) (lt-leb 1 (length lengths) (ltb-true (length lengths) 1 e))
          go false e true f k = λ i. le-leb 1 (length lengths) (ltb-false (length lengths) 1 e) i && lt-leb (length lengths) max_packets (ltb-true max_packets (length lengths) f) i
          go false e false f k = absurd (false≢true k)

      module _ (c : (ltb (length lengths) 1 || ltb max_packets (length lengths)) ≡ false) where
        neither : (x y : Bool) → (x || y) ≡ false → (x ≡ false) × (y ≡ false)
        neither true y k = absurd (false≢true (sym k))
        neither false y k = (refl, k)

        both : (ltb (length lengths) 1 ≡ false) × (ltb max_packets (length lengths) ≡ false)
        both = neither (ltb (length lengths) 1) (ltb max_packets (length lengths)) c

        some : 1 ≤ length lengths
        some = ltb-false (length lengths) 1 both.0

        pub ran_few : length lengths ≤ max_packets
        ran_few = ltb-false max_packets (length lengths) both.1

        going : run_packets s room slice lengths ≡ left true true
        going = opened true true t (λ i. le-leb 1 (length lengths) some i && le-leb (length lengths) max_packets ran_few i)

        pub ran_short : {i : ℕ} → ShortFound d.fields (packet_bytes lengths slice) (Some i) → refuse 50 i ≡ run_packets s room slice lengths
        ran_short w = sym (going ∙ ap (λ x. and_then x λ _. ok (passing q.core (packet_bytes lengths slice))) w)

        pub ran_good : ShortFound d.fields (packet_bytes lengths slice) None → ps ≡ packet_bytes lengths slice → ok d.mask ≡ run_packets s room slice lengths
        ran_good w e = ap ok (q.mask ∙ ap (passing q.core) e) ∙ sym (going ∙ ap (λ x. and_then x λ _. ok (passing q.core (packet_bytes lengths slice))) w)

-- ## Places

wide_placed : (m n : ℕ) (ps : List (List ℕ)) (at : ℕ) → at + length ps ≤ m → Placed m (wide_enough n ps at)
wide_placed m n [] at h = tt
wide_placed m n (p ∷ ps) at h =
    placed_then m (need (leb n (8 * length p)) 50 at) _ (placed_need m (leb n (8 * length p)) 50 at (omega arith)) (λ _. wide_placed m n ps (at + 1) (omega arith))

-- a refusal's place is a record's index, or a packet's
pub run_placed : (s : List ℕ) (room : ℕ) (slice lengths : List ℕ) → Bytes s → Placed (max_core + 1) (run_packets s room slice lengths)
run_placed s room slice lengths b =
    placed_then (max_core + 1) (read_core s room) _ (read_placed s room b) (λ r.
    placed_then (max_core + 1) (need (is_test r.0) 48 0) _ (placed_need (max_core + 1) (is_test r.0) 48 0 (omega arith)) (λ _.
    counted r.0 r.1 (leb 1 (length lengths)) (leb (length lengths) max_packets) refl))
  where
    counted : (c : Core) (n : ℕ) (x y : Bool) → leb (length lengths) max_packets ≡ y
        → Placed (max_core + 1) (and_then (need (x && y) 49 0) λ _. and_then (wide_enough n (packet_bytes lengths slice) 0) λ _. ok (passing c (packet_bytes lengths slice)))
    counted c n false y e = omega arith
    counted c n true false e = omega arith
    counted c n true true e =
        placed_then (max_core + 1) (wide_enough n (packet_bytes lengths slice) 0) _
        (wide_placed (max_core + 1) n (packet_bytes lengths slice) 0 (omega (arith, packets_long lengths slice, leb-true (length lengths) max_packets e))) (λ _. tt)
