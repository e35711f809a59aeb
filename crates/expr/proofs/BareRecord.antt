-- A record with bit 0 alone in its map: a kind and nothing else, in two bytes.
use mathlib.Core.Path.{◌≡◌, refl, sym, ap, ◌∙◌}
use mathlib.Core.Bool.{Bool, true, false, not, true≢false}
use mathlib.Core.List.{List, [], ◌∷◌}
use Prim.Native.Nat.{ℕ, suc}
use native.Mathlib.Omega.{arith}
use lib.Dec.{leb, eqb}
use lib.ListN.{length, drop, length-drop}
use Rattle.std.specs.Prelude.{Ok}
use Rattle.expr.specs.Kinds.{kind_number}
use Rattle.literals.specs.Bits.{bit_at, number_of}
use Rattle.literals.specs.Reading.{got, nonzero}
use Rattle.literals.proofs.Logic.{or_right}
use Rattle.literals.proofs.Codec.{IfGot, if_got, got_bind, got_ask}
use Rattle.expr.specs.Records.{is_match}
use Rattle.expr.specs.Form.{plain_record}
use Rattle.expr.specs.Results.{none_foreign, ahead, AtStart, read_kind, KindFound, BareHead, RecordFound}
use Rattle.expr.specs.declared.kind.Kind.{Kind}
use Rattle.expr.specs.declared.reader.Reader.{Reader}
use Rattle.expr.specs.declared.records.Head.{Head}
use Rattle.expr.proofs.Steps.{Tested}
use Rattle.expr.proofs.Stages.{after_kind, Left, at_range}

-- behind the map and the kind nothing is read
bare_is : (k : ℕ) (bs : List ℕ) → got (plain_record k) bs ≡ after_kind 1 k bs
bare_is k bs = rw (or_right (not (is_match k)) true refl) refl

-- where the map is 1 the kind is a byte
abbrev OneByte : List ℕ → ℕ → ℕ → List ℕ → Type 0
OneByte bs m k rest = m ≡ 1 → length bs ≡ suc (length rest)

kind_byte : (m : ℕ) (b : Bool) (bs : List ℕ) → bit_at 0 m ≡ b → IfGot (OneByte bs m) (Tested b (λ k. leb k 26) 2 bs)
kind_byte m true [] e = tt
kind_byte m true (c ∷ bs) e =
    got_bind (OneByte (c ∷ bs) m) _ (nonzero 1 (c ∷ bs)) _ (got_ask _ (not (eqb (number_of (c ∷ [])) 0)) 4 _ bs (λ _ _. refl))
    (λ k rest h. got_ask _ (leb k 26) 2 _ rest (λ _. h))
kind_byte m false bs e = λ o. absurd (true≢false (sym (ap (bit_at 0) o) ∙ e))

-- so map and kind are two bytes
bare_size : (s : List ℕ) → IfGot (λ p rest. p.0 ≡ 1 → length s ≡ suc (suc (length rest))) (read_kind s)
bare_size [] = tt
bare_size (m ∷ bs) =
    got_bind (OneByte bs m) _ (Tested (bit_at 0 m) (λ k. leb k 26) 2 bs) _ (kind_byte m (bit_at 0 m) bs refl)
    (λ k rest h. got_ask _ (none_foreign k m) 3 _ rest (λ _ e. ap suc (h e)))

module _ {s : List ℕ} {r r' : Reader} (first : AtStart s r) {k : ℕ × Kind} (f : KindFound r r' (Ok k)) (e : k.0 ≡ 1) where
  abbrev left : Left s 1 (after_kind k.0 (kind_number k.1)) r'
  left = at_range first f

  front : ahead r ≡ s
  front = λ i. drop (first.first i) (first.same i)

  long : length s ≡ suc (suc (length (ahead r')))
  long = if_got (λ p rest. p.0 ≡ 1 → length s ≡ suc (suc (length rest))) (read_kind s) (bare_size s) (ap read_kind (sym front) ∙ sym f.answer) e

  -- the head of a kind alone is the record's
  pub bare_found : {h : Head} → BareHead (kind_number k.1) h → RecordFound s (Ok h)
  bare_found {h} b =
      let next : h.size ≡ r'.at = omega (arith, b.size, long, length-drop r'.at r'.bytes.now, ap length left.same, r'.inside) in
      record {
        answer =
            (λ i. got (b.same s i) (drop (next i) (sym left.same i))) ∙ bare_is (kind_number k.1) (ahead r')
            ∙ ap (λ m. after_kind m (kind_number k.1) (ahead r')) (sym e)
            ∙ left.answer;
        inside = b.inside s (omega (arith, long));
      }
