-- A record is read in stages: the map and the kind, the name and the range, the pattern and the number, then the literals.
use mathlib.Core.Path.{◌≡◌, refl, sym, ap, ◌∙◌}
use mathlib.Core.Bool.{cond}
use mathlib.Core.List.{List, []}
use Prim.Native.Nat.{ℕ, ◌+◌, ◌≤◌}
use native.Mathlib.Omega.{arith}
use lib.ListN.{length, drop}
use Rattle.std.specs.Prelude.{Ok, Err}
use Rattle.refusals.specs.declared.Refusal.{Refusal}
use Rattle.literals.specs.Bits.{Bits, bit_at}
use Rattle.literals.specs.Reading.{got, Reads, go_on, ◌>>=◌, give, literal}
use Rattle.literals.specs.declared.Literal.{Literal}
use Rattle.expr.specs.Records.{Record, read_record}
use Rattle.expr.specs.Kinds.{kind_number, pattern_number}
use Rattle.expr.specs.Results.{AtStart, ahead, Found, LiteralField, KindFound, RangeFound, PatternFound, read_kind, read_range, read_pattern, bits_of, RecordFound}
use Rattle.expr.specs.declared.kind.Kind.{Kind}
use Rattle.expr.specs.declared.kind.Pattern.{Pattern}
use Rattle.expr.specs.declared.reader.Reader.{Reader}
use Rattle.expr.proofs.Steps.{regrouped, onward, faulted}

-- what is read behind each stage
module _ (m k : ℕ) where
  abbrev pub made : ℕ × ℕ × ℕ → ℕ × ℕ → Bits → Bits → Record
  made range chosen a b =
      record {
        kind = k;
        name = range.0;
        start = range.1;
        end = range.2;
        pattern = chosen.0;
        number = chosen.1;
        lit_a = a;
        lit_b = b;
      }

  abbrev pub after_first : ℕ × ℕ × ℕ → ℕ × ℕ → Bits → Reads Record
  after_first range chosen a = cond (bit_at 7 m) literal (give []) >>= λ b. give (made range chosen a b)

  abbrev pub after_pattern : ℕ × ℕ × ℕ → ℕ × ℕ → Reads Record
  after_pattern range chosen = cond (bit_at 6 m) literal (give []) >>= after_first range chosen

  abbrev pub after_range : ℕ × ℕ × ℕ → Reads Record
  after_range range = read_pattern m k >>= after_pattern range

  abbrev pub after_kind : Reads Record
  after_kind = read_range m >>= after_range

pub record_stages : (s : List ℕ) → read_record s ≡ go_on (read_kind s) (λ p. after_kind p.0 p.1)
record_stages s = simp regrouped

-- what q reads of the bytes that are next is the record at the front of the bytes s, of which n at least are read
pub record Left (s : List ℕ) (n : ℕ) (q : Reads Record) (r : Reader) : Type 0 where
  pub answer : q (ahead r) ≡ read_record s
  pub same : r.bytes.now ≡ s
  pub some : n ≤ r.at

module _ {s : List ℕ} {n m : ℕ} {A B : Type 0} {p : Reads B} (q : B → Reads Record) {r r' : Reader} (l : Left s n (p >>= q) r) {f : A → B} where
  stops : {e : Refusal} → Found p f m r r' (Err e) → RecordFound s (Err e)
  stops d = record { answer = faulted q d.answer ∙ l.answer; inside = d.inside }

  goes_on : {a : A} → Found p f m r r' (Ok a) → Left s (n + m) (q (f a)) r'
  goes_on d =
      record {
        answer = onward q d.answer refl ∙ l.answer;
        same = d.same ∙ l.same;
        some = omega (arith, l.some, d.inside);
      }

-- what the whole answers, by the stage that it ends with
module _ {s : List ℕ} {r₀ : Reader} (start : AtStart s r₀) where
  at_start : Left s 0 (read_kind >>= λ p. after_kind p.0 p.1) r₀
  at_start =
      record {
        answer = (λ i. go_on (read_kind (drop (start.first i) (start.same i))) (λ p. after_kind p.0 p.1)) ∙ sym (record_stages s);
        same = start.same;
        some = omega arith;
      }

  pub kind_ends : {r : Reader} {e : Refusal} → KindFound r₀ r (Err e) → RecordFound s (Err e)
  kind_ends = stops _ at_start

  module _ {r₁ : Reader} {k : ℕ × Kind} (kind : KindFound r₀ r₁ (Ok k)) where
    pub at_range : Left s 1 (after_kind k.0 (kind_number k.1)) r₁
    at_range = goes_on (λ p. after_kind p.0 p.1) at_start kind

    pub range_ends : {r : Reader} {e : Refusal} → RangeFound k.0 r₁ r (Err e) → RecordFound s (Err e)
    range_ends = stops _ at_range

    module _ {r₂ : Reader} {v : ℕ × ℕ × ℕ} (range : RangeFound k.0 r₁ r₂ (Ok v)) where
      at_pattern : Left s 1 (after_range k.0 (kind_number k.1) v) r₂
      at_pattern = goes_on (after_range k.0 (kind_number k.1)) at_range range

      pub pattern_ends : {r : Reader} {e : Refusal} → PatternFound k.0 (kind_number k.1) r₂ r (Err e) → RecordFound s (Err e)
      pattern_ends = stops _ at_pattern

      module _ {r₃ : Reader} {p : Pattern × ℕ} (pattern : PatternFound k.0 (kind_number k.1) r₂ r₃ (Ok p)) where
        abbrev chosen : ℕ × ℕ
        chosen = (pattern_number p.0, p.1)

        at_first : Left s 1 (after_pattern k.0 (kind_number k.1) v chosen) r₃
        at_first = goes_on (after_pattern k.0 (kind_number k.1) v) at_pattern pattern

        pub first_ends : {r : Reader} {e : Refusal} → LiteralField (bit_at 6 k.0) r₃ r (Err e) → RecordFound s (Err e)
        first_ends l = stops _ at_first l.found

        module _ {r₄ : Reader} {a : Literal} (first : LiteralField (bit_at 6 k.0) r₃ r₄ (Ok a)) where
          at_second : Left s 1 (after_first k.0 (kind_number k.1) v chosen (bits_of r₃.bytes.now a)) r₄
          at_second = goes_on (after_first k.0 (kind_number k.1) v chosen) at_first first.found

          pub second_ends : {r : Reader} {e : Refusal} → LiteralField (bit_at 7 k.0) r₄ r (Err e) → RecordFound s (Err e)
          second_ends l = stops _ at_second l.found

          pub record_ends : {r₅ : Reader} {b : Literal} → LiteralField (bit_at 7 k.0) r₄ r₅ (Ok b)
              → RecordFound s (Ok (record {
                kind = k.1;
                name = v.0;
                start = v.1;
                end = v.2;
                pattern = p.0;
                number = p.1;
                a = a;
                b = b;
                size = r₅.at;
              }))
          record_ends {r₅} {b} second =
              let whole : Left s 1 (give (made k.0 (kind_number k.1) v chosen (bits_of r₃.bytes.now a) (bits_of r₄.bytes.now b))) r₅ =
              goes_on (λ b. give (made k.0 (kind_number k.1) v chosen (bits_of r₃.bytes.now a) b)) at_second second.found in
              let i₁ = first.inside in
              let i₂ = second.inside in
              let same₁ : length r₃.bytes.now ≡ length s = ap length at_first.same in
              let same₂ : length r₄.bytes.now ≡ length s = ap length at_second.same in
              record {
                answer =
                    (λ i. got (made k.0 (kind_number k.1) v chosen (bits_of (sym at_first.same i) a) (bits_of (sym at_second.same i) b)) (drop r₅.at (sym whole.same i)))
                    ∙ whole.answer;
                inside = (whole.some, omega (arith, r₅.inside, ap length whole.same), omega arith, omega arith, i₁.3, i₂.3);
              }
