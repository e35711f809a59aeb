-- The answer of a whole negation from the answers of its parts.
use mathlib.Core.Path.{◌≡◌, refl, sym, ap, ◌∙◌}
use mathlib.Core.Bool.{Bool, true, false, true≢false}
use mathlib.Core.List.{List}
use Prim.Native.Nat.{ℕ, ◌*◌, ◌≤◌}
use native.Mathlib.Omega.{arith}
use borrow.Author.Tests.{leb-true, le-leb}
use lib.Dec.{leb}
use lib.ListN.{length}
use Rattle.expr.specs.Terms.{Core, size}
use Rattle.std.specs.Prelude.{Option, Some, None, Ok, Err}
use Rattle.desugar.specs.declared.test_negation.NegationError.TheVariants.{NotTest, TooLarge}
use Rattle.desugar.specs.Negation.{is_test, negate}
use Rattle.desugar.specs.Memory.{words, Holds, Kept, Lies}
use Rattle.desugar.specs.declared.test_negation.places.Places.{Places}
use Rattle.desugar.specs.NegationOutcome.{Negates}
use Rattle.desugar.specs.NegationRun.{notes_of, Noted, within, Result}
use Rattle.desugar.proofs.Regions.{kept_holds, length_words}

-- ## What an answer says

within_size : (b : Bool) (n s : ℕ) → Some s ≡ within b n → (s ≡ n) × (b ≡ true)
within_size true n s e = (cc, refl)
within_size false n s e = let z : ◌≡◌ {A = ℕ} 0 1 = cc in absurd (omega arith)

within_large : (b : Bool) (n : ℕ) → None ≡ within b n → b ≡ false
within_large false n e = refl
within_large true n e = let z : ◌≡◌ {A = ℕ} 0 1 = cc in absurd (omega arith)

pub size_is : {xs : List ℕ} {c : Core} {out limit s : ℕ} {r : Option ℕ} → Result xs c out limit r → r ≡ Some s → (s ≡ size (negate c)) × (size (negate c) ≤ limit)
size_is {xs} {c} {out} {limit} {s} h e =
    let w : (s ≡ size (negate c)) × (leb (size (negate c)) limit ≡ true) = within_size (leb (size (negate c)) limit) (size (negate c)) s (sym e ∙ h.is) in
    (w.0, leb-true _ _ w.1)

-- ## The three endings

pub no_test : {xs : List ℕ} {c : Core} {at limit : ℕ} → is_test c ≡ false → Negates xs c at limit (Err NotTest)
no_test e = record { is = rw e refl; holds = λ t l. absurd (true≢false (sym t ∙ e)) }

pub large : {xs : List ℕ} {c : Core} {at out limit : ℕ} {r : Option ℕ} → is_test c ≡ true → Result xs c out limit r → r ≡ None → Negates xs c at limit (Err TooLarge)
large {xs} {c} {at} {out} {limit} t h e =
    let w : leb (size (negate c)) limit ≡ false = within_large (leb (size (negate c)) limit) (size (negate c)) (sym e ∙ h.is) in
    record {
      is = rw (t, w);
      holds = λ u l. absurd (true≢false (sym (le-leb (size (negate c)) limit l) ∙ w));
    }

pub fits : {xs xs' : List ℕ} {c : Core} {at out limit s : ℕ} {r : Option ℕ} → is_test c ≡ true → Result xs c out limit r → r ≡ Some s
    → ((ys : List ℕ) → length ys ≡ 3 * s → Holds xs out ys → Holds xs' at ys) → Negates xs' c at limit (Ok s)
fits {xs} {xs'} {c} {at} {out} {limit} {s} t h e moved =
    let w : (s ≡ size (negate c)) × (size (negate c) ≤ limit) = size_is h e in
    record {
      is = rw (t, le-leb (size (negate c)) limit w.1, ← w.0);
      holds = λ u l. moved (words (negate c)) (length_words (negate c) ∙ ap (λ (k : ℕ). 3 * k) (sym w.0)) (h.holds l);
    }

-- ## The operand is noted where it lay

pub noted_after : {xs xs' : List ℕ} (p : Places) {b : Bool} → ((c : Core) → Lies xs p.core.at p.core.count c → b ≡ is_test c) → b ≡ true
    → Kept p.notes xs xs' → ((c : Core) → Lies xs p.core.at p.core.count c → is_test c ≡ true → Holds xs' p.notes (notes_of c))
    → (c : Core) → Lies xs p.core.at p.core.count c → Noted xs' p c
noted_after p asked e kept noted c lies = record {
  lies = record { holds = kept_holds kept (omega (arith, length_words c, lies.count, p.notes_at)) lies.holds; count = lies.count };
  test = sym (asked c lies) ∙ e;
  noted = noted c lies (sym (asked c lies) ∙ e);
}
