-- The map and the kind of a record, behind the byte of the map and the number that says the kind.
use mathlib.Core.Path.{◌≡◌, refl, sym, ap, subst, ◌∙◌}
use mathlib.Core.Bool.{true, false}
use Prim.Native.Nat.{ℕ, ◌%◌, ◌≤◌}
use native.Mathlib.Omega.{arith}
use borrow.Author.Tests.{le-leb}
use lib.Dec.{leb, eqb}
use Rattle.std.specs.Prelude.{Result, Ok, Err}
use Rattle.refusals.specs.declared.Refusal.{Refusal}
use Rattle.refusals.specs.declared.Refusal.TheVariants.{ForeignField}
use Rattle.literals.specs.Bits.{bit_at}
use Rattle.literals.specs.Reading.{got}
use Rattle.expr.specs.Kinds.{kind_number}
use Rattle.expr.specs.Results.{ahead, none_foreign, ByteFound, NumberFound, KindFound}
use Rattle.expr.specs.declared.kind.Kind.{Kind}
use Rattle.expr.specs.declared.reader.Reader.{Reader}
use Rattle.expr.proofs.KindNumbers.{kind_small}
use Rattle.expr.proofs.Numbers.{bit_zero}
use Rattle.expr.proofs.Steps.{onward, faulted, denied, asked, Tested, test_faulted, test_passed}

module _ {r r₁ : Reader} {m : ℕ} (map : ByteFound r r₁ (Ok m)) where
  -- the kind stands where bit 0 does
  stands : {r₂ : Reader} {x : Result ℕ Refusal} → NumberFound 1 (eqb (m % 2) 1) r₁ r₂ x → NumberFound 1 (bit_at 0 m) r₁ r₂ x
  stands {r₂} {x} n = subst (λ b. NumberFound 1 b r₁ r₂ x) (bit_zero m) n

  pub number_ends : {r₂ : Reader} {e : Refusal} → NumberFound 1 (eqb (m % 2) 1) r₁ r₂ (Err e) → KindFound r r₂ (Err e)
  number_ends n =
      record {
        answer = onward _ map.answer (faulted _ (test_faulted (λ v. leb v 26) 2 refl (stands n)));
        same = n.found.same ∙ map.same;
        inside = n.found.inside;
      }

  module _ {r₂ : Reader} {n : ℕ} (number : NumberFound 1 (eqb (m % 2) 1) r₁ r₂ (Ok n)) where
    same : r₂.bytes.now ≡ r.bytes.now
    same = number.found.same ∙ map.same

    module _ (k : Kind) (is : kind_number k ≡ n) where
      -- a kind's number is 26 at most
      known : got n (ahead r₂) ≡ Tested (bit_at 0 m) (λ v. leb v 26) 2 (ahead r₁)
      known = test_passed (λ v. leb v 26) 2 refl (stands number) (le-leb n 26 (subst (λ v. v ≤ 26) is (kind_small k)))

      pub kind_foreign : false ≡ none_foreign (kind_number k) m → KindFound r r₂ (Err ForeignField)
      kind_foreign e =
          record {
            answer = onward _ map.answer (onward _ known (denied 3 _ _ (ap (λ v. none_foreign v m) (sym is) ∙ sym e)));
            same = same;
            inside = omega arith;
          }

      pub kind_found : true ≡ none_foreign (kind_number k) m → KindFound r r₂ (Ok (m, k))
      kind_found e =
          record {
            answer =
                onward _ map.answer
                (onward _ known (asked 3 _ _ (ap (λ v. none_foreign v m) (sym is) ∙ sym e) (λ i. got (m, is i) (ahead r₂))));
            same = same;
            inside = omega (arith, map.inside, number.found.inside);
          }
