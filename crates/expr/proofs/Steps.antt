-- What a reader answers, from what its parts answer one after the other.
use mathlib.Core.Path.{◌≡◌, refl, ap, ◌∙◌}
use mathlib.Core.Bool.{Bool, true, false, cond}
use mathlib.Core.List.{List}
use Prim.Native.Nat.{ℕ}
use Rattle.std.specs.Prelude.{Ok, Err}
use Rattle.refusals.specs.Refusals.{number_of}
use Rattle.refusals.specs.declared.Refusal.{Refusal}
use Rattle.literals.specs.Reading.{Read, got, fault, Reads, go_on, ◌>>=◌, give, ask, nonzero}
use Rattle.expr.specs.Results.{ahead, NumberFound}
use Rattle.expr.specs.declared.reader.Reader.{Reader}

-- ## One part

module _ {A B : Type 0} {x : Read A} (f : A → Reads B) where
  pub faulted : {r : ℕ} → fault r ≡ x → fault r ≡ go_on x f
  faulted e = ap (λ y. go_on y f) e

  pub onward : {a : A} {rest : List ℕ} {z : Read B} → got a rest ≡ x → z ≡ f a rest → z ≡ go_on x f
  onward e k = k ∙ ap (λ y. go_on y f) e

-- a question
module _ {B : Type 0} {b : Bool} (r : ℕ) (bs : List ℕ) (f : Unit {0} → Reads B) where
  pub denied : b ≡ false → fault r ≡ go_on (ask b r bs) f
  denied e = rw e refl

  pub asked : b ≡ true → {z : Read B} → z ≡ f tt bs → z ≡ go_on (ask b r bs) f
  asked e k = rw e k

-- a number of one byte that must pass the test t, and 0 where its bit b does not stand
abbrev pub Tested : Bool → (ℕ → Bool) → ℕ → Reads ℕ
Tested b t r = cond b (nonzero 1 >>= λ v. ask (t v) r >>= λ _. give v) (give 0)

module _ (t : ℕ → Bool) (r : ℕ) (none : t 0 ≡ true) where
  tested_is : (b : Bool) (bs : List ℕ) → go_on (cond b (nonzero 1) (give 0) bs) (λ v. ask (t v) r >>= λ _. give v) ≡ Tested b t r bs
  tested_is true bs = refl
  tested_is false bs = rw none refl

  module _ {b : Bool} {before after : Reader} where
    pub test_faulted : {q : Refusal} → NumberFound 1 b before after (Err q) → fault (number_of q) ≡ Tested b t r (ahead before)
    test_faulted f = faulted _ f.found.answer ∙ tested_is b (ahead before)

    pub test_passed : {v : ℕ} → NumberFound 1 b before after (Ok v) → t v ≡ true → got v (ahead after) ≡ Tested b t r (ahead before)
    test_passed f e = onward _ f.found.answer (asked r _ _ e refl) ∙ tested_is b (ahead before)

-- ## Parts of parts

-- reading on behind a reader of two parts is reading on behind its second
pub regrouped : {A B C : Type 0} (x : Read A) (f : A → Reads B) (g : B → Reads C) → go_on (go_on x f) g ≡ go_on x (λ a rest. go_on (f a rest) g)
regrouped (got a rest) f g = refl
regrouped (fault r) f g = refl
