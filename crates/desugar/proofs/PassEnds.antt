-- The forward pass at its first record, and past its last.
use mathlib.Core.Path.{◌≡◌, refl, sym, ap, ◌∙◌}
use mathlib.Core.Bool.{Bool, true, ◌&&◌}
use mathlib.Core.List.{List, [], ◌∷◌, ◌++◌, append-nil}
use Prim.Native.Nat.{ℕ, ◌+◌, ◌*◌, ◌-◌, ◌≤◌, ◌<◌}
use native.Mathlib.Omega.{arith}
use lib.ListN.{length, set, length-set}
use borrow.Author.Tests.{le-leb, lt-leb}
use Rattle.expr.specs.Terms.{Core, size}
use Rattle.std.specs.Prelude.{Some, None}
use Rattle.desugar.specs.Negation.{negate}
use Rattle.desugar.specs.Memory.{words, size_all}
use Rattle.desugar.specs.declared.test_negation.places.Places.{Places}
use Rattle.desugar.specs.declared.test_negation.negated.Next.{Next}
use Rattle.desugar.specs.declared.test_negation.modes.Mode.TheVariants.{Negate}
use Rattle.desugar.specs.NegationRun.{notes_of, Noted, Task, task, emit_all, cores_of, Run, within, Result}
use Rattle.desugar.proofs.Regions.{moved, under, stored, none, length_words, size_pos}
use Rattle.desugar.proofs.Forest.{notes_long}

pub begin : {xs : List ℕ} {t : Core} (p : Places) → p.out + 3 * p.limit ≤ length xs → Noted xs p t → Run (set xs (p.modes + p.core.count - 1) 0) t p 0 (record { top = p.modes + p.core.count - 1; made = 0 })
begin {xs} {t} p room h =
    let some : 1 ≤ p.core.count = omega (arith, h.lies.count, size_pos t) in
    record {
      plan = task Negate t ∷ [];
      test = ap (λ (b : Bool). b && true) h.test;
      records = moved (under (p.modes + p.core.count - 1) (0 ∷ []) (omega (arith, length_words t, h.lies.count, p.notes_at, p.modes_at)) h.lies.holds) (omega arith) (sym (append-nil (words t)));
      noted = moved (under (p.modes + p.core.count - 1) (0 ∷ []) (omega (arith, notes_long t, h.lies.count, p.modes_at)) h.noted) (omega arith) (sym (append-nil (notes_of t)));
      stack = stored xs (p.modes + p.core.count - 1) (0 ∷ []) (omega (arith, p.out_at, room));
      depth = omega arith;
      left = omega (arith, h.lies.count);
      done = [];
      written = none (set xs (p.modes + p.core.count - 1) 0) p.out (omega (arith, length-set xs (p.modes + p.core.count - 1) 0, room));
      long = refl;
      goal = append-nil (words (negate t));
    }

no_plan : (plan : List Task) → size_all (cores_of plan) ≡ 0 → emit_all plan ≡ []
no_plan [] e = refl
no_plan (task m c ∷ ts) e = absurd (omega (arith, size_pos c))

module _ {xs : List ℕ} {t : Core} {p : Places} {j : ℕ} {s : Next} (few : s.made ≤ p.limit) (l : p.core.count ≤ j) (r : Run xs t p j s) where
  all_done : r.done ≡ words (negate t)
  all_done = sym (append-nil r.done) ∙ ap (λ (e : List ℕ). r.done ++ e) (sym (no_plan r.plan (omega (arith, r.left)))) ∙ r.goal

  made_is : s.made ≡ size (negate t)
  made_is = omega (arith, r.long, ap length all_done, length_words (negate t))

  pub ended : Result xs t p.out p.limit (Some s.made)
  ended = record {
    is = rw made_is (sym (ap (λ (b : Bool). within b (size (negate t))) (le-leb (size (negate t)) p.limit (omega (arith, made_is)))));
    holds = λ h. moved r.written refl all_done;
  }

pub too_large : {xs : List ℕ} {t : Core} {out limit : ℕ} → limit < size (negate t) → Result xs t out limit None
too_large {xs} {t} {out} {limit} h = record {
  is = sym (ap (λ (b : Bool). within b (size (negate t))) (lt-leb (size (negate t)) limit h));
  holds = λ b. absurd (omega arith);
}

pub some_records : {xs : List ℕ} {p : Places} (t : Core) → Noted xs p t → 1 ≤ p.core.count
some_records t h = omega (arith, h.lies.count, size_pos t)
