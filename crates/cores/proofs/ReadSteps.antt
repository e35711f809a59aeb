-- Both passes: what the first answers decides whether the second is run.
use mathlib.Core.Path.{◌≡◌, refl, sym, ap, ◌∙◌}
use mathlib.Core.List.{List}
use Prim.Native.Nat.{ℕ}
use native.Mathlib.Omega.{arith}
use lib.ListN.{length}
use Rattle.std.specs.Prelude.{Ok, Err}
use Rattle.refusals.specs.declared.Refused.{Refused}
use Rattle.cores.specs.declared.Counts.{Counts}
use Rattle.expr.specs.Answers.{Answer, ok, refuse, map_answer, buffer_after}
use Rattle.expr.specs.Terms.{Core}
use Rattle.desugar.specs.CoreRecords.{words}
use Rattle.cores.specs.Reading.{read_core}
use Rattle.cores.specs.Results.{core_answer, counts_of, Listable, Listed, ReadsBack}
use Rattle.cores.proofs.CoreForm.{read_as}

abbrev listed : Answer (Core × ℕ) → List ℕ → List ℕ
listed x list = buffer_after (map_answer (λ p. words p.0) x) list

-- a refusal leaves the list as it is
kept : (x : Answer (Core × ℕ)) (r : Refused) → core_answer (Err r) ≡ counts_of x → (list : List ℕ) → list ≡ listed x list
kept (ok p) r e list = let z : ◌≡◌ {A = ℕ} 0 1 = cc in absurd (omega arith)
kept (refuse m at) r e list = refl

-- no refusal: a core was read
core_read : (x : Answer (Core × ℕ)) (d : Counts) → core_answer (Ok d) ≡ counts_of x → (p : Core × ℕ) × (x ≡ ok p)
core_read (refuse m at) d e = let z : ◌≡◌ {A = ℕ} 0 1 = cc in absurd (omega arith)
core_read (ok p) d e = (p, refl)

module _ (s list : List ℕ) where
  pub back_refused : (r : Refused) → core_answer (Err r) ≡ counts_of (read_core s (length list)) → ReadsBack s list list (Err r)
  back_refused r e = record { answer = e; after = kept (read_core s (length list)) r e list }

  module _ (d : Counts) (e : core_answer (Ok d) ≡ counts_of (read_core s (length list))) where
    which : (p : Core × ℕ) × (read_core s (length list) ≡ ok p)
    which = core_read (read_core s (length list)) d e

    pub back_listable : Listable s list
    back_listable =
        let w = read_as s (length list) which.0 which.1 in
        record { core = which.0.0; is = w.is; room = w.fits }

    pub back_found : {list' : List ℕ} → Listed s list list' → ReadsBack s list list' (Ok d)
    back_found l = record {
      answer = e;
      after = l which.0.0 (read_as s (length list) which.0 which.1).is ∙ sym (ap (λ x. listed x list) which.1);
    }
