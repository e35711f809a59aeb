-- What Desugar wrote is read back; by which numbers and at which places reading is refused.
use mathlib.Core.Path.{◌≡◌, ap, subst, ◌∙◌}
use mathlib.Core.List.{List}
use Prim.Native.Nat.{ℕ, ◌+◌, ◌≤◌, ◌<◌}
use native.Mathlib.Omega.{arith}
use lib.ListN.{length, take}
use Rattle.literals.specs.Bits.{Bytes}
use Rattle.expr.specs.Answers.{Answer, ok, refuse}
use Rattle.expr.specs.Terms.{Core}
use Rattle.expr.proofs.FormTheorem.{decode_only}
use Rattle.expr.proofs.Places.{Placed}
use Rattle.desugar.specs.Desugar.{desugar_bytes, max_allowance}
use Rattle.cores.specs.Claims.{CoreNumber}
use Rattle.cores.specs.Reading.{CoreWithin, into_list, max_core, read_core}
use Rattle.cores.proofs.CoreForm.{read_back}
use Rattle.cores.proofs.CorePlaces.{read_placed}
use Rattle.cores.proofs.DesugaredCores.{desugared_within}
use Rattle.netkat.specs.Claims.{Desugared, Outcome, allowance, beyond, done, long, memory}
use Rattle.netkat.specs.Entry.{Answers, Desugar, HostsCore, ReadCore}
use Rattle.netkat.specs.declared.Answer.{Answer as HostAnswer}
use Rattle.netkat.proofs.Declines.{core_decided, core_declined_numbers}
use Rattle.netkat.proofs.Demands.{desugar_wrote}
use Rattle.netkat.proofs.Whole.{desugar_bytes_fact, desugared_bytes}

-- a total that was answered is within the greatest allowance
total_few : {c : Core} {ds : List (ℕ × ℕ)} {n work room : ℕ} {x : Answer (List ℕ × ℕ)} → Outcome c ds n work room x → {out : List ℕ} {m : ℕ} → x ≡ ok (out, m) → m ≤ max_allowance
total_few (done a w f l) e = let same = ap total e in omega (arith, a.1, f, same)
  where
    total : Answer (List ℕ × ℕ) → ℕ
    total (ok r) = r.1
    total (refuse q p) = 0
total_few (allowance h) e = let z : ◌≡◌ {A = ℕ} 0 1 = cc in absurd (omega arith)
total_few (memory h) e = let z : ◌≡◌ {A = ℕ} 0 1 = cc in absurd (omega arith)
total_few (beyond h) e = let z : ◌≡◌ {A = ℕ} 0 1 = cc in absurd (omega arith)
total_few (long h) e = let z : ◌≡◌ {A = ℕ} 0 1 = cc in absurd (omega arith)

module _ (bs : List ℕ) (b : Bytes bs) (n work room : ℕ) (out : List ℕ) (m : ℕ) (h : desugar_bytes bs n work room ≡ ok (out, m)) where
  pub made : Desugared bs out m
  made = desugared_bytes bs n work room out m h

  within : CoreWithin made.core
  within =
      let few : m ≤ max_allowance = total_few ((desugar_bytes_fact bs made.term made.good).outcome n work room) h in
      desugared_within made.term (decode_only bs made.term b made.good.form).0.fits made.core made.draws made.unlimited
      (omega (arith, few, made.total))

  pub made_reads : (list : ℕ) → read_core out list ≡ into_list made.core list
  made_reads list = ap (λ (o : List ℕ). read_core o list) made.bytes ∙ read_back made.core within list

-- of what a host gets
pub stored_reads : (bs : List ℕ) → Bytes bs → (n work : ℕ) (out out' : List ℕ) (d : HostAnswer) → Answers (Desugar bs n work) out out' d → d.number ≡ 0
    → (t : Desugared bs (take d.first out') d.second)
    × ((list list' : List ℕ) (r : HostAnswer) → Answers (ReadCore (take d.first out')) list list' r → HostsCore (into_list t.core (length list)) list list' r)
stored_reads bs b n work out out' d h z =
    let is = desugar_wrote bs n work out out' d h z in (
      made bs b n work (length out) (take d.first out') d.second is,
      λ list list' r k. subst (λ x. HostsCore x list list' r) (made_reads bs b n work (length out) (take d.first out') d.second is (length list)) k,
    )

pub read_numbers : (bs : List ℕ) → Bytes bs → (room r p : ℕ) → read_core bs room ≡ refuse r p → CoreNumber r × (p ≤ max_core)
read_numbers bs b room r p e = (
  core_declined_numbers bs room r p (((core_decided bs room).causes r p).1 e),
  (let h : p < max_core + 1 = subst (Placed (max_core + 1)) e (read_placed bs room b) in omega (arith, h)),
)
