-- The steps of `substitute`: both forms, the measures of the result, and the result.
use mathlib.Core.Path.{◌≡◌, refl, sym, ap, ◌∙◌}
use mathlib.Core.Bool.{Bool, true, false, ◌&&◌, false≢true}
use mathlib.Core.List.{List, [], ◌++◌, append-nil}
use Prim.Native.Nat.{ℕ, ◌+◌, ◌^◌, ◌≤◌, ◌<◌}
use native.Mathlib.Nat.{zero-add}
use native.Mathlib.Omega.{arith}
use lib.Dec.{leb}
use lib.ListN.{length, drop}
use borrow.Author.Tests.{le-leb, lt-leb}
use Rattle.std.specs.Prelude.{Result, Ok, Err}
use Rattle.std.specs.Borrow.{Bor}
use Rattle.refusals.specs.Refusals.{number_of, refused_at}
use Rattle.refusals.specs.declared.Refusal.{Refusal}
use Rattle.refusals.specs.declared.Refusal.TheVariants.{ResultTooLarge, BufferTooShort}
use Rattle.refusals.specs.declared.Refused.{Refused}
use Rattle.expr.specs.Answers.{Answer, answered, ok, refuse, and_then, map_answer, need, buffer_after}
use Rattle.expr.specs.Terms.{Name, Expr, records, depth}
use Rattle.expr.specs.Form.{max_records, max_depth, decode, encode, Within}
use Rattle.expr.specs.Operations.{substitute, into_room, substitute_bytes}
use Rattle.expr.specs.Results.{form_answer, shape_of}
use Rattle.expr.specs.Replaced.{SubstitutedAs, Decodes, swap, Stands, Ready, Done}
use Rattle.expr.specs.declared.form.Taken.{Taken}
use Rattle.expr.specs.declared.replace.Job.{Job}
use Rattle.expr.specs.declared.replace.Walked.{Walked}
use Rattle.expr.specs.declared.replace.Spot.{Spot}
use Rattle.expr.proofs.FormTheorem.{decode_only}
use Rattle.expr.proofs.Slices.{Sliced, bytes_each}
use Rattle.expr.proofs.Replacing.{long, swapped_long}

-- ## The forms

pub form_decodes : {s : List ℕ} {t : Taken} → form_answer (Ok t) ≡ shape_of s (decode s) → Decodes s
form_decodes {s} {t} h = go (decode s) refl h
  where
    go : (y : Answer Expr) → decode s ≡ y → form_answer (Ok t) ≡ shape_of s y → Decodes s
    go (ok e) k h = record { term = e; reads = k }
    go (refuse r at) k h = let z : ◌≡◌ {A = ℕ} 0 1 = cc in absurd (omega arith)

pub form_refuses : (s : List ℕ) (r : Refused) → form_answer (Err r) ≡ shape_of s (decode s) → decode s ≡ refuse (number_of r.refusal) r.place
form_refuses s r h = go (decode s) refl h
  where
    go : (y : Answer Expr) → decode s ≡ y → refuse (number_of r.refusal) r.place ≡ shape_of s y → decode s ≡ refuse (number_of r.refusal) r.place
    go (ok e) k h = let z : ◌≡◌ {A = ℕ} 0 1 = cc in absurd (omega arith)
    go (refuse a b) k h = cc

-- the answer is known, and what the buffer holds
answers : {s : List ℕ} {x : Name} {t out out' : List ℕ} {r : Result ℕ Refused} (y : Answer (List ℕ)) → substitute_bytes s x t (length out) ≡ y
    → answered r ≡ map_answer (λ bs. length bs) y → out' ≡ buffer_after y out → SubstitutedAs s x t out out' r
answers {out = out} y e a b =
    record { answer = a ∙ ap (map_answer (λ bs. length bs)) (sym e); buffer = b ∙ ap (λ z. buffer_after z out) (sym e) }

pub term_refused : {s : List ℕ} {r : Refused} (x : Name) (t out : List ℕ) → decode s ≡ refuse (number_of r.refusal) r.place → SubstitutedAs s x t out out (Err r)
term_refused {s} {r} x t out h = answers (refuse (number_of r.refusal) r.place) (rw h) refl refl

pub other_refused : {s t : List ℕ} (r : Refused) {q : Refusal} (x : Name) (out : List ℕ) → Decodes s → decode t ≡ refuse (number_of r.refusal) r.place
    → number_of q ≡ 30 + number_of r.refusal → SubstitutedAs s x t out out (Err (refused_at q r.place))
other_refused {s} {t} r x out d h e =
    answers (refuse (30 + number_of r.refusal) r.place) (rw (d.reads, h)) (ap (λ n. refuse n r.place) e) refl

-- ## The result

-- where a whole term stands
abbrev pub front : Bool → Spot
front live = record { left = max_depth; live = live; to = 0 }

-- a whole term, within the limits, is ready for the walk
module _ {s : List ℕ} (e by : Expr) (whole : Within e × (s ≡ encode e)) (other : Within by) where
  not_long : (x : Name) (live : Bool) → length (encode (swap x by live e)) < 2 ^ 40
  not_long x live =
      let small : length (encode by) ≤ 262144 = omega (arith, long by other.fits, other.count) in
      omega (arith, swapped_long x by small e live, long e whole.0.fits, whole.0.count)

  whole_ready : (live : Bool) (j : Job) (out : List ℕ) → (live ≡ true → Stands j by)
      → (j.write ≡ true → length (encode (swap j.name by live e)) ≤ length out) → Ready s (front live) j out
  whole_ready live j out stands room =
      record {
        term = e;
        by = by;
        more = [];
        bytes = whole.1 ∙ sym (append-nil (encode e));
        fits = whole.0.fits;
        deep = whole.0.deep;
        stands = stands;
        small = omega (arith, not_long j.name live);
        room = λ t. omega (arith, room t);
      }

-- two lists of bytes, both of good form
pub record Both (s t : List ℕ) : Type 0 where
  pub decodes : Decodes s × Decodes t
  pub bytes₁ : Sliced s
  pub bytes₂ : Sliced t

pub both_known : {s t : List ℕ} → Decodes s × Decodes t → Sliced s → Sliced t → Both s t
both_known d b₁ b₂ = record { decodes = d; bytes₁ = b₁; bytes₂ = b₂ }

module _ {s : List ℕ} (x : Name) (by : Bor (List ℕ)) (both : Both s by.now) where
  abbrev t : List ℕ
  t = by.now

  abbrev e : Expr
  e = both.decodes.0.term

  abbrev r : Expr
  r = both.decodes.1.term

  abbrev res : Expr
  res = substitute x r e

  abbrev job : ℕ → ℕ → Bool → Job
  job n d w = record { name = x; by = by; records = n; depth = d; write = w }

  e_is : Within e × (s ≡ encode e)
  e_is = decode_only s e (bytes_each s both.bytes₁) both.decodes.0.reads

  r_is : Within r × (t ≡ encode r)
  r_is = decode_only t r (bytes_each t both.bytes₂) both.decodes.1.reads

  -- both forms are good: what is left of the definition
  limits : (out : List ℕ) {y : Answer (List ℕ)} → and_then (need (leb (records res) max_records && leb (depth res) max_depth) 27 0) (λ _. into_room (encode res) (length out)) ≡ y
      → substitute_bytes s x t (length out) ≡ y
  limits out h = rw (both.decodes.0.reads, both.decodes.1.reads) h

  -- ## The extent of the replacement

  pub by_ready : (out : List ℕ) → Ready t (front false) (job 0 0 false) out
  by_ready out = whole_ready r r r_is r_is.0 false (job 0 0 false) out (λ h. absurd (false≢true h)) (λ h. absurd (false≢true h))

  module _ {out out₁ : List ℕ} {m : Walked}
      (by-done : (q : Ready t (front false) (job 0 0 false) out) → Done q.term (swap x q.by false q.term) (job 0 0 false) out out₁ 0 m) where
    by_is : Done r r (job 0 0 false) out out₁ 0 m
    unfolding by_ready whole_ready
    by_is = by-done (by_ready out)

    stands : (w : Bool) → Stands (job m.records m.depth w) r
    stands w = record { bytes_are = r_is.1; count = by_is.count; deep = by_is.deep }

    -- ## The extent of the result

    pub measure_ready : Ready s (front true) (job m.records m.depth false) out₁
    measure_ready = whole_ready e r e_is r_is.0 true (job m.records m.depth false) out₁ (λ _. stands false) (λ h. absurd (false≢true h))

    module _ {out₂ : List ℕ} {w : Walked}
        (done : (q : Ready s (front true) (job m.records m.depth false) out₁)
        → Done q.term (swap x q.by true q.term) (job m.records m.depth false) out₁ out₂ 0 w) where
      res_is : Done e res (job m.records m.depth false) out₁ out₂ 0 w
      unfolding measure_ready whole_ready
      res_is = done measure_ready

      kept : out₂ ≡ out
      kept = res_is.wrote ∙ by_is.wrote

      pub too_many : max_records < w.records → SubstitutedAs s x t out out₂ (Err (refused_at ResultTooLarge 0))
      too_many h =
          let over : leb (records res) max_records ≡ false = lt-leb (records res) max_records (omega (arith, res_is.count)) in
          answers (refuse 27 0) (limits out (rw over)) refl kept

      module _ (few : w.records ≤ max_records) where
        few_is : leb (records res) max_records ≡ true
        few_is = le-leb (records res) max_records (omega (arith, res_is.count))

        pub too_deep : max_depth < w.depth → SubstitutedAs s x t out out₂ (Err (refused_at ResultTooLarge 0))
        too_deep h =
            let over : leb (depth res) max_depth ≡ false = lt-leb (depth res) max_depth (omega (arith, res_is.deep)) in
            answers (refuse 27 0) (limits out (rw (few_is, over))) refl kept

        module _ (flat : w.depth ≤ max_depth) where
          flat_is : leb (depth res) max_depth ≡ true
          flat_is = le-leb (depth res) max_depth (omega (arith, res_is.deep))

          pub no_room : length out₂ < w.to → SubstitutedAs s x t out out₂ (Err (refused_at BufferTooShort 0))
          no_room h =
              let over : leb (length (encode res)) (length out) ≡ false =
              lt-leb (length (encode res)) (length out) (omega (arith, res_is.next, ap length kept)) in
              answers (refuse 26 0) (limits out (rw (few_is, flat_is, over))) refl kept

          module _ (room : w.to ≤ length out₂) where
            fits : length (encode res) ≤ length out₂
            fits = omega (arith, res_is.next)

            pub write_ready : Ready s (front true) (job m.records m.depth true) out₂
            write_ready = whole_ready e r e_is r_is.0 true (job m.records m.depth true) out₂ (λ _. stands true) (λ _. fits)

            pub written : {out₃ : List ℕ} {v : Walked}
                → ((q : Ready s (front true) (job m.records m.depth true) out₂)
                → Done q.term (swap x q.by true q.term) (job m.records m.depth true) out₂ out₃ 0 v)
                → SubstitutedAs s x t out out₃ (Ok v.to)
            unfolding write_ready whole_ready
            written {out₃} {v} last =
                let d : Done e res (job m.records m.depth true) out₂ out₃ 0 v = last write_ready in
                let enough : leb (length (encode res)) (length out) ≡ true =
                le-leb (length (encode res)) (length out) (omega (arith, fits, ap length kept)) in
                answers (ok (encode res)) (limits out (rw (few_is, flat_is, enough))) (ap ok (d.next ∙ zero-add (length (encode res))))
                (d.wrote ∙ (λ i. encode res ++ drop (zero-add (length (encode res)) i) (kept i)))
