-- The walk over terms one behind the other: the first, and the others.
use mathlib.Core.Path.{◌≡◌, refl, sym, ap, subst, ◌∙◌}
use mathlib.Core.Bool.{Bool}
use mathlib.Core.List.{List, [], ◌∷◌, ◌++◌, append_assoc}
use Prim.Native.Nat.{ℕ, ◌+◌, ◌-◌, ◌^◌, ◌≤◌, ◌<◌, max}
use native.Mathlib.Omega.{arith}
use lib.ListN.{length, drop, length-append, length-drop}
use lib.Seq.{drop_at, drop-drop}
use Rattle.expr.specs.Terms.{Expr}
use Rattle.expr.specs.Form.{encode}
use Rattle.expr.specs.Replaced.{swap, swap_all, pasted, Ready, Done, ReadyAll, DoneAll}
use Rattle.expr.specs.declared.replace.Job.{Job}
use Rattle.expr.specs.declared.replace.Walked.{Walked}
use Rattle.expr.specs.declared.replace.Spot.{Spot}
use Rattle.expr.specs.declared.replace.Children.{Children}
use Rattle.expr.proofs.TermShape.{encode_all, records_all, depth_all, FitAll}
use Rattle.expr.proofs.Slices.{part, part_is}
use Rattle.expr.proofs.Replacing.{short}
use Rattle.expr.proofs.Copied.{pasted_none, pasted_more}

-- where the first of the children stands
abbrev pub spot_of : Children → Walked → Spot
spot_of c was = record { left = c.left; live = c.first; to = was.to }

-- no term is asked for
pub none_done : {s : List ℕ} {was : Walked} {c : Children} {j : Job} {out : List ℕ} (q : ReadyAll s was c j out) → c.count ≡ 0
    → DoneAll q.terms (swap_all j.name q.by c.first c.others q.terms) j out out was was
none_done {was = was} {c = c} {j = j} {out = out} q none = go q.terms (sym q.many ∙ none)
  where
    go : (es : List Expr) → length es ≡ 0 → DoneAll es (swap_all j.name q.by c.first c.others es) j out out was was
    go [] h =
        record { used = omega arith; next = omega arith; count = omega arith; deep = omega (arith, q.high); wrote = pasted_none j.write was.to out }
    go (e ∷ es) h = absurd (omega arith)

-- a first term and the others
record Front (es : List Expr) : Type 0 where
  front : Expr
  back : List Expr
  is : es ≡ front ∷ back

front_of : (es : List Expr) → (length es ≡ 0 → ⊥) → Front es
front_of [] h = absurd (h refl)
front_of (e ∷ es) h = record { front = e; back = es; is = refl }

module _ {s : List ℕ} {was : Walked} {c : Children} {j : Job} {out : List ℕ} (q : ReadyAll s was c j out)
    (some : c.count ≡ 0 → ⊥) where
  split : Front q.terms
  split = front_of q.terms (λ h. some (q.many ∙ h))

  abbrev f : Expr
  f = split.front

  abbrev fs : List Expr
  fs = split.back

  abbrev f' : Expr
  f' = swap j.name q.by c.first f

  abbrev fs' : List Expr
  fs' = swap_all j.name q.by c.others c.others fs

  -- the bytes of all, and of all that is written for them
  bytes_all : length (encode_all q.terms) ≡ length (encode f) + length (encode_all fs)
  bytes_all = ap (λ es. length (encode_all es)) split.is ∙ length-append (encode f) (encode_all fs)

  swapped : swap_all j.name q.by c.first c.others q.terms ≡ f' ∷ fs'
  swapped = ap (swap_all j.name q.by c.first c.others) split.is

  long_all : length (encode_all (swap_all j.name q.by c.first c.others q.terms)) ≡ length (encode f') + length (encode_all fs')
  long_all = ap (λ es. length (encode_all es)) swapped ∙ length-append (encode f') (encode_all fs')

  behind_used : drop was.used s ≡ encode f ++ (encode_all fs ++ q.more)
  behind_used = q.bytes ∙ ap (λ es. encode_all es ++ q.more) split.is ∙ append_assoc (encode f) (encode_all fs) q.more

  pub first_ready : Ready (part was.used s) (spot_of c was) j out
  first_ready =
      record {
        term = f;
        by = q.by;
        more = encode_all fs ++ q.more;
        bytes = part_is was.used s ∙ behind_used;
        fits = (subst FitAll split.is q.fits).0;
        deep = omega (arith, q.deep, ap depth_all split.is);
        stands = q.stands₁;
        small = omega (arith, q.small, long_all);
        room = λ t. omega (arith, q.room t, long_all);
      }

  module _ {out₁ : List ℕ} {a : Walked} (same : length out₁ ≡ length out)
      (done : (b : Ready (part was.used s) (spot_of c was) j out) → Done b.term (swap j.name b.by c.first b.term) j out out₁ was.to a) where
    first_done : Done f f' j out out₁ was.to a
    unfolding first_ready
    first_done = done first_ready

    pub used_inside : was.used + a.used ≤ length s
    used_inside =
        omega (arith, q.start, first_done.used, length-drop was.used s, ap length behind_used, length-append (encode f) (encode_all fs ++ q.more))

    pub count_small : was.records + a.records < 2 ^ 40
    count_small = omega (arith, q.small, q.count, long_all, first_done.count, short f')

    pub level_small : 1 + a.depth < 2 ^ 40
    level_small = omega (arith, q.small, q.high, q.level, long_all, first_done.deep, short f')

    module _ {m : ℕ} (most : m ≡ max was.depth (1 + a.depth)) where
      abbrev pub next_done : Walked
      next_done = record { used = was.used + a.used; to = a.to; records = was.records + a.records; depth = m }

      abbrev rest : Children
      rest = record { count = c.count - 1; left = c.left; first = c.others; others = c.others }

      pub rest_ready : ReadyAll s next_done rest j out₁
      rest_ready =
          let d = first_done in
          record {
            terms = fs;
            by = q.by;
            more = q.more;
            many = omega (arith, q.many, ap length split.is);
            few = omega (arith, q.few);
            start = used_inside;
            bytes =
                sym (drop-drop a.used was.used s) ∙ ap (drop a.used) behind_used
                ∙ drop_at (encode f) (encode_all fs ++ q.more) a.used (sym d.used);
            fits = (subst FitAll split.is q.fits).1;
            deep = omega (arith, q.deep, ap depth_all split.is);
            stands₁ = q.stands₂;
            stands₂ = q.stands₂;
            count = omega (arith, q.count, d.count, d.next, short f');
            high = omega (arith, most, q.high);
            level = omega (arith, most, q.high, q.level, d.deep, d.next, short f');
            small = omega (arith, q.small, d.next, long_all);
            room = λ t. omega (arith, q.room t, d.next, long_all);
          }

      -- what comes of the others is what comes of all
      pub rest_done : {out₂ : List ℕ} {r : Walked}
          → DoneAll rest_ready.terms (swap_all j.name rest_ready.by c.others c.others rest_ready.terms) j out₁ out₂ next_done r
          → DoneAll q.terms (swap_all j.name q.by c.first c.others q.terms) j out out₂ was r
      unfolding rest_ready
      rest_done {out₂} {r} others-done =
          let d = first_done in
          let b : DoneAll fs fs' j out₁ out₂ next_done r = others-done in
          record {
            used = omega (arith, b.used, d.used, bytes_all);
            next = omega (arith, b.next, d.next, long_all);
            count = omega (arith, b.count, d.count, ap records_all swapped);
            deep = omega (arith, b.deep, d.deep, most, ap depth_all swapped);
            wrote =
                b.wrote ∙ (λ i. pasted j.write (d.next i) (encode_all fs') (d.wrote i))
                ∙ pasted_more j.write was.to (encode f') (encode_all fs') out (λ t. omega (arith, q.room t, long_all))
                ∙ ap (λ es. pasted j.write was.to (encode_all es) out) (sym swapped);
          }

-- ## Some of several

-- m of the children are due, in the first of which the variable is replaced if `live`
abbrev pub due : Children → ℕ → Bool → Children
due c m live = record { count = m; left = c.left; first = live; others = c.others }

-- of the children behind what was done, m are due behind what is done: what comes of those is what comes of all
pub record Due (s : List ℕ) (was : Walked) (c : Children) (j : Job) (out : List ℕ) (done : Walked) (m : ℕ) (live : Bool) (out₁ : List ℕ) : Type 0 where
  pub same : length out₁ ≡ length out
  pub asked : ReadyAll s done (due c m live) j out₁
  pub whole : (q : ReadyAll s was c j out) → (b : ReadyAll s done (due c m live) j out₁) × ((out₂ : List ℕ) (r : Walked)
      → DoneAll b.terms (swap_all j.name b.by live c.others b.terms) j out₁ out₂ done r
      → DoneAll q.terms (swap_all j.name q.by c.first c.others q.terms) j out out₂ was r)

pub all_due : {s : List ℕ} {was : Walked} {c : Children} {m : ℕ} {j : Job} {out : List ℕ} → ReadyAll s was c j out
    → m ≡ c.count → Due s was c j out was m c.first out
all_due {s} {was} {c} {m} {j} {out} k e =
    subst (λ i. Due s was c j out was i c.first out) (sym e) (record { same = refl; asked = k; whole = λ q. (q, λ out₂ r d. d) })

module _ {s : List ℕ} {was : Walked} {c : Children} {j : Job} {out : List ℕ} {done : Walked} {m : ℕ} {live : Bool} {out₁ : List ℕ}
    (k : Due s was c j out done m live out₁) where
  pub none_due : m ≤ 0 → (q : ReadyAll s was c j out)
      → DoneAll q.terms (swap_all j.name q.by c.first c.others q.terms) j out out₁ was done
  none_due none q = let b = k.whole q in b.1 out₁ done (none_done b.0 (omega (arith, none)))

  -- the first of those that are due is done
  pub due_again : (some : 0 < m) {out₂ : List ℕ} {a : Walked} (same : length out₂ ≡ length out₁)
      (walked : (b : Ready (part done.used s) (spot_of (due c m live) done) j out₁) → Done b.term (swap j.name b.by live b.term) j out₁ out₂ done.to a)
      {d l : ℕ} (most : d ≡ max done.depth (1 + a.depth)) (fewer : l ≡ m - 1)
      → Due s was c j out (record { used = done.used + a.used; to = a.to; records = done.records + a.records; depth = d }) l c.others out₂
  due_again some {out₂} {a} same walked {d} {l} most fewer =
      let left : m ≡ 0 → ⊥ = λ h. omega (arith, some, h) in
      subst (λ i. Due s was c j out (record { used = done.used + a.used; to = a.to; records = done.records + a.records; depth = d }) i c.others out₂) (sym fewer)
      (record {
        same = same ∙ k.same;
        asked = rest_ready k.asked left same walked most;
        whole = λ q. let b = k.whole q in (rest_ready b.0 left same walked most, λ out₃ r d. b.1 out₃ r (rest_done b.0 left same walked most d));
      })
