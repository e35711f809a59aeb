-- The steps of `desugar` on bytes: the allowance and its work memory, the form, the walk, and the core's bytes.
use mathlib.Core.Path.{◌≡◌, refl, sym, ap, ◌∙◌}
use mathlib.Core.Bool.{Bool, true, false, not}
use mathlib.Core.List.{List, [], append-nil}
use Prim.Native.Nat.{ℕ, ◌+◌, ◌-◌, ◌*◌, ◌≤◌, ◌<◌}
use native.Mathlib.Omega.{arith}
use lib.Dec.{leb}
use lib.ListN.{length, take, drop}
use borrow.Author.Tests.{le-leb, lt-leb}
use Rattle.refusals.specs.Refusals.{number_of, refused_at}
use Rattle.refusals.specs.declared.Refusal.TheVariants.{WorkMemory, BufferTooShort}
use Rattle.refusals.specs.declared.Refusal.TheVariants as refusal
use Rattle.std.specs.Prelude.{Result, Ok, Err}
use Rattle.refusals.specs.declared.Refused.{Refused}
use Rattle.desugar.specs.declared.operands.Walked.{Walked}
use Rattle.literals.proofs.Logic.{leb_is}
use Rattle.expr.specs.Answers.{Answer, ok, refuse, and_then, map_answer, buffer_after}
use Rattle.expr.specs.Terms.{Core, Expr, records}
use Rattle.expr.specs.Form.{max_depth, decode, encode, encode_core, Within}
use Rattle.expr.specs.Operations.{into_room}
use Rattle.expr.proofs.FormTheorem.{decode_only}
use Rattle.expr.proofs.Slices.{Sliced, bytes_each}
use Rattle.desugar.specs.Meter.{left}
use Rattle.desugar.specs.Desugar.{desugar, max_allowance, work_for, drawn_of, desugar_bytes}
use Rattle.desugar.specs.Memory.{words}
use Rattle.desugar.specs.CoreBytes.{Writable, CoreWritten}
use Rattle.desugar.specs.WalkWords.{Ready, WalkedCore, WalkedAs}
use Rattle.desugar.specs.DesugarBytes.{desugared_answer, DesugaredAs, Allowance, Granted}
use Rattle.desugar.specs.declared.bytes.Desugared.{Desugared}
use Rattle.desugar.proofs.Regions.{region_words}

-- the answer is known, and what the buffer holds
answers : {bs : List ℕ} {n work : ℕ} {out out' : List ℕ} {r : Result Desugared Refused} (y : Answer (List ℕ × ℕ)) → desugar_bytes bs n work (length out) ≡ y
    → desugared_answer r ≡ map_answer (λ p. (length p.0, p.1)) y → out' ≡ buffer_after (map_answer (λ p. p.0) y) out → DesugaredAs bs n work out out' r
answers {out = out} y e a b =
    record {
      answer = a ∙ ap (map_answer (λ p. (length p.0, p.1))) (sym e);
      buffer = b ∙ ap (λ z. buffer_after (map_answer (λ p. p.0) z) out) (sym e);
    }

-- ## The allowance and its work memory

pub none_allowed : (bs : List ℕ) {n : ℕ} (work : ℕ) (out : List ℕ) → n ≡ 0 → DesugaredAs bs n work out out (Err (refused_at refusal.Allowance 0))
none_allowed bs {n} work out h =
    let under : leb 1 n ≡ false = lt-leb 1 n (omega arith) in
    answers (refuse 9 0) (rw under refl) refl refl

pub too_much : (bs : List ℕ) {n : ℕ} (work : ℕ) (out : List ℕ) → max_allowance < n → DesugaredAs bs n work out out (Err (refused_at refusal.Allowance 0))
too_much bs {n} work out h =
    let some : leb 1 n ≡ true = le-leb 1 n (omega arith) in
    let over : leb n max_allowance ≡ false = lt-leb n max_allowance h in
    answers (refuse 9 0) (rw (some, over) refl) refl refl

pub allowed : {n : ℕ} → (n ≡ 0 → ⊥) → n ≤ max_allowance → Allowance n
allowed some few = record { some_units = omega arith; few = few }

module _ {n : ℕ} (h : Allowance n) where
  within : leb 1 n ≡ true
  within = le-leb 1 n h.some_units

  below : leb n max_allowance ≡ true
  below = le-leb n max_allowance h.few

  pub no_memory : (bs : List ℕ) {work : ℕ} (out : List ℕ) → work < work_for n → DesugaredAs bs n work out out (Err (refused_at WorkMemory 0))
  no_memory bs {work} out h =
      let lacks : leb (work_for n) work ≡ false = lt-leb (work_for n) work h in
      answers (refuse 10 0) (rw (within, below, lacks) refl) refl refl

  pub not_formed : {bs : List ℕ} {work : ℕ} (r : Refused) (out : List ℕ) → work_for n ≤ work → decode bs ≡ refuse (number_of r.refusal) r.place → DesugaredAs bs n work out out (Err r)
  not_formed {bs} {work} r out room h =
      let enough : leb (work_for n) work ≡ true = le-leb (work_for n) work room in
      answers (refuse (number_of r.refusal) r.place) (rw (within, below, enough, h) refl) refl refl

twice : (b : Bool) → b ≡ not (not b)
twice true = refl
twice false = refl

-- ## The walk

module _ {bs : List ℕ} {n : ℕ} {xs : List ℕ} (g : Granted bs n xs) (bytes : Sliced bs) where
  abbrev e : Expr
  e = g.form.term

  e_is : Within e × (bs ≡ encode e)
  e_is = decode_only bs e (bytes_each bs bytes) g.form.reads

  -- what is left of the definition
  granted : (room : ℕ) {y : Answer (List ℕ × ℕ)}
      → and_then (desugar [] e 0 (left n)) (λ r. and_then (into_room (encode_core r.0) room) (λ out. ok (out, drawn_of n r.1))) ≡ y
      → desugar_bytes bs n (length xs) room ≡ y
  granted room h =
      rw (within g.limits, below g.limits, le-leb (work_for n) (length xs) g.room, g.form.reads) h

  -- the whole term, under no bindings, in the whole of work memory
  pub whole_ready : {last : ℕ} → last ≡ 0 → Ready bs 0 max_depth 0 last 0 n xs
  whole_ready {last} h =
      record {
        term = e;
        env = [];
        start = omega arith;
        text =
            record {
              more = [];
              bytes = e_is.1 ∙ sym (append-nil (encode e));
              fits = e_is.0.fits;
              deep = e_is.0.deep;
              low = omega (arith, e_is.0.count);
            };
        stack =
            record {
              bound = h;
              below = omega arith;
              room = omega (arith, g.room);
              small = omega (arith, g.limits.few);
            };
      }

  -- the walk ends with the core of the term
  abbrev pub WholeWalked : List ℕ → Walked → Type 0
  WholeWalked xs' w = WalkedCore (desugar [] e 0 (left n)) (0 + length (encode e)) (0 + records e) 0 n max_depth xs xs' w

  -- what the walk promises of its outcome
  abbrev Walks : ℕ → List ℕ → Result Walked Refused → Type 0
  Walks last xs' r =
      (q : Ready bs 0 max_depth 0 last 0 n xs)
      → WalkedAs (desugar q.env q.term 0 (left n)) (0 + length (encode q.term)) (0 + records q.term) 0 n max_depth xs xs' r

  pub walk_refused : {last : ℕ} (r : Refused) (xs' out : List ℕ) → last ≡ 0 → Walks last xs' (Err r) → DesugaredAs bs n (length xs) out out (Err r)
  unfolding whole_ready
  walk_refused r xs' out none walk =
      let no : desugar [] e 0 (left n) ≡ refuse (number_of r.refusal) r.place = walk (whole_ready none) in
      answers (refuse (number_of r.refusal) r.place) (granted (length out) (rw no refl)) refl refl

  pub walk_done : {last : ℕ} {w : Walked} (xs' : List ℕ) → last ≡ 0 → Walks last xs' (Ok w) → WholeWalked xs' w
  unfolding whole_ready
  walk_done xs' none walk = walk (whole_ready none)

  -- ## The core's bytes

  module _ {xs' : List ℕ} {w : Walked} (walked : WholeWalked xs' w) where
    abbrev c : Core
    c = walked.core

    pub core_inside : w.core.at + 3 * w.core.count ≤ length xs'
    core_inside = omega (arith, walked.reach, walked.kept.long, g.room)

    pub left_of : w.left ≤ n
    left_of = omega (arith, walked.drawn)

    -- the core as a slice
    module _ {ys : List ℕ} (slice : ys ≡ take (3 * w.core.count) (drop w.core.at xs')) where
      numbers : ys ≡ words c
      numbers = slice ∙ region_words walked.lies

      module _ {b : Bool} (out : List ℕ) (fits : (c : Core) → ys ≡ words c → b ≡ leb (length (encode_core c)) (length out)) where
        pub no_room : not b ≡ true → DesugaredAs bs n (length xs) out out (Err (refused_at BufferTooShort 0))
        no_room h =
            let over : leb (length (encode_core c)) (length out) ≡ false = sym (fits c numbers) ∙ twice b ∙ ap not h in
            answers (refuse 26 0) (granted (length out) (rw (walked.is, over) refl)) refl refl

        module _ (h : not b ≡ false) where
          enough : leb (length (encode_core c)) (length out) ≡ true
          enough = sym (fits c numbers) ∙ twice b ∙ ap not h

          pub writable : Writable ys out
          writable = record { core = c; is = numbers; room = (leb_is (length (encode_core c)) (length out)).0 enough }

          pub written : (out' : List ℕ) {m : ℕ} → ((c : Core) → ys ≡ words c → CoreWritten c out out' m)
              → DesugaredAs bs n (length xs) out out' (Ok (record { length = m; drawn = n - w.left }))
          written out' writes =
              let core = writes c numbers in
              answers (ok (encode_core c, n - w.left)) (granted (length out) (rw (walked.is, enough) refl)) (ap (λ k. ok (k, n - w.left)) core.long)
              core.bytes
