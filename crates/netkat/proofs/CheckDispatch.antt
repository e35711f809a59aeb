-- The walk of src/check.rt over one term: its record says what it is, and the answer to its children is the answer to the term.
use mathlib.Core.Path.{◌≡◌, sym, ap, subst, ◌∙◌}
use mathlib.Core.Bool.{Bool}
use mathlib.Core.List.{List, [], ◌∷◌, append-nil}
use Prim.Native.Nat.{ℕ, ◌+◌, ◌-◌, ◌*◌, ◌≤◌}
use native.Mathlib.Omega.{arith}
use lib.ListN.{length, drop}
use Rattle.std.specs.Prelude.{Result, Ok}
use Rattle.refusals.specs.declared.Refused.{Refused}
use Rattle.expr.specs.Kinds.{kind_number}
use Rattle.expr.specs.Answers.{Answer, and_then, ok}
use Rattle.expr.specs.Form.{Node, node0, node1, node2, node3, node_of, decode, encode, max_depth}
use Rattle.expr.specs.Replaced.{encode_all}
use Rattle.expr.specs.Results.{HeadInside, RecordFound, record_of, arity_of}
use Rattle.expr.specs.Terms.{Expr, records}
use Rattle.expr.specs.declared.records.Head.{Head}
use Rattle.expr.proofs.FormTheorem.{decode_only}
use Rattle.expr.proofs.HeadOf.{Headed}
use Rattle.expr.proofs.Replacing.{short}
use Rattle.expr.proofs.Slices.{Sliced, bytes_each, part}
use Rattle.desugar.specs.Bindings.{Env}
use Rattle.desugar.specs.BindingWords.{AnyBound, Bound}
use Rattle.desugar.specs.WalkWords.{TermAt, TermsAt}
use Rattle.desugar.proofs.Frames.{bound_same}
use Rattle.desugar.proofs.Regions.{kept_all}
use Rattle.desugar.proofs.WalkLaws.{in_part, text_head}
use Rattle.desugar.proofs.Dispatch.{alone, from_part, levels_left, one_kid, two_kids, three_kids}
use Rattle.netkat.specs.Check.{check, check_bytes}
use Rattle.netkat.specs.CheckWords.{check_walk, flags, Frames, CheckReady, CheckRoom, CheckOne, CheckTwo, CheckThree, CheckedAs}
use Rattle.netkat.specs.declared.check.Sorted.{Sorted}
use Rattle.netkat.proofs.CheckWalk.{check_is_walk}
use Rattle.netkat.proofs.CheckLaws.{frames_moved}

-- ## A term whose record was read

module _ {s xs : List ℕ} {at levels last top : ℕ} (place : ℕ) (q : CheckReady s at levels place last top xs) {h : Head}
    (found : RecordFound (drop at s) (Ok h)) where
  abbrev k : Headed (part at s) q.term q.text.more h
  k = text_head s at q.text found

  abbrev node : Node
  node = node_of (record_of (part at s) h)

  abbrev e : Expr
  e = q.term

  abbrev text : TermAt (part at s) levels place e
  text = in_part s at q.text

  pub some_left : 1 ≤ levels
  some_left = levels_left e text k

  kids_frames : Frames xs last top (levels - 1 + 1) q.env
  kids_frames = frames_moved q.frames (kept_all last xs) (omega arith) q.frames.below (omega (arith, some_left))

  -- the answer, with bytes counted from the term's first
  abbrev Checked : List ℕ → Result Sorted Refused → Expr → ℕ → ℕ → Type 0
  Checked ys r e used next = CheckedAs (check_walk q.env e place) (at + used) next top xs ys r

  abbrev Term : List ℕ → Result Sorted Refused → Type 0
  Term ys r = Checked ys r e (length (encode e)) (place + records e)

  -- bytes that are counted from the front, counted from the term's first
  counted : (f : Expr) (ys : List ℕ) (r : Result Sorted Refused) (u next : ℕ) → CheckedAs (check_walk q.env f place) (at + h.size + u) next top xs ys r → Checked ys r f (h.size + u) next
  counted f ys r u next = subst (λ n. CheckedAs (check_walk q.env f place) n next top xs ys r) (omega arith)

  abbrev one_ready : (b : Expr) → TermsAt (part at s) h.size (levels - 1) (place + 1) (b ∷ []) → CheckOne s (at + h.size) (levels - 1) place last top xs
  one_ready b t = record { first = b; env = q.env; text = from_part q.start t; frames = kids_frames }

  abbrev two_ready : (b c : Expr) → TermsAt (part at s) h.size (levels - 1) (place + 1) (b ∷ c ∷ []) → CheckTwo s (at + h.size) (levels - 1) place last top xs
  two_ready b c t = record { first = b; second = c; env = q.env; text = from_part q.start t; frames = kids_frames }

  abbrev three_ready : (b c d : Expr) → TermsAt (part at s) h.size (levels - 1) (place + 1) (b ∷ c ∷ d ∷ [])
      → CheckThree s (at + h.size) (levels - 1) place last top xs
  three_ready b c d t = record { first = b; second = c; third = d; env = q.env; text = from_part q.start t; frames = kids_frames }

  pub one_asked : {f : Expr → Expr} → node ≡ node1 f → CheckOne s (at + h.size) (levels - 1) place last top xs
  one_asked n = one_kid e text k (λ _ _ _. CheckOne s (at + h.size) (levels - 1) place last top xs) n one_ready

  pub two_asked : {f : Expr → Expr → Expr} → node ≡ node2 f → CheckTwo s (at + h.size) (levels - 1) place last top xs
  two_asked n = two_kids e text k (λ _ _ _. CheckTwo s (at + h.size) (levels - 1) place last top xs) n two_ready

  pub three_asked : {f : Expr → Expr → Expr → Expr} → node ≡ node3 f → CheckThree s (at + h.size) (levels - 1) place last top xs
  three_asked n = three_kids e text k (λ _ _ _. CheckThree s (at + h.size) (levels - 1) place last top xs) n three_ready

  pub one_done : {f : Expr → Expr} (ys : List ℕ) (r : Result Sorted Refused) → node ≡ node1 f
      → ((p : CheckOne s (at + h.size) (levels - 1) place last top xs)
      → CheckedAs (check_walk p.env (f p.first) place) (at + h.size + length (encode p.first)) (place + 1 + records p.first) top xs ys r)
      → Term ys r
  one_done {f} ys r n v = one_kid e text k (Checked ys r) n (λ b t. counted (f b) ys r (length (encode b)) (place + 1 + records b) (v (one_ready b t)))

  pub two_done : {f : Expr → Expr → Expr} (ys : List ℕ) (r : Result Sorted Refused) → node ≡ node2 f
      → ((p : CheckTwo s (at + h.size) (levels - 1) place last top xs)
      → CheckedAs (check_walk p.env (f p.first p.second) place) (at + h.size + length (encode_all (p.first ∷ p.second ∷ [])))
      (place + 1 + records p.first + records p.second) top xs ys r)
      → Term ys r
  two_done {f} ys r n v =
      two_kids e text k (Checked ys r) n (λ b c t.
      counted (f b c) ys r (length (encode_all (b ∷ c ∷ []))) (place + 1 + records b + records c) (v (two_ready b c t)))

  pub three_done : {f : Expr → Expr → Expr → Expr} (ys : List ℕ) (r : Result Sorted Refused) → node ≡ node3 f
      → ((p : CheckThree s (at + h.size) (levels - 1) place last top xs)
      → CheckedAs (check_walk p.env (f p.first p.second p.third) place) (at + h.size + length (encode_all (p.first ∷ p.second ∷ p.third ∷ [])))
      (place + 1 + records p.first + records p.second + records p.third) top xs ys r)
      → Term ys r
  three_done {f} ys r n v =
      three_kids e text k (Checked ys r) n (λ b c d t.
      counted (f b c d) ys r (length (encode_all (b ∷ c ∷ d ∷ []))) (place + 1 + records b + records c + records d) (v (three_ready b c d t)))

  -- a record without children
  pub leaf_ready : HeadInside (part at s) (Ok h)
  leaf_ready = k.found

  pub scope_ready : AnyBound xs last
  scope_ready = record { env = flags q.env; bound = q.frames.bound }

  module _ (none : 0 ≡ arity_of (kind_number h.kind)) {ys : List ℕ} {inner : ℕ} (same : (ys ≡ xs) × (inner ≡ last)) {x : Answer Bool}
      (v : (e : Expr) (env : Env Bool) → node ≡ node0 e → Bound ys inner (flags env) → x ≡ check_walk env e place) where
    pub leaf_is : check_walk q.env e place ≡ x
    leaf_is = sym (v e q.env (alone e text k none).0 (bound_same (flags q.env) same.0 same.1 q.frames.bound))

    pub leaf_done : (t : Bool) → x ≡ ok t → Term xs (Ok (record { used = at + h.size; next = place + 1; test = t }))
    leaf_done t is =
        let f = alone e text k none in
        record {
          is = leaf_is ∙ is;
          used_is = omega (arith, f.1);
          next_is = omega (arith, f.2);
          kept = kept_all top xs;
        }

-- ## A whole term

module _ {s : List ℕ} {levels : ℕ} {xs : List ℕ} (q : CheckRoom s levels xs) where
  abbrev pub whole_ready : {last : ℕ} → Sliced s → last ≡ 0 → CheckReady s 0 levels 0 last 0 xs
  whole_ready b none =
      let d = decode_only s q.term (bytes_each s b) q.reads in
      record {
        term = q.term;
        env = [];
        start = omega arith;
        text =
            record {
              more = [];
              bytes = d.1 ∙ sym (append-nil (encode q.term));
              fits = d.0.fits;
              deep = q.deep;
              low = omega (arith, d.0.count);
            };
        frames = record { bound = none; below = omega (arith, none); room = omega (arith, q.room); small = omega (arith, q.few) };
      }

  pub whole_is : check_walk [] q.term 0 ≡ check_bytes s
  whole_is = check_is_walk [] q.term 0 ∙ sym (ap (λ (x : Answer Expr). and_then x (λ e. check [] e 0)) q.reads)

-- a term has no more levels than bytes
module _ (s : List ℕ) (e : Expr) (h : decode s ≡ ok e) (b : Sliced s) where
  pub short_room : {n : ℕ} {xs : List ℕ} → length s ≤ n → n ≤ max_depth → 8 * n ≤ length xs → CheckRoom s n xs
  short_room few deep room =
      let d = decode_only s e (bytes_each s b) h in
      let small = short e in
      record { term = e; reads = h; deep = omega (arith, few, ap length d.1, small.0, small.1); few = deep; room = room }

  pub long_room : {xs : List ℕ} → 8 * max_depth ≤ length xs → CheckRoom s max_depth xs
  long_room room = record { term = e; reads = h; deep = (decode_only s e (bytes_each s b) h).0.deep; few = omega arith; room = room }
