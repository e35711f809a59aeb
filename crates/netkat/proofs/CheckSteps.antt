-- The walk of src/check.rt over a node's children: from what it found of them to what it finds of the node.
use mathlib.Core.Path.{◌≡◌, refl, sym, ap, subst, ◌∙◌}
use mathlib.Core.Bool.{Bool, true, false, ◌&&◌}
use mathlib.Core.List.{List, [], ◌∷◌}
use Prim.Native.Nat.{ℕ, ◌+◌}
use native.Mathlib.Omega.{arith}
use lib.ListN.{length}
use lib.Seq.{sets}
use Rattle.std.specs.Prelude.{Result, Ok, Err}
use Rattle.refusals.specs.declared.Refused.{Refused}
use Rattle.expr.specs.Answers.{Answer, and_then, need, ok, refuse}
use Rattle.expr.specs.Form.{encode}
use Rattle.expr.specs.Replaced.{encode_all}
use Rattle.expr.specs.Terms.{Core, Expr, Name, Op2, Unary, Binary, TestNegation, IfThenElse, Let, LetBitRange, op2_kind, records, size, test_kind}
use Rattle.desugar.specs.Bindings.{Env, range, variable}
use Rattle.desugar.specs.BindingWords.{Bound, FrameRoom}
use Rattle.desugar.specs.Memory.{Holds, Kept, Lies, words}
use Rattle.desugar.specs.WalkWords.{TermsAt, Operator1, Operator2}
use Rattle.desugar.proofs.Regions.{kept_all, kept_less, kept_sets, kept_then, stored}
use Rattle.desugar.proofs.Frames.{bound_kept}
use Rattle.desugar.proofs.WalkLaws.{rest_at, then_ok, then_refused}
use Rattle.desugar.proofs.PairSteps.{pair_long}
use Rattle.desugar.proofs.IfSteps.{triple_long}
use Rattle.netkat.specs.CheckWords.{check_walk, flags, sort_core, sort_kind, CheckReady, CheckOne, CheckTwo, CheckThree, SortedAs, CheckedAs}
use Rattle.netkat.specs.declared.check.Sorted.{Sorted}
use Rattle.netkat.proofs.CheckLaws.{frames_moved, go_on_fact, last_found, ready_first}

-- ## One operand

module _ {s xs : List ℕ} {from l last top : ℕ} (place : ℕ) (q : CheckOne s from l place last top xs) where
  abbrev x₁ : Answer Bool
  x₁ = check_walk q.env q.first (place + 1)

  abbrev pub OneFound : List ℕ → Sorted → Type 0
  OneFound ys w = SortedAs x₁ (from + length (encode q.first)) (place + 1 + records q.first) top xs ys w

  abbrev pub one_first : CheckReady s from l (place + 1) last top xs
  one_first =
      ready_first (place + 1) q.first [] q.text (frames_moved q.frames (kept_all last xs) (omega arith) q.frames.below (omega arith))

  -- the answer to the whole
  abbrev OneChecked : Expr → List ℕ → Result Sorted Refused → Type 0
  OneChecked e ys r = CheckedAs (check_walk q.env e place) (from + length (encode q.first)) (place + 1 + records q.first) top xs ys r

  module _ {ys : List ℕ} {w : Sorted} (c : OneFound ys w) where
    pub unary_done : {kind : ℕ} (k : Operator1 kind) → OneChecked (Unary k.o q.first) ys (Ok (record { used = w.used; next = w.next; test = false }))
    unary_done k = last_found (then_ok _ c.is) refl refl (omega arith) (kept_all top xs) c

    pub negation_done : w.test ≡ true → OneChecked (TestNegation q.first) ys (Ok w)
    negation_done h =
        last_found (then_ok _ c.is ∙ ap (λ b. and_then (need b 22 place) (λ _. ok true)) h ∙ ap ok (sym h)) refl refl (omega arith) (kept_all top xs) c

    pub negation_refused : w.test ≡ false → check_walk q.env (TestNegation q.first) place ≡ refuse 22 place
    negation_refused h = then_ok _ c.is ∙ ap (λ b. and_then (need b 22 place) (λ _. ok true)) h

  -- LetBitRange: the body under one binding more
  module _ (x b e : ℕ) {inner : ℕ} {xs₁ : List ℕ} (top_is : inner ≡ top + 5) (kept : Kept top xs xs₁)
      (binds : (env : Env Core) → Bound xs last env → Bound xs₁ inner (range x b e ∷ env)) where
    abbrev pub alias_ready : CheckReady s from l (place + 1) inner (top + 5) xs₁
    alias_ready =
        ready_first {env = range x b e ∷ q.env} (place + 1) q.first [] q.text
        (record {
          bound = binds (flags q.env) q.frames.bound;
          below = omega (arith, top_is);
          room = omega (arith, q.frames.room, kept.long);
          small = omega (arith, q.frames.small);
        })

    pub alias_done : (ys : List ℕ) (r : Result Sorted Refused)
        → CheckedAs (check_walk (range x b e ∷ q.env) q.first (place + 1)) (from + length (encode q.first)) (place + 1 + records q.first) (top + 5) xs₁ ys r
        → OneChecked (LetBitRange x b e q.first) ys r
    alias_done ys (Ok w) c = last_found c.is refl refl (omega arith) kept c
    alias_done ys (Err f) c = c

-- ## A variable's sort

sort_words : (b : Bool) → words (sort_core b) ≡ sort_kind b ∷ 0 ∷ 0 ∷ []
sort_words true = refl
sort_words false = refl

sort_size : (b : Bool) → 1 ≡ size (sort_core b)
sort_size true = refl
sort_size false = refl

-- ## Two operands

module _ {s xs : List ℕ} {from l last top : ℕ} (place : ℕ) (q : CheckTwo s from l place last top xs) where
  abbrev pub two_first : CheckReady s from l (place + 1) last top xs
  two_first =
      ready_first (place + 1) q.first (q.second ∷ []) q.text
      (frames_moved q.frames (kept_all last xs) (omega arith) q.frames.below (omega arith))

  abbrev pub FirstFound : List ℕ → Sorted → Type 0
  FirstFound ys w = SortedAs (check_walk q.env q.first (place + 1)) (from + length (encode q.first)) (place + 1 + records q.first) top xs ys w

  abbrev TwoChecked : Expr → List ℕ → Result Sorted Refused → Type 0
  TwoChecked e ys r =
      CheckedAs (check_walk q.env e place) (from + length (encode_all (q.first ∷ q.second ∷ []))) (place + 1 + records q.first + records q.second) top xs ys r

  module _ {xs₁ : List ℕ} {w : Sorted} (c : FirstFound xs₁ w) where
    pub second_text : TermsAt s w.used l w.next (q.second ∷ [])
    second_text = rest_at q.first (q.second ∷ []) q.text c.used_is c.next_is

    abbrev pub two_second : CheckReady s w.used l w.next last top xs₁
    two_second =
        ready_first w.next q.second [] second_text
        (frames_moved q.frames c.kept q.frames.below q.frames.below (omega arith))

    abbrev both : Op2 → Bool → ℕ → Answer Bool
    both o s p = and_then (check_walk q.env q.second p) (λ t. ok (test_kind (op2_kind o) && (s && t)))

    pub binary_stops : (o : Op2) {n p : ℕ} → check_walk q.env q.second w.next ≡ refuse n p → check_walk q.env (Binary o q.first q.second) place ≡ refuse n p
    binary_stops o e = go_on_fact (both o) c ∙ then_refused _ e

    pub binary_done : {kind : ℕ} {ys : List ℕ} {w₂ : Sorted} {t : Bool} (k : Operator2 kind) → t ≡ (test_kind kind && (w.test && w₂.test))
        → SortedAs (check_walk q.env q.second w.next) (w.used + length (encode q.second)) (w.next + records q.second) top xs₁ ys w₂
        → TwoChecked (Binary k.o q.first q.second) ys (Ok (record { used = w₂.used; next = w₂.next; test = t }))
    binary_done {w₂ = w₂} k e d =
        last_found
        (go_on_fact (both k.o) c ∙ then_ok _ d.is ∙ ap ok (ap (λ n. test_kind n && (w.test && w₂.test)) k.is ∙ sym e))
        (omega (arith, c.used_is, pair_long q.first q.second)) (omega (arith, c.next_is)) (omega arith) c.kept d

    -- Let: the record of the definition's sort lies at the top, and a frame behind it
    module _ {kind : ℕ} (is_kind : kind ≡ sort_kind w.test) {xs₂ : List ℕ} (written : xs₂ ≡ sets xs₁ top (kind ∷ 0 ∷ 0 ∷ [])) where
      pub sort_lies : Lies xs₂ top 1 (sort_core w.test)
      sort_lies =
          record {
            holds = subst (λ (l : List ℕ). Holds xs₂ top l) (ap (λ (n : ℕ). n ∷ 0 ∷ 0 ∷ []) is_kind ∙ sym (sort_words w.test))
                (subst (λ (l : List ℕ). Holds l top (kind ∷ 0 ∷ 0 ∷ [])) (sym written)
                (stored xs₁ top (kind ∷ 0 ∷ 0 ∷ []) (omega (arith, q.frames.room, c.kept.long))));
            count = sort_size w.test;
          }

      pub sort_kept : Kept top xs xs₂
      sort_kept = kept_then c.kept (subst (λ (l : List ℕ). Kept top xs₁ l) (sym written) (kept_sets top xs₁ top (kind ∷ 0 ∷ 0 ∷ []) (omega arith)))

      pub frame_room : FrameRoom xs₂ last (top + 3)
      frame_room =
          record {
            above = omega (arith, q.frames.below);
            room = omega (arith, q.frames.room, sort_kept.long);
            small = omega (arith, q.frames.small);
          }

      module _ (x : Name) {inner : ℕ} {xs₃ : List ℕ} (top_is : inner ≡ top + 3 + 5) (kept : Kept (top + 3) xs₂ xs₃)
          (binds : (env : Env Core) (d : Core) → Bound xs₂ last env → Lies xs₂ top 1 d → Bound xs₃ inner (variable x d ∷ env)) where
        abbrev pub body_ready : CheckReady s w.used l w.next inner (top + 8) xs₃
        body_ready =
            ready_first {env = variable x w.test ∷ q.env} w.next q.second [] second_text
            (record {
              bound = binds (flags q.env) (sort_core w.test) (bound_kept (flags q.env) sort_kept q.frames.below q.frames.bound) sort_lies;
              below = omega (arith, top_is);
              room = omega (arith, q.frames.room, sort_kept.long, kept.long);
              small = omega (arith, q.frames.small);
            })

        abbrev x₃ : Answer Bool
        x₃ = check_walk (variable x w.test ∷ q.env) q.second w.next

        let_is : check_walk q.env (Let x q.first q.second) place ≡ x₃
        let_is = go_on_fact (λ s p. check_walk (variable x s ∷ q.env) q.second p) c

        pub let_done : (ys : List ℕ) (r : Result Sorted Refused)
            → CheckedAs x₃ (w.used + length (encode q.second)) (w.next + records q.second) (top + 8) xs₃ ys r → TwoChecked (Let x q.first q.second) ys r
        let_done ys (Ok w₂) d =
            last_found (let_is ∙ d.is)
            (omega (arith, c.used_is, pair_long q.first q.second)) (omega (arith, c.next_is)) (omega arith)
            (kept_then sort_kept (kept_less (omega arith) kept)) d
        let_done ys (Err f) d = let_is ∙ d

-- ## Three operands

module _ {s xs : List ℕ} {from l last top : ℕ} (place : ℕ) (q : CheckThree s from l place last top xs) where
  abbrev pub three_first : CheckReady s from l (place + 1) last top xs
  three_first =
      ready_first (place + 1) q.first (q.second ∷ q.third ∷ []) q.text
      (frames_moved q.frames (kept_all last xs) (omega arith) q.frames.below (omega arith))

  abbrev other : Bool → Bool → ℕ → Answer Bool
  other s s₁ p = and_then (check_walk q.env q.third p) (λ s₂. and_then (need s 23 place) (λ _. ok (s₁ && s₂)))

  abbrev branches : Bool → ℕ → Answer Bool
  branches s p = and_then (check_walk q.env q.second p) (λ s₁. other s s₁ (p + records q.second))

  abbrev if_term : Expr
  if_term = IfThenElse q.first q.second q.third

  abbrev pub ConditionFound : List ℕ → Sorted → Type 0
  ConditionFound ys w = SortedAs (check_walk q.env q.first (place + 1)) (from + length (encode q.first)) (place + 1 + records q.first) top xs ys w

  module _ {xs₁ : List ℕ} {w : Sorted} (c : ConditionFound xs₁ w) where
    pub branch_texts : TermsAt s w.used l w.next (q.second ∷ q.third ∷ [])
    branch_texts = rest_at q.first (q.second ∷ q.third ∷ []) q.text c.used_is c.next_is

    abbrev pub three_second : CheckReady s w.used l w.next last top xs₁
    three_second =
        ready_first w.next q.second (q.third ∷ []) branch_texts
        (frames_moved q.frames c.kept q.frames.below q.frames.below (omega arith))

    pub first_branch_stops : {n p : ℕ} → check_walk q.env q.second w.next ≡ refuse n p → check_walk q.env if_term place ≡ refuse n p
    first_branch_stops e = go_on_fact branches c ∙ then_refused _ e

    module _ {xs₂ : List ℕ} {w₂ : Sorted}
        (d : SortedAs (check_walk q.env q.second w.next) (w.used + length (encode q.second)) (w.next + records q.second) top xs₁ xs₂ w₂) where
      pub other_text : TermsAt s w₂.used l w₂.next (q.third ∷ [])
      other_text = rest_at q.second (q.third ∷ []) branch_texts d.used_is d.next_is

      abbrev pub three_third : CheckReady s w₂.used l w₂.next last top xs₂
      three_third =
          ready_first w₂.next q.third [] other_text
          (frames_moved q.frames (kept_then c.kept d.kept) q.frames.below q.frames.below (omega arith))

      if_is : check_walk q.env if_term place ≡ other w.test w₂.test w₂.next
      if_is = go_on_fact branches c ∙ go_on_fact (other w.test) d

      pub other_branch_stops : {n p : ℕ} → check_walk q.env q.third w₂.next ≡ refuse n p → check_walk q.env if_term place ≡ refuse n p
      other_branch_stops e = if_is ∙ then_refused _ e

      module _ {ys : List ℕ} {w₃ : Sorted}
          (e : SortedAs (check_walk q.env q.third w₂.next) (w₂.used + length (encode q.third)) (w₂.next + records q.third) top xs₂ ys w₃) where
        pub condition_refused : w.test ≡ false → check_walk q.env if_term place ≡ refuse 23 place
        condition_refused h = if_is ∙ then_ok _ e.is ∙ ap (λ b. and_then (need b 23 place) (λ _. ok (w₂.test && w₃.test))) h

        pub if_done : {t : Bool} → w.test ≡ true → t ≡ (w₂.test && w₃.test)
            → SortedAs (check_walk q.env if_term place) (from + length (encode_all (q.first ∷ q.second ∷ q.third ∷ [])))
            (place + 1 + records q.first + records q.second + records q.third) top xs ys
            (record { used = w₃.used; next = w₃.next; test = t })
        if_done h i =
            last_found
            (if_is ∙ then_ok _ e.is ∙ ap (λ b. and_then (need b 23 place) (λ _. ok (w₂.test && w₃.test))) h ∙ ap ok (sym i))
            (omega (arith, c.used_is, d.used_is, triple_long q.first q.second q.third)) (omega (arith, c.next_is, d.next_is)) (omega arith)
            (kept_then c.kept d.kept) e
