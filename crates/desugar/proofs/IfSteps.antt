-- The walk over an If: from its condition and its branches to what it comes to.
use mathlib.Core.Path.{◌≡◌, sym, ap, subst, ◌∙◌}
use mathlib.Core.List.{List, [], ◌∷◌}
use Prim.Native.Nat.{ℕ, ◌+◌, ◌-◌, ◌*◌, ◌≤◌}
use native.Mathlib.Omega.{arith}
use lib.ListN.{length, length-append}
use Rattle.std.specs.Prelude.{Result}
use Rattle.refusals.specs.declared.Refused.{Refused}
use Rattle.desugar.specs.declared.guarded.Guarded.{Guarded}
use Rattle.desugar.specs.declared.memory.Region.{Region}
use Rattle.desugar.specs.declared.operands.Walked.{Walked}
use Rattle.expr.specs.Answers.{Answer, refuse, and_then}
use Rattle.expr.specs.Terms.{Core, Expr, IfThenElse, records}
use Rattle.expr.specs.Form.{encode}
use Rattle.expr.specs.Replaced.{encode_all}
use Rattle.desugar.specs.Meter.{Meter, left}
use Rattle.desugar.specs.Desugar.{desugar}
use Rattle.desugar.specs.Memory.{Kept, Lies}
use Rattle.desugar.specs.NegationOutcome.{Negates}
use Rattle.desugar.specs.WalkWords.{TermsAt, WalkedCore, WalkedAs, Ready, ReadyThree, ReadyElse, choosing, Branches, BranchRoom, negated_size, negated_at}
use Rattle.desugar.specs.declared.test_negation.NegationError.{NegationError}
use Rattle.desugar.proofs.Regions.{kept_then, kept_less, size_pos}
use Rattle.desugar.proofs.Frames.{bound_kept, lies_kept}
use Rattle.desugar.proofs.Closing.{negated_bounds, negates_kept}
use Rattle.desugar.proofs.WalkLaws.{rest_at, stack_moved, ready_first, lies_inside, Settled, wider, then_ok, then_refused}

-- ## The condition and the first branch

pub triple_long : (a b c : Expr) → length (encode_all (a ∷ b ∷ c ∷ [])) ≡ length (encode a) + length (encode b) + length (encode c)
triple_long a b c =
    omega (arith, length-append (encode a) (encode_all (b ∷ c ∷ [])), length-append (encode b) (encode_all (c ∷ [])), length-append (encode c) [])

module _ {s xs : List ℕ} {from l last top a : ℕ} (place : ℕ) (q : ReadyThree s from l place last top a xs) where
  abbrev x₁ : Answer (Core × Meter)
  x₁ = desugar q.env q.first (place + 1) (left a)

  abbrev whole : Answer (Core × Meter)
  whole = desugar q.env (IfThenElse q.first q.second q.third) place (left a)

  abbrev WalkedTo : List ℕ → Result Walked Refused → Type 0
  WalkedTo ys r =
      WalkedAs whole (from + length (encode_all (q.first ∷ q.second ∷ q.third ∷ [])))
      (place + 1 + records q.first + records q.second + records q.third) top a (l + 1) xs ys r

  -- the condition's core is settled, above the room for two records
  abbrev pub ConditionSettled : List ℕ → Walked → Region → Type 0
  ConditionSettled xs₂ w f = Settled x₁ (from + length (encode q.first)) (place + 1 + records q.first) (top + 6) a xs xs₂ w f

  module _ {w : Walked} {f : Region} {xs₂ : List ℕ} (c : ConditionSettled xs₂ w f) {end : ℕ} (end_is : end ≡ f.at + 3 * f.count) where
    pub second_text : TermsAt s w.used l w.next (q.second ∷ q.third ∷ [])
    second_text = rest_at q.first (q.second ∷ q.third ∷ []) q.text c.used_is c.next_is

    abbrev pub branch_ready : Ready s w.used l w.next last end w.left xs₂
    branch_ready =
        ready_first q.second (q.third ∷ []) second_text
        (stack_moved q.stack c.kept (omega (arith, q.stack.below)) (omega (arith, q.stack.below, c.at_is)) (omega (arith, c.drawn, c.at_is)))

    abbrev x₂ : Answer (Core × Meter)
    x₂ = desugar q.env q.second w.next (left w.left)

    -- what is left when the condition's core c and its allowance are known, at the place of the first branch
    abbrev second_on : ℕ → Answer (Core × Meter)
    second_on p =
        and_then (desugar q.env q.second p (left w.left)) (λ t.
        and_then (desugar q.env q.third (p + records q.second) t.1) (λ e. choosing c.core t.0 e.0 place e.1))

    if_is : whole ≡ second_on w.next
    if_is = then_ok _ c.is ∙ ap second_on (sym c.next_is)

    pub branch_stops : {n p : ℕ} → x₂ ≡ refuse n p → whole ≡ refuse n p
    branch_stops e = if_is ∙ then_refused _ e

    -- the first branch's core is settled behind it
    abbrev pub BranchSettled : List ℕ → Walked → Region → Type 0
    BranchSettled xs₃ w₂ r = Settled x₂ (w.used + length (encode q.second)) (w.next + records q.second) end w.left xs₂ xs₃ w₂ r

    module _ {w₂ : Walked} {xs₃ : List ℕ} (g : Guarded) (d : BranchSettled xs₃ w₂ g.branch) (same : g.condition ≡ f) where
      pub at_is : g.condition.at ≡ top + 6
      at_is = ap (λ r. r.at) same ∙ c.at_is

      pub count_is : g.condition.count ≡ f.count
      count_is = ap (λ r. r.count) same

      -- nothing below the condition has changed
      pub kept₃ : Kept (top + 6) xs xs₃
      kept₃ = kept_then c.kept (kept_less (omega (arith, c.at_is)) d.kept)

      abbrev pub else_ready : ReadyElse s w₂.used l w₂.next last xs₃ g w₂.left
      else_ready =
          record {
            third = q.third;
            env = q.env;
            condition_core = c.core;
            first_core = d.core;
            text = rest_at q.second (q.third ∷ []) second_text d.used_is d.next_is;
            condition = subst (λ r. Lies xs₃ r.at r.count c.core) (sym same) (lies_kept d.kept (omega arith) c.lies);
            first = d.lies;
            bound = bound_kept q.env kept₃ (omega (arith, q.stack.below)) q.stack.bound;
            below = omega (arith, q.stack.below, at_is);
            room = omega (arith, q.stack.room, kept₃.long, at_is, count_is, c.drawn, d.drawn);
            small = omega (arith, q.stack.small, at_is, count_is, c.drawn, d.drawn);
          }

      pub if_done : (xs₄ : List ℕ) (r : Result Walked Refused)
          → ((p : ReadyElse s w₂.used l w₂.next last xs₃ g w₂.left)
          → WalkedAs (and_then (desugar p.env p.third w₂.next (left w₂.left)) (λ e. choosing p.condition_core p.first_core e.0 place e.1))
          (w₂.used + length (encode p.third)) (w₂.next + records p.third) (g.condition.at - 6) (g.condition.count + g.branch.count + w₂.left) (l + 1) xs₃ xs₄ r)
          → WalkedTo xs₄ r
      if_done xs₄ r else-walked =
          wider whole (and_then (desugar q.env q.third w₂.next (left w₂.left)) (λ e. choosing c.core d.core e.0 place e.1))
          (from + length (encode_all (q.first ∷ q.second ∷ q.third ∷ []))) (w₂.used + length (encode q.third))
          (place + 1 + records q.first + records q.second + records q.third) (w₂.next + records q.third) top (g.condition.at - 6) a
          (g.condition.count + g.branch.count + w₂.left) (l + 1) (l + 1) xs xs₃ xs₄ r
          (if_is ∙ then_ok _ d.is ∙ ap (λ p. and_then (desugar q.env q.third p (left w₂.left)) (λ e. choosing c.core d.core e.0 place e.1)) (sym d.next_is))
          (omega (arith, c.used_is, d.used_is, triple_long q.first q.second q.third))
          (omega (arith, c.next_is, d.next_is)) (omega (arith, at_is)) (omega (arith, at_is, count_is, c.drawn, d.drawn)) (omega (arith, count_is, c.drawn, d.drawn))
          (kept_less (omega arith) kept₃)
          (else-walked else_ready)

-- ## The other branch

module _ {s xs : List ℕ} {from l next last a : ℕ} {g : Guarded} (place : ℕ) (q : ReadyElse s from l next last xs g a) where
  abbrev c : Core
  c = q.condition_core

  abbrev n : ℕ
  n = g.condition.count

  abbrev m : ℕ
  m = g.branch.count

  module _ {r : Result ℕ NegationError} {xs₁ : List ℕ} (kept : Kept (negated_at g) xs xs₁) (negates : Negates xs₁ c (negated_at g) a r) where
    abbrev above : ℕ
    above = negated_at g + 3 * negated_size r

    pub small : 2 * negated_size r ≤ 3 * n + 1
    small = omega (arith, (negated_bounds r negates).1, q.condition.count)

    abbrev pub other_ready : (to : ℕ) → to ≡ above → Ready s from l next last to a xs₁
    other_ready to e =
        ready_first {env = q.env} q.third [] q.text
        (record {
          bound = bound_kept q.env kept (omega (arith, q.below, g.behind)) q.bound;
          below = omega (arith, e, q.below, g.behind);
          room = omega (arith, e, small, q.room, g.behind, kept.long, q.condition.count, size_pos c);
          small = omega (arith, e, small, q.small, g.behind, q.condition.count, size_pos c);
        })

    abbrev x₃ : Answer (Core × Meter)
    x₃ = desugar q.env q.third next (left a)

    module _ {w : Walked} {xs₂ : List ℕ} {to : ℕ} (e : to ≡ above) (d : WalkedCore x₃ (from + length (encode q.third)) (next + records q.third) to a l xs₁ xs₂ w) where
      pub branch_room : BranchRoom xs₂ g (negated_size r) w
      branch_room = record { apart = omega (arith, e, d.above); room = lies_inside d.lies }

      kept₂ : Kept (negated_at g) xs xs₂
      kept₂ = kept_then kept (kept_less (omega (arith, e)) d.kept)

      pub other_done : (xs₃ : List ℕ) (z : Result Walked Refused)
          → ((limit : ℕ) (c t e : Core) → Branches xs₂ g r w limit c t e
          → WalkedAs (choosing c t e place (left w.left)) w.used w.next (g.condition.at - 6) (n + m + w.core.count + w.left) 0 xs₂ xs₃ z)
          → WalkedAs (and_then x₃ (λ e. choosing c q.first_core e.0 place e.1)) (from + length (encode q.third)) (next + records q.third) (g.condition.at - 6) (n + m + a) (l + 1) xs xs₃ z
      other_done xs₃ z chooses =
          wider (and_then x₃ (λ e. choosing c q.first_core e.0 place e.1)) (choosing c q.first_core d.core place (left w.left))
          (from + length (encode q.third)) w.used (next + records q.third) w.next (g.condition.at - 6) (g.condition.at - 6) (n + m + a) (n + m + w.core.count + w.left) (l + 1) 0
          xs xs₂ xs₃ z (then_ok _ d.is) d.used_is d.next_is (omega arith) (omega (arith, d.drawn)) (omega (arith, d.drawn))
          (kept_less (omega (arith, g.behind)) kept₂)
          (chooses a c q.first_core d.core
          (record {
            condition = lies_kept kept₂ (omega (arith, g.behind)) q.condition;
            first = lies_kept kept₂ (omega arith) q.first;
            negates = negates_kept d.kept (omega (arith, e)) negates;
            other = d.lies;
            within = omega (arith, d.drawn);
          }))
