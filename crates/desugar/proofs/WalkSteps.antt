-- The walk over operators with one operand, and over bindings: from the core of the operand to its own.
use mathlib.Core.Path.{◌≡◌, refl}
use mathlib.Core.List.{List, [], ◌∷◌}
use Prim.Native.Nat.{ℕ, ◌+◌, ◌-◌, ◌≤◌}
use native.Mathlib.Omega.{arith}
use lib.ListN.{length}
use Rattle.std.specs.Prelude.{Result}
use Rattle.refusals.specs.declared.Refused.{Refused}
use Rattle.desugar.specs.declared.operands.Walked.{Walked}
use Rattle.expr.specs.Answers.{Answer}
use Rattle.expr.specs.Terms.{Core, one, Expr, Unary, TestNegation, LetBitRange, records}
use Rattle.expr.specs.Form.{encode}
use Rattle.desugar.specs.Bindings.{Env, range}
use Rattle.desugar.specs.Meter.{Meter, left, drawing}
use Rattle.desugar.specs.Desugar.{desugar}
use Rattle.desugar.specs.Memory.{Kept, Lies}
use Rattle.desugar.specs.BindingWords.{Bound}
use Rattle.desugar.specs.WalkWords.{TermsAt, Stack, WalkedCore, WalkedAs, Ready, ReadyOne, Operator1, Operands, negating, NegationRoom}
use Rattle.desugar.proofs.Regions.{kept_all, kept_less}
use Rattle.desugar.proofs.Closing.{one_operand}
use Rattle.desugar.proofs.WalkLaws.{stack_moved, ready_first, Visited, wider, then_ok}

-- what is asked of the first operand, which is worked out a little above the top
abbrev pub first_ready : {s xs : List ℕ} {from l last top a : ℕ} {env : Env Core} (place top' : ℕ) (e : Expr) (es : List Expr)
    → TermsAt s from l (place + 1) (e ∷ es) → Stack xs last top a (l + 1) env → top ≤ top' → top' ≤ top + 12
    → Ready s from l (place + 1) last top' a xs
first_ready {xs = xs} {last = last} place top' e es t k low high =
    ready_first e es t (stack_moved k (kept_all last xs) (omega arith) (omega (arith, k.below)) (omega arith))

-- ## One operand

module _ {s xs : List ℕ} {from l last top a : ℕ} (place : ℕ) (q : ReadyOne s from l place last top a xs) where
  -- the operand's answer, and what is said of an answer of the whole
  abbrev x₁ : Answer (Core × Meter)
  x₁ = desugar q.env q.first (place + 1) (left a)

  abbrev WalkedTo : Expr → List ℕ → Result Walked Refused → Type 0
  WalkedTo e ys r =
      WalkedAs (desugar q.env e place (left a)) (from + length (encode q.first)) (place + 1 + records q.first) top a (l + 1) xs ys r

  abbrev pub Arrived : List ℕ → Walked → ℕ → Type 0
  Arrived xs₁ w top' = WalkedCore x₁ (from + length (encode q.first)) (place + 1 + records q.first) top' a l xs xs₁ w

  -- Complement, Star, LtlNext: a record below the operand
  pub unary_done : {kind : ℕ} {w : Walked} (xs₁ xs₂ : List ℕ) (r : Result Walked Refused) (k : Operator1 kind) → Arrived xs₁ w (top + 3)
      → ((c : Core) → Operands c kind w xs₁
      → WalkedAs (drawing 1 place c (left w.left)) w.used w.next (w.core.at - 3) (w.core.count + w.left) 0 xs₁ xs₂ r)
      → WalkedTo (Unary k.o q.first) xs₂ r
  unary_done {w = w} xs₁ xs₂ r k c seal =
      wider (desugar q.env (Unary k.o q.first) place (left a)) (drawing 1 place (one k.o c.core) (left w.left))
      (from + length (encode q.first)) w.used (place + 1 + records q.first) w.next top (w.core.at - 3) a (w.core.count + w.left) (l + 1) 0
      xs xs₁ xs₂ r (then_ok _ c.is) c.used_is c.next_is (omega (arith, c.above)) (omega (arith, c.reach, c.above)) c.drawn
      (kept_less (omega arith) c.kept)
      (seal (one k.o c.core)
      (one_operand k.o c.core k.is c.lies))

  -- TestNegation: the operand's negation in its place
  pub negation_done : {w : Walked} (xs₁ xs₂ : List ℕ) (r : Result Walked Refused) → Arrived xs₁ w top
      → ((c : Core) → Lies xs₁ w.core.at w.core.count c
      → WalkedAs (negating c place (left w.left)) w.used w.next w.core.at (w.core.count + w.left) 0 xs₁ xs₂ r)
      → WalkedTo (TestNegation q.first) xs₂ r
  negation_done {w = w} xs₁ xs₂ r c negate =
      wider (desugar q.env (TestNegation q.first) place (left a)) (negating c.core place (left w.left))
      (from + length (encode q.first)) w.used (place + 1 + records q.first) w.next top w.core.at a (w.core.count + w.left) (l + 1) 0
      xs xs₁ xs₂ r (then_ok _ c.is) c.used_is c.next_is c.above (omega (arith, c.reach)) c.drawn c.kept
      (negate c.core c.lies)

  pub negation_room : {w : Walked} {xs₁ : List ℕ} → Arrived xs₁ w top → NegationRoom xs₁ w
  negation_room c =
      record {
        core = c.core;
        lies = c.lies;
        room = omega (arith, c.reach, c.drawn, q.stack.room, c.kept.long);
        small = omega (arith, c.drawn, q.stack.small);
      }

  -- LetBitRange: the body under one binding more
  module _ (x b e : ℕ) {inner : ℕ} {xs₁ : List ℕ} (top_is : inner ≡ top + 5) (kept : Kept top xs xs₁)
      (binds : (env : Env Core) → Bound xs last env → Bound xs₁ inner (range x b e ∷ env)) where
    abbrev pub alias_ready : Ready s from l (place + 1) inner (top + 5) a xs₁
    alias_ready =
        ready_first {env = range x b e ∷ q.env} q.first [] q.text
        (record {
          bound = binds q.env q.stack.bound;
          below = omega (arith, top_is);
          room = omega (arith, q.stack.room, kept.long);
          small = omega (arith, q.stack.small);
        })

    pub alias_done : (xs₂ : List ℕ) (r : Result Walked Refused) → Visited s from l (place + 1) inner (top + 5) a xs₁ xs₂ r → WalkedTo (LetBitRange x b e q.first) xs₂ r
    alias_done xs₂ r v =
        wider (desugar q.env (LetBitRange x b e q.first) place (left a)) (desugar (range x b e ∷ q.env) q.first (place + 1) (left a))
        (from + length (encode q.first)) (from + length (encode q.first)) (place + 1 + records q.first) (place + 1 + records q.first)
        top (top + 5) a a (l + 1) l xs xs₁ xs₂ r refl refl refl (omega arith) (omega arith) (omega arith) kept (v alias_ready)
