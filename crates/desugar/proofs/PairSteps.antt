-- The walk over two operands, and over a Let: from the cores of its parts to its own.
use mathlib.Core.Path.{◌≡◌, sym, ap, ◌∙◌}
use mathlib.Core.Bool.{Bool, true, false, cond, ◌||◌, false≢true}
use mathlib.Core.List.{List, [], ◌∷◌}
use Prim.Native.Nat.{ℕ, ◌+◌, ◌-◌, ◌*◌, ◌≤◌}
use native.Mathlib.Nat.{sub-zero}
use native.Mathlib.Omega.{arith}
use lib.ListN.{length, length-append}
use Rattle.std.specs.Prelude.{Result, Ok}
use Rattle.refusals.specs.declared.Refused.{Refused}
use Rattle.desugar.specs.declared.memory.Region.{Region}
use Rattle.desugar.specs.declared.operands.Walked.{Walked}
use Rattle.literals.proofs.Logic.{leb_is}
use Rattle.expr.specs.Answers.{Answer, ok, refuse, and_then}
use Rattle.expr.specs.Terms.{Op2, Union, Intersect, Xor, Difference, Sequence, LtlUntil, Core, two, Expr, Binary, Let, Name, op2_kind, records}
use Rattle.expr.specs.Form.{encode}
use Rattle.expr.specs.Replaced.{encode_all}
use Rattle.desugar.specs.Bindings.{Env, variable}
use Rattle.desugar.specs.Meter.{Meter, left, drawing}
use Rattle.desugar.specs.Negation.{is_one, join, join_draw}
use Rattle.desugar.specs.Desugar.{desugar}
use Rattle.desugar.specs.Memory.{Kept, Lies}
use Rattle.desugar.specs.BindingWords.{Bound, FrameRoom}
use Rattle.desugar.specs.WalkWords.{TermsAt, WalkedCore, WalkedAs, Ready, ReadyTwo, Operator2, drops, JoinRoom}
use Rattle.desugar.proofs.Regions.{kept_then, kept_less}
use Rattle.desugar.proofs.Frames.{bound_kept, lies_kept}
use Rattle.desugar.proofs.WalkLaws.{rest_at, stack_moved, ready_first, lies_inside, Visited, Settled, wider, then_ok, then_refused}

-- a Sequence whose first operand is One is its second, and draws nothing
pub join_dropped : (o : Op2) (c d : Core) → drops o c ≡ true → (join o c d ≡ d) × (join_draw o c d ≡ 0)
join_dropped Union c d h = absurd (false≢true h)
join_dropped Intersect c d h = absurd (false≢true h)
join_dropped Xor c d h = absurd (false≢true h)
join_dropped Difference c d h = absurd (false≢true h)
join_dropped Sequence c d h = (ap (λ b. cond b d (cond (is_one d) c (two Sequence c d))) h, ap (λ b. cond (b || is_one d) 0 1) h)
join_dropped LtlUntil c d h = absurd (false≢true h)

nothing_drawn : (place : ℕ) (d : Core) (k : ℕ) → drawing 0 place d (left k) ≡ ok (d, left k)
nothing_drawn place d k = rw ((leb_is 0 k).1 (omega arith)) (ap gives (sub-zero k))
  where
    gives : ℕ → Answer (Core × Meter)
    gives n = ok (d, left n)

-- the second operand goes behind the first or in its place
pub second_between : (b : Bool) {r top end : ℕ} → r ≡ cond b top end → top ≤ end → (top ≤ r) × (r ≤ end)
second_between true e h = (omega arith, omega arith)
second_between false e h = (omega arith, omega arith)

pub pair_long : (a b : Expr) → length (encode_all (a ∷ b ∷ [])) ≡ length (encode a) + length (encode b)
pair_long a b = omega (arith, length-append (encode a) (encode_all (b ∷ [])), length-append (encode b) [])

module _ {s xs : List ℕ} {from l last top a : ℕ} (place : ℕ) (q : ReadyTwo s from l place last top a xs) where
  abbrev x₁ : Answer (Core × Meter)
  x₁ = desugar q.env q.first (place + 1) (left a)

  abbrev WalkedTo : Expr → List ℕ → Result Walked Refused → Type 0
  WalkedTo e ys r =
      WalkedAs (desugar q.env e place (left a)) (from + length (encode_all (q.first ∷ q.second ∷ [])))
      (place + 1 + records q.first + records q.second) top a (l + 1) xs ys r

  -- the first operand's core is settled at an index
  abbrev pub FirstSettled : ℕ → List ℕ → Walked → Region → Type 0
  FirstSettled at xs₂ w f = Settled x₁ (from + length (encode q.first)) (place + 1 + records q.first) at a xs xs₂ w f

  -- an operator's, above the room for its record
  module _ {w : Walked} {f : Region} {xs₂ : List ℕ} (c : FirstSettled (top + 3) xs₂ w f) where
    pub second_text : TermsAt s w.used l w.next (q.second ∷ [])
    second_text = rest_at q.first (q.second ∷ []) q.text c.used_is c.next_is

    abbrev pub second_ready : (to : ℕ) → top ≤ to → to ≤ f.at + 3 * f.count → Ready s w.used l w.next last to w.left xs₂
    second_ready to h k =
        ready_first q.second [] second_text
        (stack_moved q.stack c.kept (omega (arith, q.stack.below)) (omega (arith, q.stack.below)) (omega (arith, c.drawn, c.at_is)))

    abbrev x₂ : Env Core → Answer (Core × Meter)
    x₂ env = desugar env q.second w.next (left w.left)

    -- go on from the first operand to the second
    pub binary_is : (o : Op2) {d : Core} {k : ℕ} → x₂ q.env ≡ ok (d, left k)
        → desugar q.env (Binary o q.first q.second) place (left a) ≡ drawing (join_draw o c.core d) place (join o c.core d) (left k)
    binary_is o e =
        then_ok _ c.is
        ∙ ap
        (λ p. and_then (desugar q.env q.second p (left w.left)) (λ r. drawing (join_draw o c.core r.0) place (join o c.core r.0) r.1))
        (sym c.next_is)
        ∙ then_ok _ e

    pub binary_stops : (o : Op2) {n p : ℕ} → x₂ q.env ≡ refuse n p → desugar q.env (Binary o q.first q.second) place (left a) ≡ refuse n p
    binary_stops o e =
        then_ok _ c.is
        ∙ ap
        (λ p. and_then (desugar q.env q.second p (left w.left)) (λ r. drawing (join_draw o c.core r.0) place (join o c.core r.0) r.1))
        (sym c.next_is)
        ∙ then_refused _ e

    -- the second operand's core, worked out above an index
    abbrev pub SecondWalked : ℕ → List ℕ → Walked → Type 0
    SecondWalked to xs₃ w₂ = WalkedCore (x₂ q.env) (w.used + length (encode q.second)) (w.next + records q.second) to w.left l xs₂ xs₃ w₂

    module _ {w₂ : Walked} {xs₃ : List ℕ} {to : ℕ} (d : SecondWalked to xs₃ w₂) where
      abbrev used_all : w₂.used ≡ from + length (encode_all (q.first ∷ q.second ∷ []))
      used_all = omega (arith, c.used_is, d.used_is, pair_long q.first q.second)

      abbrev next_all : w₂.next ≡ place + 1 + records q.first + records q.second
      next_all = omega (arith, c.next_is, d.next_is)

      -- the first is dropped
      pub dropped_done : {kind : ℕ} (k : Operator2 kind) → to ≡ top → drops k.o c.core ≡ true
          → WalkedTo (Binary k.o q.first q.second) xs₃ (Ok w₂)
      dropped_done k e h =
          let j = join_dropped k.o c.core d.core h in
          record {
            core = d.core;
            is =
                binary_is k.o d.is ∙ (λ i. drawing (j.1 i) place (j.0 i) (left w₂.left))
                ∙ nothing_drawn place d.core w₂.left;
            used_is = used_all;
            next_is = next_all;
            lies = d.lies;
            kept = kept_then (kept_less (omega arith) c.kept) (kept_less (omega (arith, e)) d.kept);
            above = omega (arith, e, d.above);
            reach = omega (arith, e, d.reach, c.drawn);
            drawn = omega (arith, d.drawn, c.drawn);
          }

      pub join_room : to ≡ f.at + 3 * f.count → JoinRoom xs₃ f w₂
      join_room h = record { low = omega (arith, c.at_is); apart = omega (arith, h, d.above); room = lies_inside d.lies }

      -- both are kept, or the second is dropped
      pub joined_done : {kind : ℕ} (xs₄ : List ℕ) (r : Result Walked Refused) (k : Operator2 kind) → to ≡ f.at + 3 * f.count → drops k.o c.core ≡ false
          → ((o : Op2) (c d : Core) → op2_kind o ≡ kind → drops o c ≡ false → Lies xs₃ f.at f.count c → Lies xs₃ w₂.core.at w₂.core.count d
          → WalkedAs (drawing (join_draw o c d) place (join o c d) (left w₂.left)) w₂.used w₂.next (f.at - 3) (f.count + w₂.core.count + w₂.left) 0 xs₃ xs₄ r)
          → WalkedTo (Binary k.o q.first q.second) xs₄ r
      joined_done xs₄ r k h kept joins =
          let kept₃ : Kept top xs xs₃ = kept_then (kept_less (omega arith) c.kept) (kept_less (omega (arith, c.at_is, h)) d.kept) in
          wider (desugar q.env (Binary k.o q.first q.second) place (left a))
          (drawing (join_draw k.o c.core d.core) place (join k.o c.core d.core) (left w₂.left))
          (from + length (encode_all (q.first ∷ q.second ∷ []))) w₂.used (place + 1 + records q.first + records q.second) w₂.next
          top (f.at - 3) a (f.count + w₂.core.count + w₂.left) (l + 1) 0 xs xs₃ xs₄ r
          (binary_is k.o d.is) used_all next_all (omega (arith, c.at_is)) (omega (arith, c.at_is, c.drawn, d.drawn)) (omega (arith, c.drawn, d.drawn)) kept₃
          (joins k.o c.core d.core k.is kept (lies_kept d.kept (omega (arith, h)) c.lies) d.lies)

  -- Let: the definition's core lies at the top, and a frame behind it
  module _ {w : Walked} {f : Region} {xs₂ : List ℕ} (c : FirstSettled top xs₂ w f) {end : ℕ} (end_is : end ≡ f.at + 3 * f.count) where
    pub bound₂ : Bound xs₂ last q.env
    bound₂ = bound_kept q.env c.kept q.stack.below q.stack.bound

    pub frame_room : FrameRoom xs₂ last end
    frame_room =
        record {
          above = omega (arith, q.stack.below, c.at_is);
          room = omega (arith, q.stack.room, c.kept.long, c.drawn, c.at_is);
          small = omega (arith, q.stack.small, c.drawn, c.at_is);
        }

    module _ (x : Name) {inner : ℕ} {xs₃ : List ℕ} (top_is : inner ≡ end + 5) (kept : Kept end xs₂ xs₃)
        (binds : (env : Env Core) (d : Core) → Bound xs₂ last env → Lies xs₂ f.at f.count d → Bound xs₃ inner (variable x d ∷ env)) where
      abbrev pub body_ready : Ready s w.used l w.next inner (end + 5) w.left xs₃
      body_ready =
          ready_first {env = variable x c.core ∷ q.env} q.second [] (rest_at q.first (q.second ∷ []) q.text c.used_is c.next_is)
          (record {
            bound = binds q.env c.core bound₂ c.lies;
            below = omega (arith, top_is);
            room = omega (arith, q.stack.room, c.kept.long, kept.long, c.drawn, c.at_is);
            small = omega (arith, q.stack.small, c.drawn, c.at_is);
          })

      abbrev x₃ : Answer (Core × Meter)
      x₃ = desugar (variable x c.core ∷ q.env) q.second w.next (left w.left)

      let_is : desugar q.env (Let x q.first q.second) place (left a) ≡ x₃
      let_is = then_ok _ c.is ∙ ap (λ p. desugar (variable x c.core ∷ q.env) q.second p (left w.left)) (sym c.next_is)

      pub let_done : (xs₄ : List ℕ) (r : Result Walked Refused) → Visited s w.used l w.next inner (end + 5) w.left xs₃ xs₄ r
          → WalkedTo (Let x q.first q.second) xs₄ r
      let_done xs₄ r v =
          wider (desugar q.env (Let x q.first q.second) place (left a)) x₃ (from + length (encode_all (q.first ∷ q.second ∷ [])))
          (w.used + length (encode q.second)) (place + 1 + records q.first + records q.second) (w.next + records q.second)
          top (end + 5) a w.left (l + 1) l xs xs₃ xs₄ r
          let_is (omega (arith, c.used_is, pair_long q.first q.second)) (omega (arith, c.next_is)) (omega (arith, c.at_is)) (omega (arith, c.drawn, c.at_is))
          (omega (arith, c.drawn)) (kept_then c.kept (kept_less (omega (arith, c.at_is)) kept)) (v body_ready)
