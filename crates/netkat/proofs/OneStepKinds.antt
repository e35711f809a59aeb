-- Where each record of a subterm and of the definitions around it has a one-step kind, the subterm is one-step where it is used.
use mathlib.Core.Bool.{Bool, true, false, cond}
use mathlib.Core.Option.{some, get_or}
use mathlib.Core.List.Memᴰ
use mathlib.Core.List.{[], ◌∷◌}
use Prim.Native.Nat.{ℕ, ◌+◌}
use lib.Dec.{eqb}
use Rattle.expr.specs.Terms.{Binary, Expr, IfThenElse, Let, LetBitRange, Name, Plain, Ranged, TestNegation, Unary, Var, records}
use Rattle.desugar.specs.Bindings.{Env, lookup_variable, range, variable}
use Rattle.desugar.specs.Packets.{OneStep}
use Rattle.netkat.specs.Claims.{OneStepKinds}
use Rattle.netkat.specs.Points.{Scope, definitions, one_steps, point, walk}
use Rattle.netkat.proofs.Inside.{own_point}

-- each variable of env has it
abbrev Given : Env (Type 0) → Type 0
Given [] = Unit {0}
Given (variable x P ∷ env) = P × Given env
Given (range x s e ∷ env) = Given env

look : (env : Env (Type 0)) (x : Name) → Given env → get_or (lookup_variable env x) (Unit {0})
look [] x g = tt
look (variable y P ∷ env) x g = go (eqb x y) (look env x g.1)
  where
    go : (b : Bool) → get_or (lookup_variable env x) (Unit {0}) → get_or (cond b (some P) (lookup_variable env x)) (Unit {0})
    go true h = g.0
    go false h = h
look (range y s e ∷ env) x g = look env x g

steps : (sc : Scope) (e : Expr) (at : ℕ) → Given (one_steps sc) → OneStepKinds (walk sc e at) → OneStep (one_steps sc) e
steps sc (Plain a) at g h = h (point sc (Plain a) at) (own_point sc (Plain a) at)
steps sc (Unary o e) at g h = (
  h (point sc (Unary o e) at) (own_point sc (Unary o e) at),
  steps sc e (at + 1) g (λ p m. h p (Memᴰ.append_left _ m)),
)
steps sc (Binary o a b) at g h = (
  h (point sc (Binary o a b) at) (own_point sc (Binary o a b) at),
  steps sc a (at + 1) g (λ p m. h p (Memᴰ.append_left _ m)),
  steps sc b (at + 1 + records a) g (λ p m. h p (Memᴰ.append_right (walk sc a (at + 1)) (Memᴰ.append_left _ m))),
)
steps sc (TestNegation e) at g h = steps sc e (at + 1) g (λ p m. h p (Memᴰ.append_left _ m))
steps sc (IfThenElse c t e) at g h = (
  steps sc c (at + 1) g (λ p m. h p (Memᴰ.append_left _ m)),
  steps sc t (at + 1 + records c) g (λ p m. h p (Memᴰ.append_right (walk sc c (at + 1)) (Memᴰ.append_left _ m))),
  steps sc e (at + 1 + records c + records t) g (λ p m.
      h p (Memᴰ.append_right (walk sc c (at + 1)) (Memᴰ.append_right (walk sc t (at + 1 + records c)) (Memᴰ.append_left _ m)))),
)
steps sc (Let x d b) at g h =
    steps (variable x (d, at + 1) ∷ sc) b (at + 1 + records d)
    (steps sc d (at + 1) g (λ p m. h p (Memᴰ.append_left _ m)), g)
    (λ p m. h p (Memᴰ.append_right (walk sc d (at + 1)) (Memᴰ.append_left _ m)))
steps sc (LetBitRange x s e b) at g h = steps (range x s e ∷ sc) b (at + 1) g (λ p m. h p (Memᴰ.append_left _ m))
steps sc (Var x) at g h = look (one_steps sc) x g
steps sc (Ranged w u) at g h = tt

given : (sc : Scope) → OneStepKinds (definitions sc) → Given (one_steps sc)
given [] h = tt
given (variable x d ∷ sc) h =
    let g : Given (one_steps sc) = given sc (λ p m. h p (Memᴰ.append_left _ m)) in
    (steps sc d.0 d.1 g (λ p m. h p (Memᴰ.append_right (definitions sc) m)), g)
given (range x s e ∷ sc) h = given sc h

pub one_step_kinds : (sc : Scope) (e : Expr) (at : ℕ) → OneStepKinds (walk sc e at) → OneStepKinds (definitions sc) → OneStep (one_steps sc) e
one_step_kinds sc e at h d = steps sc e at (given sc d) h
