-- The points of a term (document 01, "The words of demand 3").
use mathlib.Core.{List.List, List.[], List.◌∷◌, List.◌++◌}
use Rattle.std.specs.Prelude.{ℕ, ◌+◌}
use Rattle.expr.specs.{Answers.Answer, Answers.ok, Answers.and_then, Answers.map_answer, Terms.Core, Terms.Expr, Terms.Plain, Terms.Unary, Terms.Binary, Terms.TestNegation, Terms.IfThenElse, Terms.Let, Terms.LetBitRange, Terms.Var, Terms.Ranged, Terms.records}
use Rattle.desugar.specs.{Bindings.Env, Bindings.variable, Bindings.range, Meter.spent, Desugar.desugar, Packets.Relation, Packets.Others, Packets.means, Packets.OneStep}

-- "Around it stand the Lets and LetBitRanges in whose body it lies": innermost first, a variable with its definition and its place
abbrev pub Scope : Type 0
Scope = Env (Expr × ℕ)

-- "a point is a record of the term, with the subterm that begins there"
pub record Point : Type 0 where
  pub scope : Scope
  pub term : Expr
  pub place : ℕ

abbrev pub point : Scope → Expr → ℕ → Point
point sc e at = record { scope = sc; term = e; place = at }

-- "Children go left to right, then the node's own rules and draw.": the points of a term in walking order
abbrev pub walk : Scope → Expr → ℕ → List Point
walk sc (Plain a) at = point sc (Plain a) at ∷ []
walk sc (Unary o e) at = walk sc e (at + 1) ++ point sc (Unary o e) at ∷ []
walk sc (Binary o a b) at = walk sc a (at + 1) ++ (walk sc b (at + 1 + records a) ++ point sc (Binary o a b) at ∷ [])
walk sc (TestNegation e) at = walk sc e (at + 1) ++ point sc (TestNegation e) at ∷ []
walk sc (IfThenElse c t e) at =
    walk sc c (at + 1)
    ++ (walk sc t (at + 1 + records c) ++ (walk sc e (at + 1 + records c + records t) ++ point sc (IfThenElse c t e) at ∷ []))
walk sc (Let x d b) at =
    walk sc d (at + 1) ++ (walk (variable x (d, at + 1) ∷ sc) b (at + 1 + records d) ++ point sc (Let x d b) at ∷ [])
walk sc (LetBitRange x s e b) at = walk (range x s e ∷ sc) b (at + 1) ++ point sc (LetBitRange x s e b) at ∷ []
walk sc (Var x) at = point sc (Var x) at ∷ []
walk sc (Ranged w u) at = point sc (Ranged w u) at ∷ []

-- the points of the definitions around a point, the outermost definition first
abbrev pub definitions : Scope → List Point
definitions [] = []
definitions (variable x d ∷ sc) = definitions sc ++ walk sc d.0 d.1
definitions (range x s e ∷ sc) = definitions sc

-- "a variable stands for the core of its definition, made the same way at the definition's own point, an alias for its range"
abbrev pub cores : Scope → Answer (Env Core)
cores [] = ok []
cores (variable x d ∷ sc) =
    and_then (cores sc) λ env.
    and_then (desugar env d.0 d.1 (spent [])) λ r.
    ok (variable x r.0 ∷ env)
cores (range x s e ∷ sc) = and_then (cores sc) λ env. ok (range x s e ∷ env)

-- "Desugaring a subterm at a point, without limit, is the walking rules on that subterm"
abbrev pub desugar_at : Scope → Expr → ℕ → Answer Core
desugar_at sc e at = and_then (cores sc) λ env. map_answer (λ r. r.0) (desugar env e at (spent []))

-- "The written meaning at a point is the relation above under the bindings around it."
abbrev pub meanings : Others → Scope → Env Relation
meanings others [] = []
meanings others (variable x d ∷ sc) = variable x (means others (meanings others sc) d.0) ∷ meanings others sc
meanings others (range x s e ∷ sc) = range x s e ∷ meanings others sc

abbrev pub means_at : Others → Scope → Expr → Relation
means_at others sc e = means others (meanings others sc) e

-- of which definitions around a point the kinds are one-step, apart from inner definitions that they do not use
abbrev pub one_steps : Scope → Env (Type 0)
one_steps [] = []
one_steps (variable x d ∷ sc) = variable x (OneStep (one_steps sc) d.0) ∷ one_steps sc
one_steps (range x s e ∷ sc) = range x s e ∷ one_steps sc
