-- Laws of substitution.
use mathlib.Core.Path.{◌≡◌, refl, sym, ap, ap₂}
use mathlib.Core.Bool.{Bool, true, false, cond}
use Prim.Native.Nat.{ℕ}
use lib.Dec.{eqb}
use Rattle.literals.proofs.Logic.{eqb_is}
use Rattle.expr.specs.Terms.{Name, Expr, Plain, Unary, Binary, TestNegation, IfThenElse, Let, LetBitRange, Var, Ranged}
use Rattle.expr.specs.Operations.{substitute}

-- a binding of the name stops the substitution in its body: a Let's definition is still substituted
pub let_shadows : (x : Name) (r d b : Expr) → substitute x r (Let x d b) ≡ Let x (substitute x r d) b
let_shadows x r d b = rw ((eqb_is x x).1 refl)

pub alias_shadows : (x : Name) (s e : ℕ) (r b : Expr) → substitute x r (LetBitRange x s e b) ≡ LetBitRange x s e b
alias_shadows x s e r b = rw ((eqb_is x x).1 refl)

either : {A : Type 0} (h : Bool) {a b : A} → b ≡ a → cond h a b ≡ a
either true e = refl
either false e = e

same_name : (x y : Name) (h : Bool) → eqb y x ≡ h → cond h (Var x) (Var y) ≡ Var y
same_name x y true e = ap Var (sym ((eqb_is y x).0 e))
same_name x y false e = refl

-- a variable put for itself changes nothing
pub substitute_self : (x : Name) (e : Expr) → substitute x (Var x) e ≡ e
substitute_self x (Plain a) = refl
substitute_self x (Unary o e) = ap (Unary o) (substitute_self x e)
substitute_self x (Binary o a b) = ap₂ (Binary o) (substitute_self x a) (substitute_self x b)
substitute_self x (TestNegation e) = ap TestNegation (substitute_self x e)
substitute_self x (IfThenElse c t e) = λ i. IfThenElse (substitute_self x c i) (substitute_self x t i) (substitute_self x e i)
substitute_self x (Let y d b) = ap₂ (Let y) (substitute_self x d) (either (eqb y x) (substitute_self x b))
substitute_self x (LetBitRange y s e b) = ap (LetBitRange y s e) (either (eqb y x) (substitute_self x b))
substitute_self x (Var y) = same_name x y (eqb y x) refl
substitute_self x (Ranged w u) = refl
