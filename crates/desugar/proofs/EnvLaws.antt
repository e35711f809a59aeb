-- Laws of bindings: an environment with its variables' values seen through a function.
use mathlib.Core.Path.{◌≡◌, refl}
use mathlib.Core.Bool.{Bool, true, false, cond}
use mathlib.Core.Option.{Option, none, some}
use mathlib.Core.List.{[], ◌∷◌}
use Prim.Native.Nat.{ℕ}
use lib.Dec.{eqb}
use Rattle.literals.proofs.Logic.{eqb_is, false_of}
use Rattle.expr.specs.Terms.{Alias, Direct, Name, Where}
use Rattle.desugar.specs.Bindings.{Binding, Env, find_range, lookup_alias, lookup_variable, range, variable}

-- ## Look-ups

module _ {ℓ} {A : Type ℓ} (env : Env A) (x y : Name) where
  -- "the innermost binding counts"
  pub innermost_variable : (v : A) → lookup_variable (variable x v ∷ env) x ≡ some v
  innermost_variable v = rw ((eqb_is x x).1 refl)

  pub innermost_alias : (s e : ℕ) → lookup_alias (range x s e ∷ env) x ≡ some (s, e)
  innermost_alias s e = rw ((eqb_is x x).1 refl)

  -- a binding of another name changes nothing
  pub other_variable : (v : A) → ¬ (x ≡ y) → lookup_variable (variable y v ∷ env) x ≡ lookup_variable env x
  other_variable v n = rw (false_of (eqb x y) (λ h. n ((eqb_is x y).0 h)))

  pub other_alias : (s e : ℕ) → ¬ (x ≡ y) → lookup_alias (range y s e ∷ env) x ≡ lookup_alias env x
  other_alias s e n = rw (false_of (eqb x y) (λ h. n ((eqb_is x y).0 h)))

  -- "two separate name spaces"
  pub alias_apart : (s e : ℕ) → lookup_variable (range y s e ∷ env) x ≡ lookup_variable env x
  alias_apart s e = refl

  pub variable_apart : (v : A) → lookup_alias (variable y v ∷ env) x ≡ lookup_alias env x
  variable_apart v = refl

-- ## Values seen through a function

abbrev pub map_option {ℓ ℓ'} : {A : Type ℓ} {B : Type ℓ'} → (A → B) → Option A → Option B
map_option f none = none
map_option f (some a) = some (f a)

module _ {ℓ ℓ'} {A : Type ℓ} {B : Type ℓ'} (f : A → B) where
  abbrev pub map_binding : Binding A → Binding B
  map_binding (variable x v) = variable x (f v)
  map_binding (range x s e) = range x s e

  -- each variable's value seen through f
  abbrev pub map_env : Env A → Env B
  map_env [] = []
  map_env (b ∷ env) = map_binding b ∷ map_env env

  variable_step : (hit : Bool) (v : A) (o : Option A)
      → cond hit (some (f v)) (map_option f o) ≡ map_option f (cond hit (some v) o)
  variable_step true v o = refl
  variable_step false v o = refl

  pub lookup_variable_map : (env : Env A) (x : Name) → lookup_variable (map_env env) x ≡ map_option f (lookup_variable env x)
  lookup_variable_map [] x = refl
  lookup_variable_map (variable y v ∷ env) x = rw (lookup_variable_map env x) (variable_step (eqb x y) v (lookup_variable env x))
  lookup_variable_map (range y s e ∷ env) x = lookup_variable_map env x

  pub lookup_alias_map : (env : Env A) (x : Name) → lookup_alias (map_env env) x ≡ lookup_alias env x
  lookup_alias_map [] x = refl
  lookup_alias_map (variable y v ∷ env) x = lookup_alias_map env x
  lookup_alias_map (range y s e ∷ env) x = rw (lookup_alias_map env x)

  pub find_range_map : (env : Env A) (w : Where) → find_range (map_env env) w ≡ find_range env w
  find_range_map env (Direct s e) = refl
  find_range_map env (Alias x) = lookup_alias_map env x
