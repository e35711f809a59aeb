-- What desugaring gives of a use of a range: the use's own core, which does what the form says.
use mathlib.Core.Path.{◌≡◌, refl, subst, ◌∙◌}
use mathlib.Core.Option.{Option, some}
use mathlib.Core.List.{[], ◌∷◌}
use Prim.Native.Nat.{ℕ, ◌-◌}
use native.Mathlib.Omega.{arith}
use Rattle.literals.specs.Bits.{value_of}
use Rattle.literals.specs.Patterns.{Cidr, Exact, HoldsOf, IpRange, Pattern, Wildcard}
use Rattle.expr.specs.Answers.{Answer, and_then, map_answer, ok, refuse}
use Rattle.expr.specs.Terms.{Alias, Assigns, Core, Direct, Matches, Name, Ranged, Tests, Use, Where, size}
use Rattle.desugar.specs.Bindings.{Env, find_range, lookup_alias, range, variable}
use Rattle.desugar.specs.Claims.{Sets, TestsFor}
use Rattle.desugar.specs.Desugar.{desugar}
use Rattle.desugar.specs.Leaves.{use_core}
use Rattle.desugar.specs.Meter.{◌>>=◌, drawing, lift, spent}
use Rattle.desugar.specs.Packets.{Others}
use Rattle.desugar.specs.Rules.{known_range, range_rule}
use Rattle.desugar.proofs.Patterns.{assign_form, match_form, test_form}
use Rattle.netkat.specs.Demands.{Forms}
use Rattle.netkat.specs.Points.{Scope, cores, desugar_at}
use Rattle.netkat.proofs.AtPoint.{then_ok}

-- ## The range of a use

-- where the cores of the variables around a point are made, the aliases keep their ranges
cores_ranges : (sc : Scope) (env : Env Core) → cores sc ≡ ok env → (x : Name) → lookup_alias env x ≡ lookup_alias sc x
cores_ranges [] env h x = let e : env ≡ [] = cc in rw e
cores_ranges (range y s e ∷ sc) env h x =
    let k = then_ok (cores sc) (λ env. ok (range y s e ∷ env)) env h in
    let q : env ≡ range y s e ∷ k.0 = cc k.2 in
    rw (q, cores_ranges sc k.0 k.1 x)
cores_ranges (variable y d ∷ sc) env h x =
    let k = then_ok (cores sc) (λ env. and_then (desugar env d.0 d.1 (spent [])) λ r. ok (variable y r.0 ∷ env)) env h in
    let l = then_ok (desugar k.0 d.0 d.1 (spent [])) (λ r. ok (variable y r.0 ∷ k.0)) env k.2 in
    let q : env ≡ variable y l.0.0 ∷ k.0 = cc l.2 in
    rw (q, cores_ranges sc k.0 k.1 x)

cores_find : (sc : Scope) (env : Env Core) → cores sc ≡ ok env → (w : Where) → find_range env w ≡ find_range sc w
cores_find sc env h (Direct s e) = refl
cores_find sc env h (Alias x) = cores_ranges sc env h x

-- ## Its core

module _ (sc : Scope) (w : Where) (s e at : ℕ) (f : find_range sc w ≡ some (s, e)) where
  -- what is left once the range is found: its rules, and the draw
  abbrev behind : Use → Answer (Unit {0}) → Answer Core
  behind u x = map_answer (λ r. r.0) ((lift x >>= λ _. drawing (size (use_core u s (e - s))) at (use_core u s (e - s))) (spent []))

  -- the rules hold, and the core is the use's own
  given_core : (u : Use) (c : Core) → desugar_at sc (Ranged w u) at ≡ ok c → (range_rule w u (s, e) at ≡ ok tt) × (use_core u s (e - s) ≡ c)
  given_core u c h =
      let k = then_ok (cores sc) (λ env. map_answer (λ r. r.0) (desugar env (Ranged w u) at (spent []))) c h in
      judged (range_rule w u (s, e) at) refl (found k.0 (cores_find sc k.0 k.1 w ∙ f) k.2)
    where
      found : (env : Env Core) → find_range env w ≡ some (s, e) → map_answer (λ r. r.0) (desugar env (Ranged w u) at (spent [])) ≡ ok c
          → behind u (range_rule w u (s, e) at) ≡ ok c
      found env g q =
          subst
          (λ (o : Option (ℕ × ℕ)). map_answer (λ r. r.0)
          ((lift (known_range o at) >>= λ r. lift (range_rule w u r at) >>= λ _.
          drawing (size (use_core u r.0 (r.1 - r.0))) at (use_core u r.0 (r.1 - r.0))) (spent [])) ≡ ok c) g q

      judged : (x : Answer (Unit {0})) → range_rule w u (s, e) at ≡ x → behind u x ≡ ok c → (range_rule w u (s, e) at ≡ ok tt) × (use_core u s (e - s) ≡ c)
      judged (ok t) i q = (i, cc)
      judged (refuse r p) i q = let z : ◌≡◌ {A = ℕ} 0 1 = cc in absurd (omega arith)

  module _ (others : Others) where
    matches : (m : Pattern) (c : Core) → desugar_at sc (Ranged w (Matches m)) at ≡ ok c → TestsFor others c s e (HoldsOf m (e - s))
    matches m c h = let k = given_core (Matches m) c h in subst (λ d. TestsFor others d s e (HoldsOf m (e - s))) k.1 (match_form others w s e at m k.0)

    form_of : Forms others sc w s e at
    form_of =
        record {
          test = λ a c h. let k = given_core (Tests a) c h in subst (λ d. TestsFor others d s e (λ v. v ≡ value_of a)) k.1 (test_form others w s e at a k.0);
          assign = λ a c h. let k = given_core (Assigns a) c h in subst (λ d. Sets others d s e (value_of a)) k.1 (assign_form others w s e at a k.0);
          exact = λ a. matches (Exact a);
          cidr = λ a k. matches (Cidr a k);
          wildcard = λ a m. matches (Wildcard a m);
          ip_range = λ a b. matches (IpRange a b);
        }

pub each_form : (others : Others) (sc : Scope) (w : Where) (s e at : ℕ) → find_range sc w ≡ some (s, e) → Forms others sc w s e at
each_form others sc w s e at f = form_of sc w s e at f others
