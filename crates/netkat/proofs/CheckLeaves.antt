-- What src/check.rt answers on a record without children, in the words of the definition.
use mathlib.Core.Path.{◌≡◌, refl, sym, ap, ◌∙◌}
use mathlib.Core.Bool.{Bool, true, false, ◌||◌}
use mathlib.Core.Option.{Option, none, some}
use mathlib.Core.List.{List, [], ◌∷◌}
use Prim.Native.Nat.{ℕ}
use native.Mathlib.Omega.{arith}
use lib.Dec.{eqb}
use lib.ListN.{get_or}
use Rattle.expr.specs.Answers.{Answer, and_then, map_answer, ok, refuse}
use Rattle.expr.specs.Operations.{is_test_use}
use Rattle.expr.specs.Terms.{Core, Name, Ranged, Use, Var, Where}
use Rattle.desugar.specs.Bindings.{Env, find_range, lookup_alias, lookup_variable, range, variable}
use Rattle.desugar.specs.Memory.{Lies}
use Rattle.desugar.specs.BindingWords.{unbound_number}
use Rattle.desugar.specs.declared.memory.Region.{Region}
use Rattle.desugar.specs.Rules.{bound_variable, known_range, range_rule}
use Rattle.desugar.specs.RangedWords.{judged_range}
use Rattle.desugar.proofs.EnvLaws.{find_range_map, lookup_alias_map, lookup_variable_map, map_env, map_option}
use Rattle.desugar.proofs.LeafSteps.{CoreFound}
use Rattle.desugar.proofs.Regions.{head}
use Rattle.netkat.specs.CheckWords.{check_walk, flags, sort_core}

-- ## Bindings

flags_map : (env : Env Bool) → flags env ≡ map_env sort_core env
flags_map [] = refl
flags_map (variable x s ∷ env) = ap (λ (l : Env Core). variable x (sort_core s) ∷ l) (flags_map env)
flags_map (range x s e ∷ env) = ap (λ (l : Env Core). range x s e ∷ l) (flags_map env)

module _ (env : Env Bool) where
  flag_variable : (x : Name) → lookup_variable (flags env) x ≡ map_option sort_core (lookup_variable env x)
  flag_variable x = ap (λ (l : Env Core). lookup_variable l x) (flags_map env) ∙ lookup_variable_map sort_core env x

  flag_alias : (x : Name) → lookup_alias (flags env) x ≡ lookup_alias env x
  flag_alias x = ap (λ (l : Env Core). lookup_alias l x) (flags_map env) ∙ lookup_alias_map sort_core env x

  flag_range : (w : Where) → find_range (flags env) w ≡ find_range env w
  flag_range w = ap (λ (l : Env Core). find_range l w) (flags_map env) ∙ find_range_map sort_core env w

-- ## Variables

abbrev is_some : Option Core → ℕ
is_some (some c) = 1
is_some none = 0

none_mapped : (o : Option Bool) → map_option sort_core o ≡ none → o ≡ none
none_mapped (some b) e = let z : ◌≡◌ {A = ℕ} 1 0 = ap is_some e in absurd (omega arith)
none_mapped none e = refl

some_mapped : (o : Option Bool) (c : Core) → map_option sort_core o ≡ some c → (b : Bool) × (o ≡ some b) × (c ≡ sort_core b)
some_mapped (some b) c e = let same : sort_core b ≡ c = cc in (b, refl, sym same)
some_mapped none c e = let z : ◌≡◌ {A = ℕ} 0 1 = ap is_some e in absurd (omega arith)

-- the first number of a sort's record says it
sort_read : (b : Bool) {xs : List ℕ} {at n : ℕ} → Lies xs at n (sort_core b) → eqb (get_or xs at 0) 0 ≡ b
sort_read true l = ap (λ k. eqb k 0) (head l.holds)
sort_read false l = ap (λ k. eqb k 0) (head l.holds)

module _ (env : Env Bool) (x : Name) (place : ℕ) where
  pub unbound : {n : ℕ} → lookup_variable (flags env) x ≡ none → n ≡ unbound_number (lookup_alias (flags env) x) → refuse n place ≡ check_walk env (Var x) place
  unbound {n} v e =
      ap (λ k. refuse k place) (e ∙ ap unbound_number (flag_alias env x)) ∙ which (lookup_alias env x)
      ∙ sym (ap (λ o. bound_variable o (lookup_alias env x) place) (none_mapped (lookup_variable env x) (sym (flag_variable env x) ∙ v)))
    where
      which : (o : Option (ℕ × ℕ)) → ◌≡◌ {A = Answer Bool} (refuse (unbound_number o) place) (bound_variable none o place)
      which (some r) = refl
      which none = refl

  pub sort_found : {xs : List ℕ} {last : ℕ} {r : Region} → CoreFound xs last (lookup_variable (flags env) x) r
      → ok (eqb (get_or xs r.at 0) 0) ≡ check_walk env (Var x) place
  sort_found {xs} {last} {r} f =
      let m = some_mapped (lookup_variable env x) f.core (sym (flag_variable env x) ∙ f.is) in
      let l : Lies xs r.at r.count (sort_core m.0) = rw (← m.2) f.at.lies in
      let v : lookup_variable env x ≡ some m.0 = m.1 in
      rw v (ap ok (sort_read m.0 l))

-- ## Uses of ranges

module _ (w : Where) (u : Use) (at : ℕ) (sort : ℕ × ℕ → Bool) where
  rule_sort : (r : ℕ × ℕ) (x : Answer (Unit {0})) → map_answer sort (and_then x (λ _. ok r)) ≡ and_then x (λ _. ok (sort r))
  rule_sort r (ok t) = refl
  rule_sort r (refuse n p) = refl

  known_sort : (o : Option (ℕ × ℕ)) → map_answer sort (and_then (known_range o at) (λ r. and_then (range_rule w u r at) (λ _. ok r)))
      ≡ and_then (known_range o at) (λ r. and_then (range_rule w u r at) (λ _. ok (sort r)))
  known_sort (some r) = rule_sort r (range_rule w u r at)
  known_sort none = refl

abbrev pub use_sort : Use → ℕ × ℕ → Bool
use_sort u r = is_test_use u || eqb r.0 r.1

pub ranged_sort : (env : Env Bool) (w : Where) (u : Use) (at : ℕ) → map_answer (use_sort u) (judged_range (flags env) w u at) ≡ check_walk env (Ranged w u) at
ranged_sort env w u at = rw (flag_range env w) (known_sort w u at (use_sort u) (find_range env w))
