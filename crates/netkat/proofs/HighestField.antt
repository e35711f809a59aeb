-- Field count declines at the first Assign or Test of the highest field, and nowhere else.
use mathlib.Core.Path.{◌≡◌, refl, ap, subst}
use mathlib.Core.Logic.{◌↔◌}
use mathlib.Core.Bool.{Bool, true, false}
use mathlib.Core.List.Memᴰ
use mathlib.Core.List.{List, [], ◌∷◌, ◌++◌, Memᴰ}
use Prim.Native.Nat.{ℕ, ◌+◌, ◌^◌, ◌≤◌, ◌<◌, max}
use native.Mathlib.Omega.{arith}
use lib.Dec.{ltb}
use borrow.Author.Tests.{ltb-false, ltb-true}
use Rattle.expr.specs.Answers.{Answer, and_then, map_answer, need, ok, refuse}
use Rattle.expr.specs.Operations.{atom_fields, num_fields}
use Rattle.expr.specs.Terms.{Alias, Assign, Atom, Binary, Direct, Dup, End, Expr, IfThenElse, Let, LetBitRange, One, Plain, Ranged, Test, TestNegation, Top, Unary, Var, Zero, records}
use Rattle.expr.proofs.TermShape.{records_is}
use Rattle.desugar.specs.Bindings.{range, variable}
use Rattle.netkat.specs.Claims.{HighestField, Inside, body, condition, definition, else_branch, first, here, negated, range_body, second, then_branch, unary}
use Rattle.netkat.specs.Points.{Point, Scope, point, walk}
use Rattle.netkat.proofs.Inside.{by_part, walk_inside}

-- ## Places

-- a subterm begins at one of the term's records
inside_placed : {sc' : Scope} {e' : Expr} {at' : ℕ} {sc : Scope} {e : Expr} {at : ℕ} → Inside sc' e' at' sc e at → (at ≤ at') × (at' < at + records e)
inside_placed {sc'} {e'} here = (omega arith, omega (arith, records_is e'))
inside_placed (unary i) = let h = inside_placed i in (omega (arith, h.0), omega (arith, h.1))
inside_placed (first i) = let h = inside_placed i in (omega (arith, h.0), omega (arith, h.1))
inside_placed (second i) = let h = inside_placed i in (omega (arith, h.0), omega (arith, h.1))
inside_placed (negated i) = let h = inside_placed i in (omega (arith, h.0), omega (arith, h.1))
inside_placed (condition i) = let h = inside_placed i in (omega (arith, h.0), omega (arith, h.1))
inside_placed (then_branch i) = let h = inside_placed i in (omega (arith, h.0), omega (arith, h.1))
inside_placed (else_branch i) = let h = inside_placed i in (omega (arith, h.0), omega (arith, h.1))
inside_placed (definition i) = let h = inside_placed i in (omega (arith, h.0), omega (arith, h.1))
inside_placed (body i) = let h = inside_placed i in (omega (arith, h.0), omega (arith, h.1))
inside_placed (range_body i) = let h = inside_placed i in (omega (arith, h.0), omega (arith, h.1))

placed : (sc : Scope) (e : Expr) (at : ℕ) (p : Point) → Memᴰ p (walk sc e at) → (at ≤ p.place) × (p.place < at + records e)
placed sc e at p m = inside_placed (walk_inside sc e at p m)

-- ## The first of a list of points

abbrev Least : List Point → Point → Type 0
Least ps p = (q : Point) → Memᴰ q ps → HighestField q.term → p.place ≤ q.place

-- an answer on these points: a count where none has the highest field, else 25 at the one with the least place
pub data First (ps : List Point) : Answer ℕ → Type 0 where
  none : (n : ℕ) → ((q : Point) → Memᴰ q ps → ¬ HighestField q.term) → First ps (ok n)
  found : (p : Point) → Memᴰ p ps → HighestField p.term → Least ps p → First ps (refuse 25 p.place)

first_map : {ps : List Point} {x : Answer ℕ} (f : ℕ → ℕ) → First ps x → First ps (map_answer f x)
first_map f (none n h) = none (f n) h
first_map f (found p m h l) = found p m h l

-- two lists one behind the other, the highest fields of the second at later places
first_then : (ps qs : List Point) {x : Answer ℕ} (g : ℕ → Answer ℕ) → First ps x → ((n : ℕ) → First qs (g n))
    → ((p q : Point) → Memᴰ p ps → Memᴰ q qs → HighestField q.term → p.place ≤ q.place) → First (ps ++ qs) (and_then x g)
first_then ps qs g (found p m h l) k o = found p (Memᴰ.append_left qs m) h (λ q n. by_part ps qs n (λ i. l q i) (λ i. o p q m i))
first_then ps qs g (none n h) k o = go (k n)
  where
    go : {y : Answer ℕ} → First qs y → First (ps ++ qs) y
    go (none m j) = none m (λ q i. by_part ps qs i (λ z. h q z) (λ z. j q z))
    go (found p m j l) = found p (Memᴰ.append_right ps m) j (λ q i. by_part ps qs i (λ z f. absurd (h q z f)) (λ z. l q z))

-- a record that is no Assign or Test
module _ (sc : Scope) (e : Expr) (at : ℕ) (h : ¬ HighestField e) where
  only : (q : Point) → Memᴰ q (point sc e at ∷ []) → ¬ HighestField q.term
  only q m f = h (subst (λ (r : Point). HighestField r.term) (Memᴰ.eq_of_singleton m) f)

  -- behind its children
  own_last : (ps : List Point) {x : Answer ℕ} (g : ℕ → ℕ) → First ps x → First (ps ++ point sc e at ∷ []) (and_then x (λ n. ok (g n)))
  own_last ps g k = first_then ps (point sc e at ∷ []) (λ n. ok (g n)) k (λ n. none (g n) only) (λ p q i j f. absurd (only q j f))

  same_last : (ps : List Point) {x : Answer ℕ} → First ps x → First (ps ++ point sc e at ∷ []) x
  same_last ps (none n j) = own_last ps (λ n. n) (none n j)
  same_last ps (found p m j l) = own_last ps (λ n. n) (found p m j l)

  -- a child's points, then those of a later child and the record's own
  order : (a : Expr) (from : ℕ) (qs : List Point) (p q : Point) → Memᴰ p (walk sc a from) → Memᴰ q (qs ++ point sc e at ∷ [])
      → ((r : Point) → Memᴰ r qs → from + records a ≤ r.place) → HighestField q.term → p.place ≤ q.place
  order a from qs p q m n later f =
      by_part qs (point sc e at ∷ []) n
      (λ i. let z = placed sc a from p m in omega (arith, z.1, later q i))
      (λ i. absurd (only q i f))

-- an atom's count is beyond 32 bits exactly if it is an Assign or Test of the highest field
highest_is : (a : Atom) → HighestField (Plain a) ↔ (2 ^ 32 ≤ atom_fields a)
highest_is Zero = ((λ h. absurd h), (λ h. absurd (omega arith)))
highest_is One = ((λ h. absurd h), (λ h. absurd (omega arith)))
highest_is Top = ((λ h. absurd h), (λ h. absurd (omega arith)))
highest_is Dup = ((λ h. absurd h), (λ h. absurd (omega arith)))
highest_is End = ((λ h. absurd h), (λ h. absurd (omega arith)))
highest_is (Assign f v) = ((λ h. h), (λ h. h))
highest_is (Test f v) = ((λ h. h), (λ h. h))

atom_first : (sc : Scope) (a : Atom) (at : ℕ) → First (walk sc (Plain a) at) (num_fields (Plain a) at)
atom_first sc a at = go (ltb (atom_fields a) (2 ^ 32)) refl
  where
    go : (b : Bool) → ltb (atom_fields a) (2 ^ 32) ≡ b → First (point sc (Plain a) at ∷ []) (and_then (need b 25 at) λ _. ok (atom_fields a))
    go true e = none (atom_fields a) (only sc (Plain a) at (λ h. let l : atom_fields a < 2 ^ 32 = ltb-true _ _ e in absurd (omega (arith, (highest_is a).0 h))))
    go false e = found (point sc (Plain a) at) (Memᴰ.head refl) ((highest_is a).1 (ltb-false _ _ e)) (λ q m f. least q m)
      where
        least : (q : Point) → Memᴰ q (point sc (Plain a) at ∷ []) → at ≤ q.place
        least q m = let z = ap (λ (r : Point). r.place) (Memᴰ.eq_of_singleton m) in omega (arith, z)

pub first_highest : (sc : Scope) (e : Expr) (at : ℕ) → First (walk sc e at) (num_fields e at)
first_highest sc (Plain a) at = atom_first sc a at
first_highest sc (Unary o e) at = same_last sc (Unary o e) at (λ h. h) (walk sc e (at + 1)) (first_highest sc e (at + 1))
first_highest sc (TestNegation e) at = same_last sc (TestNegation e) at (λ h. h) (walk sc e (at + 1)) (first_highest sc e (at + 1))
first_highest sc (Binary o a b) at =
    first_then (walk sc a (at + 1)) _ _ (first_highest sc a (at + 1))
    (λ m. own_last sc (Binary o a b) at (λ h. h) (walk sc b (at + 1 + records a)) (max m) (first_highest sc b (at + 1 + records a)))
    (λ p q i j. order sc (Binary o a b) at (λ h. h) a (at + 1) (walk sc b (at + 1 + records a)) p q i j (λ r k. (placed sc b (at + 1 + records a) r k).0))
first_highest sc (IfThenElse c t e) at =
    let fe : ℕ = at + 1 + records c + records t in
    first_then (walk sc c (at + 1)) _ _ (first_highest sc c (at + 1))
    (λ l. first_then (walk sc t (at + 1 + records c)) _ _ (first_highest sc t (at + 1 + records c))
    (λ m. own_last sc (IfThenElse c t e) at (λ h. h) (walk sc e fe) (max (max l m)) (first_highest sc e fe))
    (λ p q i j. order sc (IfThenElse c t e) at (λ h. h) t (at + 1 + records c) (walk sc e fe) p q i j (λ r k. (placed sc e fe r k).0)))
    (λ p q i j f. by_part (walk sc t (at + 1 + records c)) _ j
    (λ z. let u = placed sc c (at + 1) p i in let v = placed sc t (at + 1 + records c) q z in omega (arith, u.1, v.0))
    (λ z. order sc (IfThenElse c t e) at (λ h. h) c (at + 1) (walk sc e fe) p q i z (λ r k. let v = placed sc e fe r k in omega (arith, v.0)) f))
first_highest sc (Let x d b) at =
    first_then (walk sc d (at + 1)) _ _ (first_highest sc d (at + 1))
    (λ m. own_last sc (Let x d b) at (λ h. h) (walk (variable x (d, at + 1) ∷ sc) b (at + 1 + records d)) (max m) (first_highest (variable x (d, at + 1) ∷ sc) b (at + 1 + records d)))
    (λ p q i j. order sc (Let x d b) at (λ h. h) d (at + 1) (walk (variable x (d, at + 1) ∷ sc) b (at + 1 + records d)) p q i j (λ r k. (placed (variable x (d, at + 1) ∷ sc) b (at + 1 + records d) r k).0))
first_highest sc (LetBitRange x s e b) at =
    same_last sc (LetBitRange x s e b) at (λ h. h) (walk (range x s e ∷ sc) b (at + 1)) (first_map (max e) (first_highest (range x s e ∷ sc) b (at + 1)))
first_highest sc (Var x) at = none 0 (only sc (Var x) at (λ h. h))
first_highest sc (Ranged (Direct s e) u) at = none e (only sc (Ranged (Direct s e) u) at (λ h. h))
first_highest sc (Ranged (Alias x) u) at = none 0 (only sc (Ranged (Alias x) u) at (λ h. h))

-- ## Both ways

pub refused_at_first : {ps : List Point} {x : Answer ℕ} → First ps x → (p : Point) → Memᴰ p ps → HighestField p.term → Least ps p
    → x ≡ refuse 25 p.place
refused_at_first (none n h) p m f l = absurd (h p m f)
refused_at_first (found q n g k) p m f l = let e : q.place ≡ p.place = omega (arith, k p m f, l q n g) in ap (refuse 25) e

pub record Refused (ps : List Point) (k p : ℕ) : Type 0 where
  pub point : Point
  pub member : Memᴰ point ps
  pub highest : HighestField point.term
  pub least : Least ps point
  pub number : 25 ≡ k
  pub place : point.place ≡ p

pub first_refused : {ps : List Point} {x : Answer ℕ} {k p : ℕ} → First ps x → x ≡ refuse k p → Refused ps k p
first_refused (none n h) e = let z : ◌≡◌ {A = ℕ} 0 1 = cc in absurd (omega arith)
first_refused (found q m h l) e = record { point = q; member = m; highest = h; least = l; number = cc; place = cc }
