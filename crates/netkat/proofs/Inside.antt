-- The points of a term: which they are, and that every record is the place of one.
use mathlib.Core.Path.{◌≡◌, refl, sym, subst, ◌∙◌}
use mathlib.Core.Logic.{◌⊎◌, inl, inr}
use mathlib.Core.List.Memᴰ
use mathlib.Core.List.{List, [], ◌∷◌, ◌++◌, Memᴰ}
use native.Mathlib.Nat.{add-zero}
use Prim.Native.Nat.{ℕ, zero, suc, ◌+◌, ◌-◌, ◌<◌}
use native.Mathlib.Omega.{arith}
use native.Mathlib.Decide.{dec_lt}
use lib.ListN.{length, length-append}
use Rattle.expr.specs.Terms.{Binary, Expr, IfThenElse, Let, LetBitRange, Plain, Ranged, TestNegation, Unary, Var, records}
use Rattle.desugar.specs.Bindings.{range, variable}
use Rattle.netkat.specs.Claims.{Inside, PointAt, body, condition, definition, else_branch, first, here, negated, range_body, second, then_branch, unary}
use Rattle.netkat.specs.Points.{Point, Scope, definitions, point, walk}

-- ## Every record is a point

pub walk_length : (sc : Scope) (e : Expr) (at : ℕ) → length (walk sc e at) ≡ records e
walk_length sc (Plain a) at = refl
walk_length sc (Unary o e) at = simp length-append (omega (arith, walk_length sc e (at + 1)))
walk_length sc (Binary o a b) at = simp length-append (omega (arith, walk_length sc a (at + 1), walk_length sc b (at + 1 + records a)))
walk_length sc (TestNegation e) at = simp length-append (omega (arith, walk_length sc e (at + 1)))
walk_length sc (IfThenElse c t e) at =
    simp length-append (omega (arith, walk_length sc c (at + 1), walk_length sc t (at + 1 + records c), walk_length sc e (at + 1 + records c + records t)))
walk_length sc (Let x d b) at =
    simp length-append (omega (arith, walk_length sc d (at + 1), walk_length (variable x (d, at + 1) ∷ sc) b (at + 1 + records d)))
walk_length sc (LetBitRange x s e b) at = simp length-append (omega (arith, walk_length (range x s e ∷ sc) b (at + 1)))
walk_length sc (Var x) at = refl
walk_length sc (Ranged w u) at = refl

-- the node's own point comes last
pub own_point : (sc : Scope) (e : Expr) (at : ℕ) → Memᴰ (point sc e at) (walk sc e at)
own_point sc (Plain a) at = Memᴰ.head refl
own_point sc (Unary o e) at = Memᴰ.append_right (walk sc e (at + 1)) (Memᴰ.head refl)
own_point sc (Binary o a b) at =
    Memᴰ.append_right (walk sc a (at + 1)) (Memᴰ.append_right (walk sc b (at + 1 + records a)) (Memᴰ.head refl))
own_point sc (TestNegation e) at = Memᴰ.append_right (walk sc e (at + 1)) (Memᴰ.head refl)
own_point sc (IfThenElse c t e) at =
    Memᴰ.append_right (walk sc c (at + 1))
    (Memᴰ.append_right (walk sc t (at + 1 + records c)) (Memᴰ.append_right (walk sc e (at + 1 + records c + records t)) (Memᴰ.head refl)))
own_point sc (Let x d b) at =
    Memᴰ.append_right (walk sc d (at + 1)) (Memᴰ.append_right (walk (variable x (d, at + 1) ∷ sc) b (at + 1 + records d)) (Memᴰ.head refl))
own_point sc (LetBitRange x s e b) at = Memᴰ.append_right (walk (range x s e ∷ sc) b (at + 1)) (Memᴰ.head refl)
own_point sc (Var x) at = Memᴰ.head refl
own_point sc (Ranged w u) at = Memᴰ.head refl

-- a point is in one of two parts of the walk
pub by_part : {p : Point} {G : Type 0} (ps qs : List Point) → Memᴰ p (ps ++ qs) → (Memᴰ p ps → G) → (Memᴰ p qs → G) → G
by_part {p} {G} ps qs m f g = pick (Memᴰ.append_cases ps m)
  where
    pick : Memᴰ p ps ⊎ Memᴰ p qs → G
    pick (inl h) = f h
    pick (inr h) = g h

own_inside : (p : Point) (sc : Scope) (e : Expr) (at : ℕ) → Memᴰ p (point sc e at ∷ []) → Inside p.scope p.term p.place sc e at
own_inside p sc e at m = subst (λ (r : Point). Inside r.scope r.term r.place sc e at) (sym (Memᴰ.eq_of_singleton m)) here

-- the points of the walk are inside the term
pub walk_inside : (sc : Scope) (e : Expr) (at : ℕ) (p : Point) → Memᴰ p (walk sc e at) → Inside p.scope p.term p.place sc e at
walk_inside sc (Plain a) at p m = own_inside p sc (Plain a) at m
walk_inside sc (Unary o e) at p m =
    by_part (walk sc e (at + 1)) _ m (λ h. unary (walk_inside sc e (at + 1) p h)) (own_inside p sc (Unary o e) at)
walk_inside sc (Binary o a b) at p m =
    by_part (walk sc a (at + 1)) _ m (λ h. first (walk_inside sc a (at + 1) p h)) (λ n.
    by_part (walk sc b (at + 1 + records a)) _ n (λ h. second (walk_inside sc b (at + 1 + records a) p h)) (own_inside p sc (Binary o a b) at))
walk_inside sc (TestNegation e) at p m =
    by_part (walk sc e (at + 1)) _ m (λ h. negated (walk_inside sc e (at + 1) p h)) (own_inside p sc (TestNegation e) at)
walk_inside sc (IfThenElse c t e) at p m =
    by_part (walk sc c (at + 1)) _ m (λ h. condition (walk_inside sc c (at + 1) p h)) (λ n.
    by_part (walk sc t (at + 1 + records c)) _ n (λ h. then_branch (walk_inside sc t (at + 1 + records c) p h)) (λ n'.
    by_part (walk sc e (at + 1 + records c + records t)) _ n' (λ h. else_branch (walk_inside sc e (at + 1 + records c + records t) p h))
    (own_inside p sc (IfThenElse c t e) at)))
walk_inside sc (Let x d b) at p m =
    by_part (walk sc d (at + 1)) _ m (λ h. definition (walk_inside sc d (at + 1) p h)) (λ n.
    by_part (walk (variable x (d, at + 1) ∷ sc) b (at + 1 + records d)) _ n
    (λ h. body (walk_inside (variable x (d, at + 1) ∷ sc) b (at + 1 + records d) p h)) (own_inside p sc (Let x d b) at))
walk_inside sc (LetBitRange x s e b) at p m =
    by_part (walk (range x s e ∷ sc) b (at + 1)) _ m (λ h. range_body (walk_inside (range x s e ∷ sc) b (at + 1) p h)) (own_inside p sc (LetBitRange x s e b) at)
walk_inside sc (Var x) at p m = own_inside p sc (Var x) at m
walk_inside sc (Ranged w u) at p m = own_inside p sc (Ranged w u) at m

in_first : (ps qs : List Point) (n m : ℕ) → n ≡ m → PointAt ps n → PointAt (ps ++ qs) m
in_first ps qs n m e h = (h.0, Memᴰ.append_left qs h.1, h.2 ∙ e)

in_second : (ps qs : List Point) (n m : ℕ) → n ≡ m → PointAt qs n → PointAt (ps ++ qs) m
in_second ps qs n m e h = (h.0, Memᴰ.append_right ps h.1, h.2 ∙ e)

-- n records along ps, and m after them along qs
two_parts : (ps qs : List Point) (n m at i : ℕ) → ((j : ℕ) → j < n → PointAt ps (at + j)) → ((j : ℕ) → j < m → PointAt qs (at + n + j))
    → i < n + m → PointAt (ps ++ qs) (at + i)
two_parts ps qs n m at i f g h = pick (dec_lt i n)
  where
    pick : Dec (i < n) → PointAt (ps ++ qs) (at + i)
    pick (yes k) = in_first ps qs (at + i) (at + i) refl (f i k)
    pick (no k) = in_second ps qs (at + n + (i - n)) (at + i) (omega arith) (g (i - n) (omega arith))

own_record : (sc : Scope) (e : Expr) (at : ℕ) → PointAt (walk sc e at) (at + 0)
own_record sc e at = (point sc e at, own_point sc e at, sym (add-zero at))

same_place : (ps : List Point) (n m : ℕ) → n ≡ m → PointAt ps n → PointAt ps m
same_place ps n m e h = (h.0, h.1, h.2 ∙ e)

-- every record of the term is the place of a point
pub each_record : (sc : Scope) (e : Expr) (at i : ℕ) → i < records e → PointAt (walk sc e at) (at + i)
each_record sc (Plain a) at zero h = own_record sc (Plain a) at
each_record sc (Plain a) at (suc i) h = absurd (omega arith)
each_record sc (Unary o e) at zero h = own_record sc (Unary o e) at
each_record sc (Unary o e) at (suc i) h =
    in_first (walk sc e (at + 1)) _ (at + 1 + i) (at + suc i) (omega arith) (each_record sc e (at + 1) i (omega arith))
each_record sc (Binary o a b) at zero h = own_record sc (Binary o a b) at
each_record sc (Binary o a b) at (suc i) h =
    same_place _ (at + 1 + i) (at + suc i) (omega arith)
    (two_parts (walk sc a (at + 1)) (walk sc b (at + 1 + records a) ++ point sc (Binary o a b) at ∷ []) (records a) (records b) (at + 1) i
    (each_record sc a (at + 1))
    (λ j k. in_first (walk sc b (at + 1 + records a)) _ _ _ refl (each_record sc b (at + 1 + records a) j k))
    (omega arith))
each_record sc (TestNegation e) at zero h = own_record sc (TestNegation e) at
each_record sc (TestNegation e) at (suc i) h =
    in_first (walk sc e (at + 1)) _ (at + 1 + i) (at + suc i) (omega arith) (each_record sc e (at + 1) i (omega arith))
each_record sc (IfThenElse c t e) at zero h = own_record sc (IfThenElse c t e) at
each_record sc (IfThenElse c t e) at (suc i) h =
    same_place _ (at + 1 + i) (at + suc i) (omega arith)
    (two_parts (walk sc c (at + 1)) _ (records c) (records t + records e) (at + 1) i
    (each_record sc c (at + 1))
    (λ j k. two_parts (walk sc t (at + 1 + records c)) _ (records t) (records e) (at + 1 + records c) j
    (each_record sc t (at + 1 + records c))
    (λ j' k'. in_first (walk sc e (at + 1 + records c + records t)) _ _ _ refl (each_record sc e (at + 1 + records c + records t) j' k'))
    k)
    (omega arith))
each_record sc (Let x d b) at zero h = own_record sc (Let x d b) at
each_record sc (Let x d b) at (suc i) h =
    same_place _ (at + 1 + i) (at + suc i) (omega arith)
    (two_parts (walk sc d (at + 1)) _ (records d) (records b) (at + 1) i
    (each_record sc d (at + 1))
    (λ j k. in_first (walk (variable x (d, at + 1) ∷ sc) b (at + 1 + records d)) _ _ _ refl (each_record (variable x (d, at + 1) ∷ sc) b (at + 1 + records d) j k))
    (omega arith))
each_record sc (LetBitRange x s e b) at zero h = own_record sc (LetBitRange x s e b) at
each_record sc (LetBitRange x s e b) at (suc i) h =
    in_first (walk (range x s e ∷ sc) b (at + 1)) _ (at + 1 + i) (at + suc i) (omega arith) (each_record (range x s e ∷ sc) b (at + 1) i (omega arith))
each_record sc (Var x) at zero h = own_record sc (Var x) at
each_record sc (Var x) at (suc i) h = absurd (omega arith)
each_record sc (Ranged w u) at zero h = own_record sc (Ranged w u) at
each_record sc (Ranged w u) at (suc i) h = absurd (omega arith)

-- ## The points that matter to a point

-- ps with qs behind it
with_more : {p : Point} (ps qs rs : List Point) → (Memᴰ p qs → Memᴰ p rs) → Memᴰ p (ps ++ qs) → Memᴰ p (ps ++ rs)
with_more ps qs rs f m = by_part ps qs m (λ h. Memᴰ.append_left rs h) (λ h. Memᴰ.append_right ps (f h))

-- what decides desugaring at a point inside a term, its definitions around and its own records, are points of the term or of the
-- definitions around the term
pub inside_points : {sc' : Scope} {e' : Expr} {at' : ℕ} {sc : Scope} {e : Expr} {at : ℕ} → Inside sc' e' at' sc e at → (p : Point)
    → Memᴰ p (definitions sc' ++ walk sc' e' at') → Memᴰ p (definitions sc ++ walk sc e at)
inside_points here p m = m
inside_points (unary {sc} {o} {e} {at} i) p m =
    with_more (definitions sc) _ _ (λ h. Memᴰ.append_left _ h) (inside_points i p m)
inside_points (first {sc} {o} {a} {b} {at} i) p m =
    with_more (definitions sc) _ _ (λ h. Memᴰ.append_left _ h) (inside_points i p m)
inside_points (second {sc} {o} {a} {b} {at} i) p m =
    with_more (definitions sc) _ _ (λ h. Memᴰ.append_right (walk sc a (at + 1)) (Memᴰ.append_left _ h)) (inside_points i p m)
inside_points (negated {sc} {e} {at} i) p m =
    with_more (definitions sc) _ _ (λ h. Memᴰ.append_left _ h) (inside_points i p m)
inside_points (condition {sc} {c} {t} {e} {at} i) p m =
    with_more (definitions sc) _ _ (λ h. Memᴰ.append_left _ h) (inside_points i p m)
inside_points (then_branch {sc} {c} {t} {e} {at} i) p m =
    with_more (definitions sc) _ _ (λ h. Memᴰ.append_right (walk sc c (at + 1)) (Memᴰ.append_left _ h)) (inside_points i p m)
inside_points (else_branch {sc} {c} {t} {e} {at} i) p m =
    with_more (definitions sc) _ _
    (λ h. Memᴰ.append_right (walk sc c (at + 1)) (Memᴰ.append_right (walk sc t (at + 1 + records c)) (Memᴰ.append_left _ h)))
    (inside_points i p m)
inside_points (definition {sc} {x} {d} {b} {at} i) p m =
    with_more (definitions sc) _ _ (λ h. Memᴰ.append_left _ h) (inside_points i p m)
inside_points (body {sc} {x} {d} {b} {at} i) p m =
    by_part (definitions sc ++ walk sc d (at + 1)) _ (inside_points i p m)
    (λ h. with_more (definitions sc) (walk sc d (at + 1)) _ (λ k. Memᴰ.append_left _ k) h)
    (λ h. Memᴰ.append_right (definitions sc) (Memᴰ.append_right (walk sc d (at + 1)) (Memᴰ.append_left _ h)))
inside_points (range_body {sc} {x} {s} {t} {b} {at} i) p m =
    with_more (definitions sc) _ _ (λ h. Memᴰ.append_left _ h) (inside_points i p m)
