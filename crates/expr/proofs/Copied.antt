-- Laws of `pasted`: numbers that are written over a list.
use mathlib.Core.Path.{◌≡◌, refl, sym, ap, ◌∙◌}
use mathlib.Core.Bool.{Bool, true, false}
use mathlib.Core.List.{List, [], ◌++◌, append_assoc, append-nil}
use Prim.Native.Nat.{ℕ, ◌+◌, ◌≤◌}
use native.Mathlib.Nat.{add-zero}
use native.Mathlib.Omega.{arith}
use lib.ListN.{length, take, drop, length-append, take-append-drop}
use lib.Seq.{length-take-le, take_at, drop_at, drop-drop, take_all, paste}
use Rattle.expr.specs.Replaced.{pasted}

pub pasted_none : (b : Bool) (at : ℕ) (m : List ℕ) → m ≡ pasted b at [] m
pasted_none false at m = refl
pasted_none true at m = sym (ap (λ k. take at m ++ [] ++ drop k m) (add-zero at) ∙ ap (λ (l : List ℕ). l ++ drop at m) (append-nil (take at m)) ∙ take-append-drop at m)

-- what is written behind what was written
pub pasted_more : (b : Bool) (at : ℕ) (w v m : List ℕ) → (b ≡ true → at + (length w + length v) ≤ length m) → pasted b (at + length w) v (pasted b at w m) ≡ pasted b at (w ++ v) m
pasted_more false at w v m h = refl
pasted_more true at w v m h =
    let fits : at + (length w + length v) ≤ length m = h refl in
    let front : length (take at m ++ w) ≡ at + length w = length-append (take at m) w ∙ ap (λ k. k + length w) (length-take-le at m (omega arith)) in
    let ends : at + length w + length v ≡ at + length (w ++ v) = omega (arith, length-append w v) in
    let behind : List ℕ = drop (at + length w) m in
    let last : drop (at + length w + length v) (take at m ++ w ++ behind) ≡ drop (at + length (w ++ v)) m =
    sym (drop-drop (length v) (at + length w) (take at m ++ w ++ behind)) ∙ ap (drop (length v)) (drop_at (take at m ++ w) behind (at + length w) front)
    ∙ drop-drop (length v) (at + length w) m ∙ ap (λ k. drop k m) ends in
    (λ i. take_at (take at m ++ w) behind (at + length w) front i ++ v ++ last i) ∙ ap (λ (l : List ℕ). l ++ drop (at + length (w ++ v)) m) (append_assoc (take at m) w v)

-- a copy of all of a list
pub pasted_is : (at : ℕ) (w m : List ℕ) → paste m at w (length w) ≡ pasted true at w m
pasted_is at w m = ap (λ (l : List ℕ). take at m ++ l ++ drop (at + length w) m) (take_all (length w) w (omega arith))
