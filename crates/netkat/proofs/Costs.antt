-- What Desugar draws for a match alone is its cost, and by which numbers a cost is refused.
use mathlib.Core.Path.{◌≡◌, refl, sym, ap, subst, ◌∙◌}
use mathlib.Core.Logic.{inl, inr}
use mathlib.Core.Bool.{Bool, true, false, cond, ◌&&◌}
use mathlib.Core.List.{List, []}
use Prim.Native.Nat.{ℕ, ◌-◌, ◌≤◌, ◌<◌}
use native.Mathlib.Decide.{dec_lt}
use native.Mathlib.Omega.{arith}
use lib.Dec.{leb, eqb}
use lib.ListN.{length, get_or-eq_default}
use Rattle.literals.specs.Bits.{value_of}
use Rattle.literals.specs.Patterns.{Cidr, Exact, IpRange, Pattern, Wildcard}
use Rattle.literals.specs.Reading.{bytes_for, max_literal}
use Rattle.literals.proofs.Values.{lent_got, lent_lacking, lent_long}
use Rattle.expr.specs.Answers.{Answer, and_then, map_answer, need, ok, refuse}
use Rattle.expr.specs.Form.{Within, encode}
use Rattle.expr.specs.Terms.{Core, Direct, Expr, Matches, Ranged}
use Rattle.expr.proofs.FormTheorem.{decode_encode}
use Rattle.desugar.specs.Claims.{drawn_total}
use Rattle.desugar.specs.Costs.{cost, pattern_cost}
use Rattle.desugar.specs.Desugar.{desugar_bytes, drawn_of}
use Rattle.desugar.specs.Meter.{Meter}
use Rattle.desugar.specs.Rules.{max_range_bits, pattern_rule, range_rule}
use Rattle.desugar.proofs.Costs.{cost_is_draw}
use Rattle.costs.specs.Lent.{lent_cost, lent_literal, lent_pattern, lent_patterns, placed}
use Rattle.costs.specs.Results.{pattern_with}
use Rattle.costs.proofs.Lent.{pattern_known}
use Rattle.netkat.specs.Claims.{CostNumber}
use Rattle.netkat.proofs.Whole.{desugared_bytes}

pub cost_drawn : (p : Pattern) (s e : ℕ) → Within (Ranged (Direct s e) (Matches p)) → (n work room : ℕ) (out : List ℕ) (m : ℕ)
    → desugar_bytes (encode (Ranged (Direct s e) (Matches p))) n work room ≡ ok (out, m) → cost p s e 0 ≡ ok m
cost_drawn p s e within n work room out m h =
    let t : Expr = Ranged (Direct s e) (Matches p) in
    let d = desugared_bytes (encode t) n work room out m h in
    let read : ◌≡◌ {A = Answer Expr} (ok d.term) (ok t) = sym d.good.form ∙ decode_encode t within in
    let same : d.term ≡ t = cc in
    let total : drawn_total [] d.term 0 ≡ ok m = ap (map_answer (λ (r : Core × Meter). drawn_of 0 r.1)) d.unlimited ∙ ap ok (sym d.total) in
    sym (cost_is_draw [] (Direct s e) p s e 0 refl) ∙ subst (λ (x : Expr). drawn_total [] x 0 ≡ ok m) same total

-- ## Numbers

-- a refusal has one of the numbers, and place 0
abbrev Named : {A : Type 0} → Answer A → Type 0
Named (ok a) = Unit {0}
Named (refuse r q) = CostNumber r × (q ≡ 0)

named_then : {A B : Type 0} (x : Answer A) (f : A → Answer B) → Named x → ((a : A) → Named (f a)) → Named (and_then x f)
named_then (ok a) f h k = k a
named_then (refuse r q) f h k = h

named_need : (b : Bool) (r : ℕ) → CostNumber r → Named (need b r 0)
named_need true r h = tt
named_need false r h = (h, refl)

-- the last of the numbers
ruled : (r : ℕ) → 17 ≤ r → r ≤ 21 → CostNumber r
ruled r h k = inr (inr (inr (inr (h, k))))

named_literal : (l : List ℕ × ℕ) → Named (lent_literal l)
named_literal l = go (dec_lt max_literal n) (dec_lt (length bs) (bytes_for n))
  where
    bs : List ℕ
    bs = l.0

    n : ℕ
    n = l.1

    go : Dec (max_literal < n) → Dec (length bs < bytes_for n) → Named (lent_literal l)
    go (yes h) d = subst (λ x. Named (placed x)) (sym (lent_long bs n h)) (inr (inl refl), refl)
    go (no h) (yes k) = subst (λ x. Named (placed x)) (sym (lent_lacking bs n (omega (arith, h)) k)) (inl refl, refl)
    go (no h) (no k) = subst (λ x. Named (placed x)) (sym (lent_got bs n (omega (arith, h)) (omega (arith, k)))) tt

named_pattern : (p k : ℕ) (a b : List ℕ × ℕ) → Named (lent_pattern p k a b)
named_pattern p k a b = go (dec_lt 3 p)
  where
    second : List ℕ × ℕ
    second = (b.0, cond (leb 2 p) b.1 0)

    go : Dec (3 < p) → Named (lent_pattern p k a b)
    go (yes h) =
        let far : 4 ≤ p = omega arith in
        subst (λ (x : Answer Pattern). Named x) (sym (get_or-eq_default (lent_patterns k a b) (refuse 5 0) far)) (inr (inl refl), refl)
    go (no h) =
        subst (λ (x : Answer Pattern). Named x) (sym (pattern_known p k a b (omega (arith, h))))
        (named_then (lent_literal a) _ (named_literal a) (λ x. named_then (lent_literal second) (λ y. ok (pattern_with p k x y)) (named_literal second) (λ y. tt)))

named_rule : (m : Pattern) (n : ℕ) → Named (pattern_rule m n 0)
named_rule (Exact a) n = named_need (leb (length a) n) 15 (inr (inr (inr (inl refl))))
named_rule (Cidr a k) n =
    named_then (need (leb k n) 17 0) _ (named_need (leb k n) 17 (ruled 17 (omega arith) (omega arith))) (λ _.
    named_need (eqb (length a) n) 18 (ruled 18 (omega arith) (omega arith)))
named_rule (Wildcard a m) n = named_need (eqb (length a) n && eqb (length m) n) 19 (ruled 19 (omega arith) (omega arith))
named_rule (IpRange a b) n =
    let fits : Bool = leb n max_range_bits && leb (length a) n && leb (length b) n in
    named_then (need fits 20 0) _ (named_need fits 20 (ruled 20 (omega arith) (omega arith))) (λ _.
    named_need (leb (value_of a) (value_of b)) 21 (ruled 21 (omega arith) (omega arith)))

named_cost : (m : Pattern) (s e : ℕ) → Named (cost m s e 0)
named_cost m s e =
    named_then (range_rule (Direct s e) (Matches m) (s, e) 0) (λ _. ok (pattern_cost m (e - s)))
    (named_then (need (leb s e) 14 0) _ (named_need (leb s e) 14 (inr (inr (inl refl)))) (λ _. named_rule m (e - s)))
    (λ _. tt)

pub cost_numbers : (s e p k : ℕ) (a b : List ℕ × ℕ) (r q : ℕ) → lent_cost s e p k a b ≡ refuse r q → CostNumber r × (q ≡ 0)
cost_numbers s e p k a b r q h =
    subst (λ (x : Answer ℕ). Named x) h (named_then (lent_pattern p k a b) (λ m. cost m s e 0) (named_pattern p k a b) (λ m. named_cost m s e))
