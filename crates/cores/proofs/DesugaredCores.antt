-- A core that desugaring makes is within the limits of the reader: its fields have 32 bits, and it is no larger than what was drawn.
use mathlib.Core.Path.{◌≡◌, refl, ap, subst}
use mathlib.Core.Bool.{Bool, true, false, cond, not, beq}
use mathlib.Core.Option.{Option, none, some}
use mathlib.Core.List.{List, [], ◌∷◌, ◌++◌}
use Prim.Native.Nat.{ℕ, suc, ◌+◌, ◌-◌, ◌^◌, ◌≤◌, ◌<◌}
use native.Mathlib.Omega.{arith}
use lib.Dec.{leb, eqb}
use lib.ListN.{length, drop, length-drop}
use Rattle.literals.specs.Bits.{Bits, value_of, pad}
use Rattle.literals.specs.Patterns.{Pattern, Exact, Cidr, Wildcard, IpRange}
use Rattle.literals.proofs.Bits.{length_pad, bit_small}
use Rattle.expr.specs.Answers.{Answer, ok, refuse, and_then, need}
use Rattle.expr.specs.Terms.{Name, Atom, Zero, One, Top, Dup, End, Assign, Test, Op2, Union, Intersect, Xor, Difference, Sequence, LtlUntil, Core, leaf, one, two, Where, Direct, Alias, Use, Assigns, Tests, Matches, Expr, Plain, Unary, Binary, TestNegation, IfThenElse, Let, LetBitRange, Var, Ranged, records, size}
use Rattle.expr.specs.Form.{written, Fits, RecordFits}
use Rattle.expr.proofs.TermForm.{IfOk, ok_then}
use Rattle.expr.proofs.Scans.{match_end}
use Rattle.desugar.specs.Bindings.{Env, find_range, lookup_alias, lookup_variable, range, variable}
use Rattle.desugar.specs.Desugar.{desugar, drawn_of}
use Rattle.desugar.specs.Leaves.{chain, each_bit, test_chain, masked_tests, high_first, differences, bound, between_case, use_core}
use Rattle.desugar.specs.CoreRecords.{atom_field}
use Rattle.desugar.specs.Meter.{Draws, Meter, drawing, drawn, lift, spent, left}
use Rattle.desugar.specs.Negation.{is_one, is_test, join, join_draw, again, negate, negate_atom, negate_pair}
use Rattle.desugar.specs.Rules.{bound_variable, known_range, range_rule}
use Rattle.desugar.proofs.Decides.{PatternSuits, UseSuits, RangeSuits, decided, range_decides}
use Rattle.desugar.proofs.Sorts.{literal_short}
use Rattle.desugar.proofs.Room.{Weighed, weighed, declined, Fits as Large, desugar_fits}
use Rattle.cores.specs.Reading.{max_core, CoreWithin}

-- ## Fields of 32 bits

abbrev Low : Core → Type 0
Low (leaf a) = atom_field a < 2 ^ 32
Low (one o c) = Low c
Low (two o a b) = Low a × Low b

plain : {k : ℕ} → RecordFits (record { kind = k; name = 0; start = 0; end = 0; pattern = 0; number = 0; lit_a = []; lit_b = [] })
plain = record { name = omega arith; start = omega arith; end = omega arith; number = omega arith; lit_a = omega arith; lit_b = omega arith }

low_fits : (c : Core) → Low c → Fits (written c)
low_fits (leaf Zero) l = plain
low_fits (leaf One) l = plain
low_fits (leaf Top) l = plain
low_fits (leaf Dup) l = plain
low_fits (leaf End) l = plain
low_fits (leaf (Assign f v)) l = record { name = omega arith; start = l; end = omega arith; number = omega (arith, bit_small v); lit_a = omega arith; lit_b = omega arith }
low_fits (leaf (Test f v)) l = record { name = omega arith; start = l; end = omega arith; number = omega (arith, bit_small v); lit_a = omega arith; lit_b = omega arith }
low_fits (one o c) l = low_fits c l
low_fits (two o a b) l = (low_fits a l.0, low_fits b l.1)

fits_low : (a : Atom) → Fits (Plain a) → Low (leaf a)
fits_low Zero f = omega arith
fits_low One f = omega arith
fits_low Top f = omega arith
fits_low Dup f = omega arith
fits_low End f = omega arith
fits_low (Assign g v) f = f.start
fits_low (Test g v) f = f.start

-- ## Leaves

abbrev LowAll : List Core → Type 0
LowAll [] = Unit {0}
LowAll (c ∷ cs) = Low c × LowAll cs

low_append : (cs ds : List Core) → LowAll cs → LowAll ds → LowAll (cs ++ ds)
low_append [] ds p q = q
low_append (c ∷ cs) ds p q = (p.0, low_append cs ds p.1 q)

low_chain : (o : Op2) (a : Atom) (cs : List Core) → atom_field a < 2 ^ 32 → LowAll cs → Low (chain o a cs)
low_chain o a [] l p = l
low_chain o a (c ∷ []) l p = p.0
low_chain o a (c ∷ (d ∷ cs)) l p = (p.0, low_chain o a (d ∷ cs) l p.1)

low_tests : (s : ℕ) (a : Bits) → s + length a ≤ 2 ^ 32 → LowAll (each_bit Test s a)
low_tests s [] h = tt
low_tests s (b ∷ a) h = (omega arith, low_tests (suc s) a (omega arith))

low_assigns : (s : ℕ) (a : Bits) → s + length a ≤ 2 ^ 32 → LowAll (each_bit Assign s a)
low_assigns s [] h = tt
low_assigns s (b ∷ a) h = (omega arith, low_assigns (suc s) a (omega arith))

low_masked : (s : ℕ) (a m : Bits) → s + length a ≤ 2 ^ 32 → LowAll (masked_tests s a m)
low_masked s [] m h = tt
low_masked s (b ∷ a) [] h = tt
low_masked s (b ∷ a) (true ∷ m) h = low_masked (suc s) a m (omega arith)
low_masked s (b ∷ a) (false ∷ m) h = (omega arith, low_masked (suc s) a m (omega arith))

low_high : (s : ℕ) (a : Bits) → s + length a ≤ 2 ^ 32 → LowAll (high_first s a)
low_high s [] h = tt
low_high s (b ∷ a) h = low_append (high_first (suc s) a) (leaf (Test s b) ∷ []) (low_high (suc s) a (omega arith)) (omega arith, tt)

low_differences : (d : Bool) (s : ℕ) (a : Bits) → s + length a ≤ 2 ^ 32 → LowAll (differences d s a)
low_differences d s [] h = tt
low_differences d s (b ∷ a) h =
    low_append (differences d (suc s) a) (cond (beq b d) (term ∷ []) []) (low_differences d (suc s) a (omega arith)) (one_term (beq b d))
  where
    term : Core
    term = chain Intersect One (high_first (suc s) a ++ leaf (Test s (not d)) ∷ [])

    low_term : Low term
    low_term =
        low_chain Intersect One (high_first (suc s) a ++ leaf (Test s (not d)) ∷ []) (omega arith)
        (low_append (high_first (suc s) a) (leaf (Test s (not d)) ∷ []) (low_high (suc s) a (omega arith)) (omega arith, tt))

    one_term : (x : Bool) → LowAll (cond x (term ∷ []) [])
    one_term true = (low_term, tt)
    one_term false = tt

low_bound : (d : Bool) (s : ℕ) (a : Bits) → s + length a ≤ 2 ^ 32 → Low (bound d s a)
low_bound d s a h =
    low_chain Union Zero (differences d s a ++ chain Intersect One (high_first s a) ∷ []) (omega arith)
    (low_append (differences d s a) (chain Intersect One (high_first s a) ∷ []) (low_differences d s a h)
    (low_chain Intersect One (high_first s a) (omega arith) (low_high s a h), tt))

low_test_chain : (s : ℕ) (a : Bits) → s + length a ≤ 2 ^ 32 → Low (test_chain s a)
low_test_chain s a h = low_chain Intersect One (each_bit Test s a) (omega arith) (low_tests s a h)

low_between : (x y z : Bool) (s : ℕ) (a b : Bits) → s + length a ≤ 2 ^ 32 → s + length b ≤ 2 ^ 32 → Low (between_case x y z s a b)
low_between true y z s a b h k = low_test_chain s a h
low_between false true true s a b h k = omega arith
low_between false true false s a b h k = low_bound true s b k
low_between false false true s a b h k = low_bound false s a h
low_between false false false s a b h k = (low_bound false s a h, low_bound true s b k)

-- ## A use that keeps the rules

low_pattern : (p : Pattern) (s n : ℕ) → PatternSuits p n → s + n ≤ 2 ^ 32 → Low (use_core (Matches p) s n)
low_pattern (Exact a) s n k h = low_test_chain s (pad n a) (omega (arith, length_pad n a k))
low_pattern (Cidr a m) s n k h = low_test_chain (s + (n - m)) (drop (n - m) a) (omega (arith, length-drop (n - m) a, k.0, k.1))
low_pattern (Wildcard a m) s n k h = low_chain Intersect One (masked_tests s a m) (omega arith) (low_masked s a m (omega (arith, k.0)))
low_pattern (IpRange a b) s n k h =
    low_between (eqb (value_of (pad n a)) (value_of (pad n b))) (eqb (value_of (pad n a)) 0) (eqb (value_of (pad n b) + 1) (2 ^ length (pad n b))) s (pad n a) (pad n b)
    (omega (arith, length_pad n a k.1)) (omega (arith, length_pad n b k.2))

low_use : (w : Where) (u : Use) (s n : ℕ) → UseSuits w u n → s + n ≤ 2 ^ 32 → Low (use_core u s n)
low_use w (Assigns a) s n k h =
    low_chain Sequence One (each_bit Assign s (pad n a)) (omega arith) (low_assigns s (pad n a) (omega (arith, length_pad n a (literal_short w a n k))))
low_use w (Tests a) s n k h = low_test_chain s (pad n a) (omega (arith, length_pad n a (literal_short w a n k)))
low_use w (Matches p) s n k h = low_pattern p s n k h

-- ## Operators and negation

low_sequence : (a b : Core) → Low a → Low b → (x y : Bool) → Low (cond x b (cond y a (two Sequence a b)))
low_sequence a b p q true y = q
low_sequence a b p q false true = p
low_sequence a b p q false false = (p, q)

low_join : (o : Op2) (a b : Core) → Low a → Low b → Low (join o a b)
low_join Union a b p q = (p, q)
low_join Intersect a b p q = (p, q)
low_join Xor a b p q = (p, q)
low_join Difference a b p q = (p, q)
low_join Sequence a b p q = low_sequence a b p q (is_one a) (is_one b)
low_join LtlUntil a b p q = (p, q)

low_again : (c : Core) → Low c → Low (again c)
low_again (leaf a) l = l
low_again (one o c) l = low_again c l
low_again (two o a b) l = low_join o (again a) (again b) (low_again a l.0) (low_again b l.1)

low_atom : (a : Atom) → atom_field a < 2 ^ 32 → atom_field (negate_atom a) < 2 ^ 32
low_atom Zero l = l
low_atom One l = l
low_atom Top l = l
low_atom Dup l = l
low_atom End l = l
low_atom (Assign f v) l = l
low_atom (Test f v) l = l

low_pair : (o : Op2) (a b c d : Core) → Low a → Low b → Low c → Low d → Low (negate_pair o a b c d)
low_pair Union a b c d p q r s = (r, s)
low_pair Intersect a b c d p q r s = (r, s)
low_pair Xor a b c d p q r s = (omega arith, (p, q))
low_pair Difference a b c d p q r s = (r, low_again b q)
low_pair Sequence a b c d p q r s = (r, s)
low_pair LtlUntil a b c d p q r s = (p, q)

low_negate : (c : Core) → Low c → Low (negate c)
low_negate (leaf a) l = low_atom a l
low_negate (one o c) l = l
low_negate (two o a b) l = low_pair o a b (negate a) (negate b) l.0 l.1 (low_negate a l.0) (low_negate b l.1)

-- ## Desugaring

abbrev LowEnv : Env Core → Type 0
LowEnv [] = Unit {0}
LowEnv (variable x c ∷ env) = Low c × LowEnv env
LowEnv (range x s e ∷ env) = (e < 2 ^ 32) × LowEnv env

low_variable : (env : Env Core) (x : Name) (r : Option (ℕ × ℕ)) (at : ℕ) → LowEnv env → IfOk Low (bound_variable (lookup_variable env x) r at)
low_variable [] x none at l = tt
low_variable [] x (some r) at l = tt
low_variable (range y s e ∷ env) x r at l = low_variable env x r at l.1
low_variable (variable y c ∷ env) x r at l = go (eqb x y) (low_variable env x r at l.1)
  where
    go : (b : Bool) → IfOk Low (bound_variable (lookup_variable env x) r at) → IfOk Low (bound_variable (cond b (some c) (lookup_variable env x)) r at)
    go true k = l.0
    go false k = k

abbrev LowEnd : ℕ × ℕ → Type 0
LowEnd r = r.1 < 2 ^ 32

low_alias : (env : Env Core) (x : Name) (at : ℕ) → LowEnv env → IfOk LowEnd (known_range (lookup_alias env x) at)
low_alias [] x at l = tt
low_alias (variable y c ∷ env) x at l = low_alias env x at l.1
low_alias (range y s e ∷ env) x at l = go (eqb x y) (low_alias env x at l.1)
  where
    go : (b : Bool) → IfOk LowEnd (known_range (lookup_alias env x) at) → IfOk LowEnd (known_range (cond b (some (s, e)) (lookup_alias env x)) at)
    go true k = l.0
    go false k = k

low_range : (env : Env Core) (w : Where) (u : Use) (at : ℕ) → LowEnv env → Fits (Ranged w u) → IfOk LowEnd (known_range (find_range env w) at)
low_range env (Alias x) u at l f = low_alias env x at l
low_range env (Direct s e) (Assigns a) at l f = f.end
low_range env (Direct s e) (Tests a) at l f = f.end
low_range env (Direct s e) (Matches m) at l f = subst (λ k. k < 2 ^ 32) (match_end 25 0 s e m) f.end

abbrev Lows : Core × Meter → Type 0
Lows r = Low r.0

low_drawing : (n at : ℕ) (c : Core) (k : Meter) → Low c → IfOk Lows (drawing n at c k)
low_drawing n at c (spent ds) l = l
low_drawing n at c (left m) l = go (leb n m)
  where
    go : (b : Bool) → IfOk Lows (cond b (ok (c, left (m - n))) (refuse 24 at))
    go true = l
    go false = tt

low_lift : {A : Type 0} (P : A → Type 0) (x : Answer A) (h : A → Draws Core) (k : Meter) → IfOk P x → ((a : A) → P a → x ≡ ok a → IfOk Lows (h a k))
    → IfOk Lows (and_then (lift x k) (λ r. h r.0 r.1))
low_lift P (ok a) h k p g = g a p refl
low_lift P (refuse r at) h k p g = tt

always : {A : Type 0} (x : Answer A) → IfOk (λ _. Unit {0}) x
always (ok a) = tt
always (refuse r at) = tt

desugar_low : (env : Env Core) (e : Expr) (at : ℕ) → LowEnv env → Fits e → (k : Meter) → IfOk Lows (desugar env e at k)
desugar_low env (Plain a) at l f k = low_drawing 1 at (leaf a) k (fits_low a f)
desugar_low env (Unary o e) at l f k =
    ok_then Lows Lows (desugar env e (at + 1) k) _ (desugar_low env e (at + 1) l f k) (λ r p. low_drawing 1 at (one o r.0) r.1 p)
desugar_low env (Binary o a b) at l f k =
    ok_then Lows Lows (desugar env a (at + 1) k) _ (desugar_low env a (at + 1) l f.0 k) (λ r p.
    ok_then Lows Lows (desugar env b (at + 1 + records a) r.1) _ (desugar_low env b (at + 1 + records a) l f.1 r.1) (λ q t.
    low_drawing (join_draw o r.0 q.0) at (join o r.0 q.0) q.1 (low_join o r.0 q.0 p t)))
desugar_low env (TestNegation e) at l f k =
    ok_then Lows Lows (desugar env e (at + 1) k) _ (desugar_low env e (at + 1) l f k) (λ r p.
    low_lift (λ _. Unit {0}) (need (is_test r.0) 22 at) _ r.1 (always (need (is_test r.0) 22 at)) (λ _ _ _.
    low_drawing (size (negate r.0)) at (negate r.0) r.1 (low_negate r.0 p)))
desugar_low env (IfThenElse c t e) at l f k =
    ok_then Lows Lows (desugar env c (at + 1) k) _ (desugar_low env c (at + 1) l f.0 k) (λ x p.
    ok_then Lows Lows (desugar env t (at + 1 + records c) x.1) _ (desugar_low env t (at + 1 + records c) l f.1 x.1) (λ y q.
    ok_then Lows Lows (desugar env e (at + 1 + records c + records t) y.1) _ (desugar_low env e (at + 1 + records c + records t) l f.2 y.1) (λ z r.
    low_lift (λ _. Unit {0}) (need (is_test x.0) 23 at) _ z.1 (always (need (is_test x.0) 23 at)) (λ _ _ _.
    low_drawing (size (negate x.0) + 3) at (two Union (two Sequence x.0 y.0) (two Sequence (negate x.0) z.0)) z.1 ((p, q), (low_negate x.0 p, r))))))
desugar_low env (Let x d b) at l f k =
    ok_then Lows Lows (desugar env d (at + 1) k) _ (desugar_low env d (at + 1) l f.1 k) (λ r p.
    desugar_low (variable x r.0 ∷ env) b (at + 1 + records d) (p, l) f.2 r.1)
desugar_low env (LetBitRange x s e b) at l f k = desugar_low (range x s e ∷ env) b (at + 1) (f.0.end, l) f.1 k
desugar_low env (Var x) at l f k =
    low_lift Low (bound_variable (lookup_variable env x) (lookup_alias env x) at) _ k (low_variable env x (lookup_alias env x) at l) (λ c p _. low_drawing (size c) at c k p)
desugar_low env (Ranged w u) at l f k =
    low_lift LowEnd (known_range (find_range env w) at) _ k (low_range env w u at l f) (λ r p _.
    low_lift (λ _. Unit {0}) (range_rule w u r at) _ k (always (range_rule w u r at)) (λ _ _ e.
    let suits : RangeSuits w u (some r) = decided (range_decides w u r at) e in
    low_drawing (size (use_core u r.0 (r.1 - r.0))) at (use_core u r.0 (r.1 - r.0)) k
    (low_use w u r.0 (r.1 - r.0) suits.1 (omega (arith, suits.0)))))

-- ## Within the limits

-- a core is no larger than what was drawn to make it
abbrev pub Light : Core × Meter → Type 0
Light r = size r.0 ≤ drawn_of 0 r.1

pub light : {x : Answer (Core × Meter)} → Weighed Large [] x → IfOk Light x
light (weighed c ds t e p) = omega (arith, p, ap drawn e)
light (declined r at) = tt

pub desugared_within : (e : Expr) → Fits e → (c : Core) (ds : List (ℕ × ℕ)) → desugar [] e 0 (spent []) ≡ ok (c, spent ds) → drawn ds ≤ max_core → CoreWithin c
desugared_within e f c ds h few =
    let large : size c ≤ drawn ds = subst (IfOk Light) h (light (desugar_fits [] e 0 [])) in
    record { few = omega (arith, large, few); fits = low_fits c (subst (IfOk Lows) h (desugar_low [] e 0 tt f (spent []))) }
