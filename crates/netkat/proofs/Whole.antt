-- The whole term on its bytes: Check and Desugar beside each other, whatever the allowance and the buffers.
use mathlib.Core.Path.{◌≡◌, refl, sym, ap, ◌∙◌}
use mathlib.Core.Logic.{◌↔◌}
use mathlib.Core.Bool.{Bool, true, false, ◌&&◌, false≢true}
use mathlib.Core.List.{List, []}
use Prim.Native.Nat.{ℕ, ◌-◌, ◌≤◌, ◌<◌}
use native.Mathlib.Decide.{dec_lt}
use native.Mathlib.Omega.{arith}
use lib.Dec.{leb}
use lib.ListN.{length}
use borrow.Author.Tests.{lt-leb}
use Rattle.literals.proofs.Logic.{and_iff, false_of, leb_is, not_le_of}
use Rattle.expr.specs.Answers.{Answer, and_then, map_answer, need, ok, refuse}
use Rattle.expr.specs.Form.{decode, encode_core}
use Rattle.expr.specs.Operations.{into_room}
use Rattle.expr.specs.Terms.{Core, Expr}
use Rattle.desugar.specs.Claims.{Limit}
use Rattle.desugar.specs.Desugar.{desugar, desugar_bytes, drawn_of, max_allowance, work_for}
use Rattle.desugar.specs.Meter.{Meter, drawn, left, spent}
use Rattle.desugar.specs.Negation.{is_test}
use Rattle.desugar.proofs.Limit.{Costs, desugar_costs, gives, limit, stops}
use Rattle.netkat.specs.Check.{RulesHold, check, check_bytes, first_failure, test_sort}
use Rattle.netkat.specs.Claims.{Allowed, Desugared, Desugars, Good, Outcome, Refusal}
use Rattle.netkat.specs.Points.{walk}
use Rattle.netkat.proofs.Agree.{Seen, refused, seen}
use Rattle.netkat.proofs.AtPoint.{seen_answer, seen_at, then_ok}
use Rattle.netkat.proofs.Rules.{behind_rule, check_succeeds, none_fails, same_refusal}

-- Check succeeds exactly there, and says whether the term is a test
pub check_bytes_fact : (bs : List ℕ) (s : Bool) → (check_bytes bs ≡ ok s) ↔ ((e : Expr) × Good bs e × (s ≡ test_sort [] e))
check_bytes_fact bs s = (
  (λ h. let k = then_ok (decode bs) (λ e. check [] e 0) s h in
      let b = behind_rule (first_failure (walk [] k.0 0)) k.2 in
      (k.0, record { form = k.1; rules = (none_fails (walk [] k.0 0)).0 b.0 }, b.1)),
  (λ g. ap (λ (x : Answer Expr). and_then x (λ e. check [] e 0)) g.1.form ∙ (check_succeeds [] g.0 0).1 g.1.rules
      ∙ ap (λ (b : Bool). ok b) (sym g.2)),
)

-- ## What Desugar answers

-- a rule that holds or does not
by_need : {A : Type 0} (P : Answer A → Type 0) (b : Bool) (r at : ℕ) (f : Unit {0} → Answer A)
    → (b ≡ false → P (refuse r at)) → (b ≡ true → P (f tt)) → P (and_then (need b r at) f)
by_need P true r at f no-case yes-case = yes-case refl
by_need P false r at f no-case yes-case = no-case refl

pub by_room : {A : Type 0} (P : Answer A → Type 0) (bs : List ℕ) (room : ℕ) (f : List ℕ → Answer A)
    → (room < length bs → P (refuse 26 0)) → (length bs ≤ room → P (f bs)) → P (and_then (into_room bs room) f)
by_room P bs room f no-case yes-case = go (leb (length bs) room) refl
  where
    go : (b : Bool) → leb (length bs) room ≡ b → P (and_then (and_then (need b 26 0) (λ _. ok bs)) f)
    go true e = yes-case ((leb_is (length bs) room).0 e)
    go false e = no-case (not_le_of (length bs) room e)

-- the test of 9
allowed : (n : ℕ) → ((leb 1 n && leb n max_allowance) ≡ true) ↔ Allowed n
allowed n = and_iff (leb 1 n) (leb n max_allowance) (leb_is 1 n) (leb_is n max_allowance)

-- what follows once the form is read
abbrev pub rest : Expr → ℕ → ℕ → Answer (List ℕ × ℕ)
rest e n room = and_then (desugar [] e 0 (left n)) λ r. and_then (into_room (encode_core r.0) room) λ out. ok (out, drawn_of n r.1)

module _ (bs : List ℕ) (n work room : ℕ) where
  pub not_allowed : ¬ Allowed n → desugar_bytes bs n work room ≡ refuse 9 0
  not_allowed h = rw (false_of (leb 1 n && leb n max_allowance) (λ e. h ((allowed n).0 e)))

  pub too_little_memory : Allowed n → work < work_for n → desugar_bytes bs n work room ≡ refuse 10 0
  too_little_memory a h = rw ((allowed n).1 a, lt-leb (work_for n) work h)

  pub within_limits : Allowed n → work_for n ≤ work → desugar_bytes bs n work room ≡ and_then (decode bs) (λ e. rest e n room)
  within_limits a m = rw ((allowed n).1 a, (leb_is (work_for n) work).1 m)

-- 9 and 10 come first, each for its cause
pub by_limits : {A : Type 0} (P : Answer A → Type 0) (n work : ℕ) (x : Answer A)
    → (¬ Allowed n → P (refuse 9 0)) → (Allowed n → work < work_for n → P (refuse 10 0)) → (Allowed n → work_for n ≤ work → P x)
    → P (and_then (need (leb 1 n && leb n max_allowance) 9 0) λ _. and_then (need (leb (work_for n) work) 10 0) λ _. x)
by_limits P n work x nine ten other =
    by_need P (leb 1 n && leb n max_allowance) 9 0 _
    (λ b. nine (λ h. false≢true (sym b ∙ (allowed n).1 h)))
    (λ b. by_need P (leb (work_for n) work) 10 0 _
    (λ c. ten ((allowed n).0 b) (not_le_of (work_for n) work c))
    (λ c. other ((allowed n).0 b) ((leb_is (work_for n) work).0 c)))

-- a term of good form and rules has a core without limit, and Desugar's answer is one of the five
pub desugar_bytes_fact : (bs : List ℕ) (e : Expr) → Good bs e → Desugars bs e
desugar_bytes_fact bs e good = go (desugar_costs [] e 0) (seen_at [] [] e 0 refl) ((check_succeeds [] e 0).1 good.rules)
  where
    go : Costs (desugar [] e 0) → Seen is_test (desugar [] e 0 (spent [])) (check [] e 0) → check [] e 0 ≡ ok (test_sort [] e) → Desugars bs e
    go (stops r p ds s g l) w k = absurd (never (desugar [] e 0 (spent [])) (check [] e 0) w (s []) k)
      where
        never : (x : Answer (Core × Meter)) (y : Answer Bool) → Seen is_test x y → x ≡ refuse r p → y ≡ ok (test_sort [] e) → ⊥
        never x y (seen a k) i j = let z : ◌≡◌ {A = ℕ} 0 1 = cc in absurd (omega arith)
        never x y (refused q m) i j = let z : ◌≡◌ {A = ℕ} 0 1 = cc in absurd (omega arith)
    go (gives c ds s g l) w k =
        record {
          core = c;
          draws = ds;
          unlimited = s [];
          outcome = λ n work room. by_limits (Outcome c ds n work room) n work _ (λ h. Outcome.allowance h) (λ _ h. Outcome.memory h) (λ a m.
              rw good.form (last n work room a m (dec_lt n (drawn ds))));
        }
      where
        last : (n work room : ℕ) → Allowed n → work_for n ≤ work → Dec (n < drawn ds) → Outcome c ds n work room (rest e n room)
        last n work room a m (yes q) = rw (l n q) (Outcome.beyond q)
        last n work room a m (no q) =
            let total : n - (n - drawn ds) ≡ drawn ds = omega arith in
            rw (g n (omega arith))
            (by_room (Outcome c ds n work room) (encode_core c) room (λ out. ok (out, n - (n - drawn ds)))
            (λ h. Outcome.long h)
            (λ h. rw total (Outcome.done a m (omega arith) h)))

-- ## Where Desugar succeeds

pair_of : {a b : List ℕ} {x y : ℕ} → ◌≡◌ {A = Answer (List ℕ × ℕ)} (ok (a, x)) (ok (b, y)) → (a ≡ b) × (x ≡ y)
pair_of {a} {b} {x} {y} e = let p : ◌≡◌ {A = List ℕ × ℕ} (a, x) (b, y) = cc in (ap (λ r. r.0) p, ap (λ r. r.1) p)

only_done : (c : Core) (ds : List (ℕ × ℕ)) (n work room : ℕ) {y : Answer (List ℕ × ℕ)} (out : List ℕ) (m : ℕ)
    → Outcome c ds n work room y → y ≡ ok (out, m) → (out ≡ encode_core c) × (m ≡ drawn ds)
only_done c ds n work room out m (Outcome.done _ _ p q) h = (sym (pair_of h).0, sym (pair_of h).1)
only_done c ds n work room out m (Outcome.allowance p) h = let z : ◌≡◌ {A = ℕ} 0 1 = cc in absurd (omega arith)
only_done c ds n work room out m (Outcome.memory p) h = let z : ◌≡◌ {A = ℕ} 0 1 = cc in absurd (omega arith)
only_done c ds n work room out m (Outcome.beyond p) h = let z : ◌≡◌ {A = ℕ} 0 1 = cc in absurd (omega arith)
only_done c ds n work room out m (Outcome.long p) h = let z : ◌≡◌ {A = ℕ} 0 1 = cc in absurd (omega arith)

-- with a limit or without, a success means that the rules hold at every record
rules_of : (e : Expr) (n : ℕ) (r : Core × Meter) → desugar [] e 0 (left n) ≡ ok r → RulesHold (walk [] e 0)
rules_of e n r h = go (desugar_costs [] e 0)
  where
    apart : {q p : ℕ} → desugar [] e 0 (left n) ≡ refuse q p → ⊥
    apart k = let z : ◌≡◌ {A = ℕ} 0 1 = cc in absurd (omega arith)

    sees : {x : Answer (Core × Meter)} {y : Answer Bool} {c : Core} {t : List (ℕ × ℕ)} → Seen is_test x y → x ≡ ok (c, spent t) → y ≡ check [] e 0
        → RulesHold (walk [] e 0)
    sees (seen a k) i j = (none_fails (walk [] e 0)).0 (behind_rule (first_failure (walk [] e 0)) (sym j)).0
    sees (refused q m) i j = let z : ◌≡◌ {A = ℕ} 0 1 = cc in absurd (omega arith)

    go : Costs (desugar [] e 0) → RulesHold (walk [] e 0)
    go (gives a ds s g l) = sees (seen_at [] [] e 0 refl) (s []) refl
    go (stops q p ds s g l) = absurd (pick (dec_lt n (drawn ds)))
      where
        pick : Dec (n < drawn ds) → ⊥
        pick (yes d) = apart (l n d)
        pick (no d) = apart (g n (omega arith))

-- the term is of good form and rules, and the answer is the core made without limit and the sum of its draws
pub desugared_bytes : (bs : List ℕ) (n work room : ℕ) (out : List ℕ) (m : ℕ) → desugar_bytes bs n work room ≡ ok (out, m) → Desugared bs out m
desugared_bytes bs n work room out m h =
    let h₁ = then_ok (need (leb 1 n && leb n max_allowance) 9 0) _ (out, m) h in
    let h₂ = then_ok (need (leb (work_for n) work) 10 0) _ (out, m) h₁.2 in
    let h₃ = then_ok (decode bs) (λ e. rest e n room) (out, m) h₂.2 in
    finish h₃.0 h₃.1 (then_ok (desugar [] h₃.0 0 (left n)) _ (out, m) h₃.2).0 (then_ok (desugar [] h₃.0 0 (left n)) _ (out, m) h₃.2).1
  where
    same : (e : Expr) (g : Good bs e) (d : Desugars bs e) → Desugared bs out m
    same e g d =
        let k : (out ≡ encode_core d.core) × (m ≡ drawn d.draws) = only_done d.core d.draws n work room out m (d.outcome n work room) h in
        record {
          term = e;
          good = g;
          core = d.core;
          draws = d.draws;
          unlimited = d.unlimited;
          bytes = k.0;
          total = k.1;
        }

    finish : (e : Expr) → decode bs ≡ ok e → (r : Core × Meter) → desugar [] e 0 (left n) ≡ ok r → Desugared bs out m
    finish e f r d =
        let g : Good bs e = record { form = f; rules = rules_of e n r d } in
        same e g (desugar_bytes_fact bs e g)

-- ## Where Check refuses

-- a refusal is the same refusal whatever is seen of a result
pub unmapped : {A B : Type 0} (f : A → B) (x : Answer A) {r p : ℕ} → map_answer f x ≡ refuse r p → x ≡ refuse r p
unmapped f (ok a) h = let z : ◌≡◌ {A = ℕ} 0 1 = cc in absurd (omega arith)
unmapped f (refuse q m) h = same_refusal h

-- Desugar refuses what Check refuses
pub refused_bytes : (bs : List ℕ) (r p : ℕ) → check_bytes bs ≡ refuse r p → (n work room : ℕ) → Refusal bs r p n work (desugar_bytes bs n work room)
refused_bytes bs r p h n work room =
    by_limits (Refusal bs r p n work) n work _ (λ a. Refusal.allowance a) (λ _ m. Refusal.memory m) (λ a m. read (decode bs) refl h)
  where
    walked : (e : Expr) → decode bs ≡ ok e → check [] e 0 ≡ refuse r p → (ds : List (ℕ × ℕ)) → Limit [] e 0 ds → Dec (n < drawn ds)
        → Refusal bs r p n work (rest e n room)
    walked e f k ds l (yes q) = rw (l.short n q) (Refusal.beyond e ds f l q)
    walked e f k ds l (no q) =
        let without = seen_answer (seen_at [] [] e 0 refl) ∙ k in
        let within : map_answer (λ r. r.0) (desugar [] e 0 (left n)) ≡ refuse r p = l.enough n [] (omega arith) ∙ unmapped is_test _ without in
        rw (unmapped (λ r. r.0) (desugar [] e 0 (left n)) within) Refusal.same

    read : (x : Answer Expr) → decode bs ≡ x → and_then x (λ e. check [] e 0) ≡ refuse r p
        → Refusal bs r p n work (and_then x (λ e. rest e n room))
    read (ok e) f k = walked e f k (limit [] e 0).0 (limit [] e 0).1 (dec_lt n (drawn (limit [] e 0).0))
    read (refuse q m) f k = let a : q ≡ r = cc in let b : m ≡ p = cc in rw (a, b) Refusal.same
