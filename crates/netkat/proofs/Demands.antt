-- The three demands of specs/Demands.antt, from the laws of the definitions.
use mathlib.Core.Path.{◌≡◌, refl, sym, ap, subst, ◌∙◌}
use mathlib.Core.Logic.Iff
use mathlib.Core.Logic.{◌↔◌}
use mathlib.Core.List.{List, [], ◌∷◌, ◌++◌}
use Prim.Native.Nat.{ℕ, ◌-◌, ◌≤◌}
use native.Mathlib.Omega.{arith}
use lib.ListN.{drop, length, take}
use Rattle.literals.specs.Bits.{bit}
use Rattle.literals.proofs.Logic.{leb_is}
use Rattle.expr.specs.Answers.{Answer, and_then, buffer_after, map_answer, ok, refuse}
use Rattle.expr.specs.Form.{Within, encode, encode_core}
use Rattle.expr.specs.Operations.{fields_bytes, fragment_bytes, substitute_bytes}
use Rattle.expr.specs.Terms.{Core, Expr, size}
use Rattle.expr.proofs.FormTheorem.{decode_encode}
use Rattle.desugar.specs.Bindings.{compute_subrange}
use Rattle.desugar.specs.CoreRecords.{words}
use Rattle.desugar.specs.Desugar.{desugar, desugar_bytes}
use Rattle.desugar.specs.Meter.{drawn}
use Rattle.desugar.specs.Packets.{Others}
use Rattle.desugar.proofs.Limit.{Costs, desugar_costs, draws_of, gives, limit_of, stops}
use Rattle.costs.specs.Lent.{lent_cost}
use Rattle.cores.specs.Reading.{read_core}
use Rattle.packets.specs.Running.{run_packets}
use Rattle.netkat.specs.Check.{RulesHold, check_bytes, test_sort}
use Rattle.netkat.specs.Claims.{Desugared, Desugars, Good}
use Rattle.netkat.specs.Demands.{AtPassing, Covers, Declined, Demand1, Demand2, Demand3, OnGood, WholeTerm}
use Rattle.netkat.specs.Entry.{Answers, Call, Check, Cost, Desugar, FieldCount, Hosts, ReadCore, RunPackets, Subrange, Substitute, TestFragment, halved, hosted}
use Rattle.netkat.specs.Points.{Point, definitions, desugar_at}
use Rattle.netkat.specs.declared.Answer.{Answer as HostAnswer}
use Rattle.netkat.proofs.AtPoint.{desugar_at_means, desugar_at_succeeds}
use Rattle.netkat.proofs.Declines.{Decided, check_decided, core_decided, cost_decided, decided_map, desugar_decided, fields_decided, fragment_decided, packets_decided, subrange_decided, substitute_decided}
use Rattle.netkat.proofs.Forms.{each_form}
use Rattle.netkat.proofs.OneStepKinds.{one_step_kinds}
use Rattle.netkat.proofs.Whole.{check_bytes_fact, desugar_bytes_fact, desugared_bytes, rest, within_limits}

-- ## Demand 1

number_of : {r s : HostAnswer} → r ≡ s → r.number ≡ s.number
number_of e = ap (λ (a : HostAnswer). a.number) e

-- the host tells success by number 0
module _ {A : Type 0} {declined : ℕ → ℕ → Type 0} (f : A → ℕ × ℕ) (r : HostAnswer) where
  pub succeeds : (x : Answer A) → Decided declined x → r ≡ hosted (map_answer f x) → (r.number ≡ 0) ↔ ((a : A) × (x ≡ ok a))
  succeeds (ok a) h e = ((λ _. (a, refl)), (λ _. number_of e))
  succeeds (refuse q m) h e = (
    (λ z. let l : 1 ≤ q = h.named q m refl in let y : r.number ≡ q = number_of e in absurd (omega arith)),
    (λ k. let z : ◌≡◌ {A = ℕ} 0 1 = cc k.1 in absurd (omega arith)),
  )

  hosted_demand : (x : Answer A) → Decided declined x → r ≡ hosted (map_answer f x) → (out out' : List ℕ) → ((k p : ℕ) → x ≡ refuse k p → out' ≡ out)
      → Demand1 declined out out' r
  hosted_demand (ok a) h e out out' b =
      record {
        refused = λ k p. (
          (λ d. absurd (never k p d)),
          (λ g. let y : r.number ≡ 0 = number_of e in let z : r.number ≡ k = number_of g.1 in absurd (omega (arith, g.0))),
        );
        untouched = λ n. absurd (n (number_of e));
        accepted = ((λ _ k p d. never k p d), (λ _. number_of e));
      }
    where
      never : (k p : ℕ) → declined k p → ⊥
      never k p d = let c = (h.causes k p).0 d in let z : ◌≡◌ {A = ℕ} 0 1 = cc in absurd (omega arith)
  hosted_demand (refuse q m) h e out out' b =
      record {
        refused = λ k p. (
          (λ d. let c = (h.causes k p).0 d in (h.named k p c, e ∙ ap (λ (x : Answer A). hosted (map_answer f x)) c)),
          (λ g. (h.causes k p).1 (λ i. refuse (number_of (sym e ∙ g.1) i) (ap (λ (a : HostAnswer). a.place) (sym e ∙ g.1) i))),
        );
        untouched = λ _. b q m refl;
        accepted = (
          (λ z. let l : 1 ≤ q = h.named q m refl in let y : r.number ≡ q = number_of e in absurd (omega arith)),
          (λ n. absurd (n q m ((h.causes q m).1 refl))),
        );
      }

-- where the operation writes bytes
buffered : {declined : ℕ → ℕ → Type 0} (x : Answer (List ℕ × ℕ)) → Decided declined x → (out out' : List ℕ) (r : HostAnswer) → Hosts x out out' r
    → Demand1 declined out out' r
buffered x h out out' r k =
    hosted_demand (λ p. (length p.0, p.1)) r x h k.answer out out'
    (λ q m e. k.buffer ∙ ap (λ (y : Answer (List ℕ × ℕ)). buffer_after (map_answer (λ p. p.0) y) out) e)

pub each_call : (c : Call) (out out' : List ℕ) (r : HostAnswer) → Answers c out out' r → Demand1 (Declined c (length out)) out out' r
each_call (Check bs) out out' r h = hosted_demand (λ b. (bit b, 0)) r (check_bytes bs) (check_decided bs) h.0 out out' (λ k p e. h.1)
each_call (TestFragment bs) out out' r h = hosted_demand (λ b. (bit b, 0)) r (fragment_bytes bs) (fragment_decided bs) h.0 out out' (λ k p e. h.1)
each_call (FieldCount bs) out out' r h = hosted_demand (λ n. (n, 0)) r (fields_bytes bs) (fields_decided bs) h.0 out out' (λ k p e. h.1)
each_call (Desugar bs n work) out out' r h = buffered (desugar_bytes bs n work (length out)) (desugar_decided bs n work (length out)) out out' r h
each_call (Substitute bs x rs) out out' r h =
    buffered (map_answer (λ cs. (cs, 0)) (substitute_bytes bs x rs (length out)))
    (decided_map (λ cs. (cs, 0)) (substitute_bytes bs x rs (length out)) (substitute_decided bs x rs (length out))) out out' r h
each_call (Subrange a b s e) out out' r h =
    hosted_demand (λ v. v) r (compute_subrange a b s e) (subrange_decided a b s e) (h.0 ∙ ap hosted (sym (map_same (compute_subrange a b s e)))) out out' (λ k p e. h.1)
  where
    map_same : (x : Answer (ℕ × ℕ)) → map_answer (λ v. v) x ≡ x
    map_same (ok v) = refl
    map_same (refuse k p) = refl
each_call (Cost s e p k a b) out out' r h = hosted_demand halved r (lent_cost s e p k a b) (cost_decided s e p k a b) h.0 out out' (λ q m f. h.1)
each_call (ReadCore bs) out out' r h =
    hosted_demand (λ p. (size p.0, p.1)) r (read_core bs (length out)) (core_decided bs (length out)) h.answer out out'
    (λ q m e. h.records ∙ ap (λ (y : Answer (Core × ℕ)). buffer_after (map_answer (λ p. words p.0) y) out) e)
each_call (RunPackets bs room ps ns) out out' r h =
    hosted_demand halved r (run_packets bs room ps ns) (packets_decided bs room ps ns) h.0 out out' (λ q m f. h.1)

-- no refusal has the number 0
cause_named : {A : Type 0} {D : ℕ → ℕ → Type 0} {x : Answer A} → Decided D x → (k p : ℕ) → D k p → 1 ≤ k
cause_named h k p d = h.named k p ((h.causes k p).0 d)

pub never_zero : (c : Call) (room k p : ℕ) → Declined c room k p → 1 ≤ k
never_zero (Check bs) room = cause_named (check_decided bs)
never_zero (TestFragment bs) room = cause_named (fragment_decided bs)
never_zero (FieldCount bs) room = cause_named (fields_decided bs)
never_zero (Desugar bs n work) room = cause_named (desugar_decided bs n work room)
never_zero (Substitute bs x rs) room = cause_named (substitute_decided bs x rs room)
never_zero (Subrange a b s e) room = cause_named (subrange_decided a b s e)
never_zero (Cost s e p k a b) room = cause_named (cost_decided s e p k a b)
never_zero (ReadCore bs) room = cause_named (core_decided bs room)
never_zero (RunPackets bs list ps ns) room = cause_named (packets_decided bs list ps ns)

-- ## Demand 2

-- with an allowance and buffers that cover a term, Desugar answers as desugaring without limit does
covered : (e : Expr) → Within e → (k : Costs (desugar [] e 0)) (n work room : ℕ) → Covers e (draws_of k) n work room
    → desugar_bytes (encode e) n work room ≡ map_answer (λ c. (encode_core c, drawn (draws_of k))) (desugar_at [] e 0)
covered e w k n work room h =
    within_limits (encode e) n work room h.allowed h.memory ∙ ap (λ (x : Answer Expr). and_then x (λ e. rest e n room)) (decode_encode e w)
    ∙ go k h.allowance h.buffer
  where
    go : (k : Costs (desugar [] e 0)) → drawn (draws_of k) ≤ n → ((c : Core) → desugar_at [] e 0 ≡ ok c → length (encode_core c) ≤ room)
        → rest e n room ≡ map_answer (λ c. (encode_core c, drawn (draws_of k))) (desugar_at [] e 0)
    go (gives c ds s g l) d b =
        let total : n - (n - drawn ds) ≡ drawn ds = omega arith in
        let fits : length (encode_core c) ≤ room = b c (rw (s [])) in
        rw (g n d, (leb_is (length (encode_core c)) room).1 fits, s [], total)
    go (stops r p ds s g l) d b = rw (g n d, s [])

pub trees_and_forms : (others : Others) → Demand2 others
trees_and_forms others =
    record {
      tree = λ e w. let k = desugar_costs [] e 0 in (
        draws_of k,
        limit_of [] e 0 k,
        λ n work out out' r h a. subst (λ (x : Answer (List ℕ × ℕ)). Hosts x out out' r) (covered e w k n work (length out) h) a,
      );
      forms = each_form others;
    }

-- ## Demand 3

at_passing : (others : Others) (p : Point) → RulesHold (definitions p.scope) → AtPassing others p
at_passing others p h =
    record {
      exactly = (
        (λ k. (desugar_at_succeeds p.scope p.term p.place).1 (h, k)),
        (λ c. ((desugar_at_succeeds p.scope p.term p.place).0 c).1),
      );
      means = λ k d. desugar_at_means others p.scope p.term p.place (one_step_kinds p.scope p.term p.place k d);
    }

take_front : (bs cs : List ℕ) → take (length bs) (bs ++ cs) ≡ bs
take_front [] cs = refl
take_front (b ∷ bs) cs = ap (λ (l : List ℕ). b ∷ l) (take_front bs cs)

-- on success the buffer's front and the second value are what Desugar gave
pub desugar_wrote : (bs : List ℕ) (n work : ℕ) (out out' : List ℕ) (r : HostAnswer) → Answers (Desugar bs n work) out out' r → r.number ≡ 0
    → desugar_bytes bs n work (length out) ≡ ok (take r.first out', r.second)
desugar_wrote bs n work out out' r h z =
    let k = (succeeds (λ p. (length p.0, p.1)) r (desugar_bytes bs n work (length out)) (desugar_decided bs n work (length out)) h.answer).0 z in
    let cs : List ℕ = k.0.0 in
    let answer = h.answer ∙ ap (λ (y : Answer (List ℕ × ℕ)). hosted (map_answer (λ p. (length p.0, p.1)) y)) k.1 in
    let first : r.first ≡ length cs = ap (λ (y : HostAnswer). y.first) answer in
    let second : r.second ≡ k.0.1 = ap (λ (y : HostAnswer). y.second) answer in
    let buffer : out' ≡ cs ++ drop (length cs) out = h.buffer ∙ ap (λ (y : Answer (List ℕ × ℕ)). buffer_after (map_answer (λ p. p.0) y) out) k.1 in
    let front : take r.first out' ≡ cs = (λ i. take (first i) (buffer i)) ∙ take_front cs (drop (length cs) out) in
    k.1 ∙ λ i. ok (sym front i, sym second i)

module _ (bs : List ℕ) (n work : ℕ) (out out' : List ℕ) (checked desugared : HostAnswer)
    (hc : Answers (Check bs) [] [] checked) (hd : Answers (Desugar bs n work) out out' desugared) where
  check_hosted : (checked.number ≡ 0) ↔ ((e : Expr) × Good bs e)
  check_hosted =
      Iff.trans (succeeds (λ b. (bit b, 0)) checked (check_bytes bs) (check_decided bs) hc.0) (
        (λ k. let g = (check_bytes_fact bs k.0).0 k.1 in (g.0, g.1)),
        (λ g. (test_sort [] g.0, (check_bytes_fact bs _).1 (g.0, g.1, refl))),
      )

  on_good : (e : Expr) → Good bs e → OnGood bs n work out out' desugared
  on_good e g =
      let d : Desugars bs e = desugar_bytes_fact bs e g in
      record {
        term = e;
        good = g;
        core = d.core;
        draws = d.draws;
        unlimited = d.unlimited;
        answer = desugar_bytes bs n work (length out);
        outcome = d.outcome n work (length out);
        hosts = hd;
      }

  wrote : desugared.number ≡ 0 → Desugared bs (take desugared.first out') desugared.second
  wrote z = desugared_bytes bs n work (length out) _ _ (desugar_wrote bs n work out out' desugared hd z)

  whole_term_fact : WholeTerm bs n work out out' checked desugared
  whole_term_fact =
      record {
        check = check_hosted;
        answers = λ z. let g = check_hosted.0 z in on_good g.0 g.1;
        agrees = λ z. let d = wrote z in check_hosted.1 (d.term, d.good);
        bytes = wrote;
      }

pub points_and_whole : (others : Others) → Demand3 others
points_and_whole others =
    record {
      points = λ bs t f p m h. at_passing others p h;
      whole = whole_term_fact;
    }
