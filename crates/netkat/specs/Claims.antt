-- What the theorems claim of points and of whole terms (document 01, "The words of demand 3"; the theorems stand in
-- proofs/Theorems.antt).
use mathlib.Core.{Path.◌≡◌, Logic.◌⊎◌, Logic.◌↔◌, Bool.true, List.List, List.[], List.◌∷◌, List.◌++◌, List.Memᴰ}
use Rattle.std.specs.Prelude.{ℕ, ◌+◌, ◌^◌, ◌≤◌, ◌<◌}
use lib.{ListN.length}
use Rattle.literals.specs.{Bits.Bits, Bits.value_of, Patterns.Exact, Patterns.Cidr, Patterns.Wildcard}
use Rattle.expr.specs.{Answers.Answer, Answers.ok, Answers.refuse, Answers.map_answer, Answers.and_then, Terms.Zero, Terms.One, Terms.Top, Terms.Dup, Terms.End, Terms.Assign, Terms.Test, Terms.Op1, Terms.Op2, Terms.Core, Terms.Name, Terms.Expr, Terms.Plain, Terms.Unary, Terms.Binary, Terms.TestNegation, Terms.IfThenElse, Terms.Let, Terms.LetBitRange, Terms.Var, Terms.Ranged, Terms.Use, Terms.Assigns, Terms.Tests, Terms.Matches, Terms.atom_kind, Terms.op1_kind, Terms.op2_kind, Terms.records, Form.decode, Form.encode, Form.encode_core, Form.ranged_record}
use Rattle.desugar.specs.{Bindings.variable, Bindings.range, Meter.spent, Meter.drawn, Meter.overdrawn, Desugar.desugar, Desugar.desugar_bytes, Desugar.max_allowance, Desugar.work_for, Negation.is_test, Packets.one_step, Packets.OneStep, Packets.Others, Packets.Packet, Packets.core_means, Claims.Limit}
use Rattle.netkat.specs.{Points.Scope, Points.Point, Points.walk, Points.definitions, Points.desugar_at, Points.means_at, Points.one_steps, Check.RulesHold, Check.first_failure, Check.sorts, Check.test_sort, Check.check_bytes}

-- ## Points

-- the subterm e' with the binders sc' around it begins at the record at' of e, which has sc around it and begins at the record at: a case
-- for each way down
pub data Inside (sc' : Scope) (e' : Expr) (at' : ℕ) : Scope → Expr → ℕ → Type 0 where
  here : Inside sc' e' at' sc' e' at'
  unary : {sc : Scope} {o : Op1} {e : Expr} {at : ℕ} → Inside sc' e' at' sc e (at + 1) → Inside sc' e' at' sc (Unary o e) at
  first : {sc : Scope} {o : Op2} {a b : Expr} {at : ℕ} → Inside sc' e' at' sc a (at + 1) → Inside sc' e' at' sc (Binary o a b) at
  second : {sc : Scope} {o : Op2} {a b : Expr} {at : ℕ} → Inside sc' e' at' sc b (at + 1 + records a) → Inside sc' e' at' sc (Binary o a b) at
  negated : {sc : Scope} {e : Expr} {at : ℕ} → Inside sc' e' at' sc e (at + 1) → Inside sc' e' at' sc (TestNegation e) at
  condition : {sc : Scope} {c t e : Expr} {at : ℕ} → Inside sc' e' at' sc c (at + 1) → Inside sc' e' at' sc (IfThenElse c t e) at
  then_branch : {sc : Scope} {c t e : Expr} {at : ℕ} → Inside sc' e' at' sc t (at + 1 + records c) → Inside sc' e' at' sc (IfThenElse c t e) at
  else_branch : {sc : Scope} {c t e : Expr} {at : ℕ} → Inside sc' e' at' sc e (at + 1 + records c + records t) → Inside sc' e' at' sc (IfThenElse c t e) at
  definition : {sc : Scope} {x : Name} {d b : Expr} {at : ℕ} → Inside sc' e' at' sc d (at + 1) → Inside sc' e' at' sc (Let x d b) at
  body : {sc : Scope} {x : Name} {d b : Expr} {at : ℕ}
      → Inside sc' e' at' (variable x (d, at + 1) ∷ sc) b (at + 1 + records d) → Inside sc' e' at' sc (Let x d b) at
  range_body : {sc : Scope} {x : Name} {s t : ℕ} {b : Expr} {at : ℕ}
      → Inside sc' e' at' (range x s t ∷ sc) b (at + 1) → Inside sc' e' at' sc (LetBitRange x s t b) at

-- one of the points has the place n
abbrev pub PointAt : List Point → ℕ → Type 0
PointAt ps n = (p : Point) × Memᴰ p ps × (p.place ≡ n)

-- an Assign or Test of field 4,294,967,295: no field that was read from bytes is higher
abbrev pub HighestField : Expr → Type 0
HighestField (Plain Zero) = ⊥
HighestField (Plain One) = ⊥
HighestField (Plain Top) = ⊥
HighestField (Plain Dup) = ⊥
HighestField (Plain End) = ⊥
HighestField (Plain (Assign f v)) = 2 ^ 32 ≤ f + 1
HighestField (Plain (Test f v)) = 2 ^ 32 ≤ f + 1
HighestField (Unary o e) = ⊥
HighestField (Binary o a b) = ⊥
HighestField (TestNegation e) = ⊥
HighestField (IfThenElse c t e) = ⊥
HighestField (Let x d b) = ⊥
HighestField (LetBitRange x s e b) = ⊥
HighestField (Var x) = ⊥
HighestField (Ranged w u) = ⊥

-- "the first Assign or Test of field 4,294,967,295" of a term
pub record FirstHighest (e : Expr) (p : Point) : Type 0 where
  pub member : Memᴰ p (walk [] e 0)
  pub highest : HighestField p.term
  pub least : (q : Point) → Memᴰ q (walk [] e 0) → HighestField q.term → p.place ≤ q.place

-- "Kinds": the kind of the record that a term begins with
abbrev pub kind_of : Expr → ℕ
kind_of (Plain a) = atom_kind a
kind_of (Unary o e) = op1_kind o
kind_of (Binary o a b) = op2_kind o
kind_of (TestNegation e) = 16
kind_of (IfThenElse c t e) = 17
kind_of (Let x d b) = 18
kind_of (LetBitRange x s e b) = 19
kind_of (Var x) = 20
kind_of (Ranged w u) = (ranged_record w u).kind

-- "use only the one-step kinds": each of these records has such a kind
abbrev pub OneStepKinds : List Point → Type 0
OneStepKinds ps = (p : Point) → Memᴰ p ps → one_step (kind_of p.term) ≡ true

-- For the subterm e that begins at a record, with the Lets and LetBitRanges sc around it
pub record AtPoint (others : Others) (sc : Scope) (e : Expr) (at : ℕ) : Type 0 where
  -- the rules hold exactly when desugaring there is not refused: at each record of the definitions around, and of the subterm
  pub succeeds : ((c : Core) × (desugar_at sc e at ≡ ok c)) ↔ (RulesHold (definitions sc) × RulesHold (walk sc e at))
  -- where the definitions around pass, the subterm's own rules decide
  pub passing : RulesHold (definitions sc) → ((c : Core) × (desugar_at sc e at ≡ ok c)) ↔ RulesHold (walk sc e at)
  -- "It is refused where one of 11 to 23 first fails"; else its core is a test exactly where the written subterm is of that sort
  pub answers : map_answer is_test (desugar_at sc e at) ≡ and_then (first_failure (definitions sc ++ walk sc e at)) (λ _. ok (test_sort (sorts sc) e))
  -- "and never by 24, 26 or lack of room"
  pub numbers : (r p : ℕ) → desugar_at sc e at ≡ refuse r p → (11 ≤ r) × (r ≤ 23)
  -- the core means what was written there, for every two packets, if the kinds of the subterm and of the definitions that it uses are one-step
  pub means : OneStep (one_steps sc) e → (c : Core) → desugar_at sc e at ≡ ok c → (p q : Packet) → core_means others c p q ↔ means_at others sc e p q

-- ## The whole term

-- "the form is good and rules 11 to 23 hold at every record"
pub record Good (bs : List ℕ) (e : Expr) : Type 0 where
  pub form : decode bs ≡ ok e
  pub rules : RulesHold (walk [] e 0)

-- "9 allowance outside 1 to 65,535": inside
abbrev pub Allowed : ℕ → Type 0
Allowed n = (1 ≤ n) × (n ≤ max_allowance)

-- "the core made without limit", and the draws made for it in walking order, each with its place
abbrev pub Unlimited : Expr → Core → List (ℕ × ℕ) → Type 0
Unlimited e c ds = desugar [] e 0 (spent []) ≡ ok (c, spent ds)

-- "Desugar succeeds or answers 9, 10, 24 or 26, each only for its cause above": on a term whose core without limit is c with the draws ds
pub data Outcome (c : Core) (ds : List (ℕ × ℕ)) (n work room : ℕ) : Answer (List ℕ × ℕ) → Type 0 where
  done : Allowed n → work_for n ≤ work → drawn ds ≤ n → length (encode_core c) ≤ room → Outcome c ds n work room (ok (encode_core c, drawn ds))
  allowance : ¬ Allowed n → Outcome c ds n work room (refuse 9 0)
  memory : work < work_for n → Outcome c ds n work room (refuse 10 0)
  beyond : n < drawn ds → Outcome c ds n work room (refuse 24 (overdrawn n ds))
  long : room < length (encode_core c) → Outcome c ds n work room (refuse 26 0)

-- where Check refuses by r at p, Desugar answers 9 or 10 for its cause, the same refusal, or 24 where the allowance is spent before the
-- rule that fails
pub data Refusal (bs : List ℕ) (r p n work : ℕ) : Answer (List ℕ × ℕ) → Type 0 where
  allowance : ¬ Allowed n → Refusal bs r p n work (refuse 9 0)
  memory : work < work_for n → Refusal bs r p n work (refuse 10 0)
  same : Refusal bs r p n work (refuse r p)
  beyond : (e : Expr) (ds : List (ℕ × ℕ)) → decode bs ≡ ok e → Limit [] e 0 ds → n < drawn ds → Refusal bs r p n work (refuse 24 (overdrawn n ds))

-- a term of good form and rules has a core without limit, and Desugar's answer is one of the five
pub record Desugars (bs : List ℕ) (e : Expr) : Type 0 where
  pub core : Core
  pub draws : List (ℕ × ℕ)
  pub unlimited : Unlimited e core draws
  pub outcome : (n work room : ℕ) → Outcome core draws n work room (desugar_bytes bs n work room)

-- where Desugar gives the bytes out and the total m: the term has good form and rules, "and the bytes Desugar wrote are those of the core
-- made without limit", with the sum of its draws
pub record Desugared (bs : List ℕ) (out : List ℕ) (m : ℕ) : Type 0 where
  pub term : Expr
  pub good : Good bs term
  pub core : Core
  pub draws : List (ℕ × ℕ)
  pub unlimited : Unlimited term core draws
  pub bytes : out ≡ encode_core core
  pub total : m ≡ drawn draws

-- ## Change 5 of document 02

-- 1, 5, 14, 15 or 17 to 21
abbrev pub CostNumber : ℕ → Type 0
CostNumber r = (r ≡ 1) ⊎ ((r ≡ 5) ⊎ ((r ≡ 14) ⊎ ((r ≡ 15) ⊎ ((17 ≤ r) × (r ≤ 21)))))

-- ## Change 6 of document 02

-- the term's bytes have good form, and the rules hold
abbrev pub Accepted : Expr → Type 0
Accepted e = Good (encode e) e

-- "Everything that takes or compares a literal": the uses that take the whole literal `a`, where there are as many fields as it has bits. A range
-- pattern is none of them: it has a limit of its own
pub data TakesWhole (a : Bits) : Use → Type 0 where
  test : TakesWhole a (Tests a)
  assign : TakesWhole a (Assigns a)
  exact : TakesWhole a (Matches (Exact a))
  cidr : (k : ℕ) → k ≤ length a → TakesWhole a (Matches (Cidr a k))
  wildcard : (m : Bits) → length m ≡ length a → TakesWhole a (Matches (Wildcard a m))

-- "Range patterns keep their 128-bit field limit.": of a term whose one rule is that of the range pattern from a to b on n fields, at the record `at`.
-- It is accepted exactly if these are 128 at most, the bounds no longer than that, and the lower one not above the higher; with more fields Check
-- refuses it by 20 there, whatever the bounds
abbrev pub RangeLimit : Expr → (a b : Bits) → (n at : ℕ) → Type 0
RangeLimit e a b n at =
    (Accepted e ↔ ((n ≤ 128) × (length a ≤ n) × (length b ≤ n) × (value_of a ≤ value_of b)))
    × (129 ≤ n → check_bytes (encode e) ≡ refuse 20 at)
