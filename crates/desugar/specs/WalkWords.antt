-- The walk over a term's bytes: the words of the contracts of src/walk.rt, src/operands.rt and src/leaf.rt.
use mathlib.Core.{Path.◌≡◌, Bool.Bool, Bool.cond, Bool.◌&&◌, Bool.◌||◌, List.List, List.[], List.◌∷◌, List.◌++◌}
use Rattle.std.specs.Prelude.{ℕ, ◌+◌, ◌-◌, ◌*◌, ◌^◌, ◌≤◌, ◌<◌, Result, Ok, Err}
use lib.{Dec.leb, Dec.eqb, ListN.length, ListN.drop}
use Rattle.expr.specs.{Answers.Answer, Answers.ok, Answers.refuse, Answers.and_then, Answers.need, Terms.Op1, Terms.Op2, Terms.Union, Terms.Sequence, Terms.Core, Terms.two, Terms.Where, Terms.Direct, Terms.Alias, Terms.Use, Terms.Assigns, Terms.Tests, Terms.Matches, Terms.Expr, Terms.op1_kind, Terms.op2_kind, Terms.size, Terms.records, Terms.depth, Records.Record, Form.max_records, Form.encode, Form.Fits, Form.pattern_of, Replaced.encode_all, Replaced.records_all, Replaced.depth_all, Replaced.FitAll, Results.HeadInside}
use Rattle.refusals.specs.Refusals.{number_of}
use Rattle.refusals.specs.declared.Refused.{Refused}
use Rattle.expr.specs.declared.records.Head.{Head}
use Rattle.desugar.specs.{Bindings.Env, Desugar.desugar, Meter.Meter, Meter.left, Meter.Draws, Meter.◌>>=◌, Meter.lift, Meter.drawing, Negation.is_test, Negation.is_one, Negation.negate, Memory.words, Memory.Holds, Memory.Kept, Memory.Lies, NegationOutcome.Negates, BindingWords.Bound}
use Rattle.desugar.specs.declared.test_negation.NegationError.{NegationError}
use Rattle.desugar.specs.declared.memory.Region.{Region}
use Rattle.desugar.specs.declared.operands.Walked.{Walked}
use Rattle.desugar.specs.declared.walk.Spot.{Spot}
use Rattle.desugar.specs.declared.guarded.Guarded.{Guarded}

-- ## Terms in bytes

-- the term e stands at the front of the bytes s, at most that many levels deep, and its record has the index place
pub record TermAt (s : List ℕ) (levels place : ℕ) (e : Expr) : Type 0 where
  pub more : List ℕ
  pub bytes : s ≡ encode e ++ more
  pub fits : Fits e
  pub deep : depth e ≤ levels
  pub low : place + records e ≤ max_records

-- the terms es stand one behind the other, from a byte on
pub record TermsAt (s : List ℕ) (from levels place : ℕ) (es : List Expr) : Type 0 where
  pub more : List ℕ
  pub start : from ≤ length s
  pub bytes : drop from s ≡ encode_all es ++ more
  pub fits : FitAll es
  pub deep : depth_all es ≤ levels
  pub low : place + records_all es ≤ max_records

-- ## Work memory

-- below the top lie the bindings env; above it there is room for what may be drawn. A record takes three numbers, and the negation of an
-- If's condition, which is drawn last, at most half as many records again as the condition; beside that each level takes up to twelve
pub record Stack (xs : List ℕ) (last top allowance levels : ℕ) (env : Env Core) : Type 0 where
  pub bound : Bound xs last env
  pub below : last ≤ top
  pub room : top + 8 * allowance + 12 * levels ≤ length xs
  pub small : top + 8 * allowance + 12 * levels < 2 ^ 32

-- a walk ends with a core: x is its definition's answer. The core lies at or above the top; nothing below the top has changed
pub record WalkedCore (x : Answer (Core × Meter)) (used next top allowance levels : ℕ) (xs xs' : List ℕ) (w : Walked) : Type 0 where
  pub core : Core
  pub is : x ≡ ok (core, left w.left)
  pub used_is : w.used ≡ used
  pub next_is : w.next ≡ next
  pub lies : Lies xs' w.core.at w.core.count core
  pub kept : Kept top xs xs'
  pub above : top ≤ w.core.at
  pub reach : w.core.at + 3 * w.core.count + 3 * w.left ≤ top + 3 * allowance + 12 * levels
  pub drawn : w.core.count + w.left ≤ allowance

-- r is the definition's answer x: the index of the byte behind the term, the index of the record behind it, and the core; or the refusal
abbrev pub WalkedAs : Answer (Core × Meter) → (used next top allowance levels : ℕ) → (xs xs' : List ℕ) → Result Walked Refused → Type 0
WalkedAs x used next top allowance levels xs xs' (Ok w) = WalkedCore x used next top allowance levels xs xs' w
WalkedAs x used next top allowance levels xs xs' (Err e) = x ≡ refuse (number_of e.refusal) e.place

-- ## What is asked

-- of a term that begins at a byte
pub record Ready (s : List ℕ) (at levels place last top allowance : ℕ) (xs : List ℕ) : Type 0 where
  pub term : Expr
  pub env : Env Core
  pub start : at ≤ length s
  pub text : TermAt (drop at s) levels place term
  pub stack : Stack xs last top allowance levels env

-- of a term's children, behind its record, which has the index place
pub record ReadyOne (s : List ℕ) (from levels place last top allowance : ℕ) (xs : List ℕ) : Type 0 where
  pub first : Expr
  pub env : Env Core
  pub text : TermsAt s from levels (place + 1) (first ∷ [])
  pub stack : Stack xs last top allowance (levels + 1) env

pub record ReadyTwo (s : List ℕ) (from levels place last top allowance : ℕ) (xs : List ℕ) : Type 0 where
  pub first : Expr
  pub second : Expr
  pub env : Env Core
  pub text : TermsAt s from levels (place + 1) (first ∷ second ∷ [])
  pub stack : Stack xs last top allowance (levels + 1) env

pub record ReadyThree (s : List ℕ) (from levels place last top allowance : ℕ) (xs : List ℕ) : Type 0 where
  pub first : Expr
  pub second : Expr
  pub third : Expr
  pub env : Env Core
  pub text : TermsAt s from levels (place + 1) (first ∷ second ∷ third ∷ [])
  pub stack : Stack xs last top allowance (levels + 1) env

-- the same by the spot that the walk stands at
abbrev pub TermReady : List ℕ → Spot → List ℕ → Type 0
TermReady s w = Ready s w.at w.left w.place w.env.last w.top w.allowance

abbrev pub OneReady : List ℕ → Spot → List ℕ → Type 0
OneReady s w = ReadyOne s w.at w.left w.place w.env.last w.top w.allowance

abbrev pub TwoReady : List ℕ → Spot → List ℕ → Type 0
TwoReady s w = ReadyTwo s w.at w.left w.place w.env.last w.top w.allowance

abbrev pub ThreeReady : List ℕ → Spot → List ℕ → Type 0
ThreeReady s w = ReadyThree s w.at w.left w.place w.env.last w.top w.allowance

-- ## What is said of the answer

-- of a term
abbrev pub TermWalked : {s xs : List ℕ} {at levels place last top allowance : ℕ} → Ready s at levels place last top allowance xs → List ℕ → Result Walked Refused → Type 0
TermWalked {s} {xs} {at} {levels} {place} {last} {top} {allowance} q =
    WalkedAs (desugar q.env q.term place (left allowance)) (at + length (encode q.term)) (place + records q.term) top allowance levels xs

-- of a node f with its children
abbrev pub OneWalked : {s xs : List ℕ} {from levels place last top allowance : ℕ} → ReadyOne s from levels place last top allowance xs → (Expr → Expr) → List ℕ → Result Walked Refused → Type 0
OneWalked {s} {xs} {from} {levels} {place} {last} {top} {allowance} q f =
    WalkedAs (desugar q.env (f q.first) place (left allowance)) (from + length (encode q.first)) (place + 1 + records q.first) top allowance (levels + 1) xs

abbrev pub TwoWalked : {s xs : List ℕ} {from levels place last top allowance : ℕ} → ReadyTwo s from levels place last top allowance xs → (Expr → Expr → Expr) → List ℕ → Result Walked Refused → Type 0
TwoWalked {s} {xs} {from} {levels} {place} {last} {top} {allowance} q f =
    WalkedAs (desugar q.env (f q.first q.second) place (left allowance)) (from + length (encode_all (q.first ∷ q.second ∷ [])))
    (place + 1 + records q.first + records q.second) top allowance (levels + 1) xs

abbrev pub ThreeWalked : {s xs : List ℕ} {from levels place last top allowance : ℕ} → ReadyThree s from levels place last top allowance xs → (Expr → Expr → Expr → Expr) → List ℕ → Result Walked Refused → Type 0
ThreeWalked {s} {xs} {from} {levels} {place} {last} {top} {allowance} q f =
    WalkedAs (desugar q.env (f q.first q.second q.third) place (left allowance)) (from + length (encode_all (q.first ∷ q.second ∷ q.third ∷ [])))
    (place + 1 + records q.first + records q.second + records q.third) top allowance (levels + 1) xs

-- an operator with one operand, or two, of this kind
pub record Operator1 (kind : ℕ) : Type 0 where
  pub o : Op1
  pub is : op1_kind o ≡ kind

pub record Operator2 (kind : ℕ) : Type 0 where
  pub o : Op2
  pub is : op2_kind o ≡ kind

-- ## What becomes of the operands' cores

-- the records behind the first record of c are those at w
pub record Operands (c : Core) (kind : ℕ) (w : Walked) (xs : List ℕ) : Type 0 where
  pub rest : List ℕ
  pub words_are : words c ≡ kind ∷ 0 ∷ 0 ∷ rest
  pub holds : Holds xs w.core.at rest
  pub count : size c ≡ w.core.count + 1

-- "Sequence drops a One"
abbrev pub drops : Op2 → Core → Bool
drops o c = eqb (op2_kind o) (op2_kind Sequence) && is_one c

-- "a negation, its result": rule 22 and the draw
abbrev pub negating : Core → ℕ → Draws Core
negating c at = lift (need (is_test c) 22 at) >>= λ _. drawing (size (negate c)) at (negate c)

-- "If, the negated condition plus 3": rule 23 and the draw
abbrev pub choosing : Core → Core → Core → ℕ → Draws Core
choosing c t e at = lift (need (is_test c) 23 at) >>= λ _. drawing (size (negate c) + 3) at (two Union (two Sequence c t) (two Sequence (negate c) e))

-- a core at w, and room above it for its negation
pub record NegationRoom (xs : List ℕ) (w : Walked) : Type 0 where
  pub core : Core
  pub lies : Lies xs w.core.at w.core.count core
  pub room : w.core.at + 5 * w.core.count + 3 * w.left ≤ length xs
  pub small : w.core.count + w.left < 2 ^ 30

-- a core with room for a record below it, and another core above it
pub record JoinRoom (xs : List ℕ) (first : Region) (b : Walked) : Type 0 where
  pub low : 3 ≤ first.at
  pub apart : first.at + 3 * first.count ≤ b.core.at
  pub room : b.core.at + 3 * b.core.count ≤ length xs

-- how many records of a negation are there
abbrev pub negated_size : Result ℕ NegationError → ℕ
negated_size (Ok n) = n
negated_size (Err e) = 0

-- where the negation of an If's condition lies: behind its first branch, and room for a record
abbrev pub negated_at : Guarded → ℕ
negated_at g = g.branch.at + 3 * g.branch.count + 3

-- the cores of an If: the condition, the first branch, the condition's negation as far as there is one, and above that the other branch
pub record Branches (xs : List ℕ) (g : Guarded) (negated : Result ℕ NegationError) (e : Walked) (limit : ℕ) (c' t' e' : Core) : Type 0 where
  pub condition : Lies xs g.condition.at g.condition.count c'
  pub first : Lies xs g.branch.at g.branch.count t'
  pub negates : Negates xs c' (negated_at g) limit negated
  pub other : Lies xs e.core.at e.core.count e'
  pub within : e.left ≤ limit

pub record BranchRoom (xs : List ℕ) (g : Guarded) (size : ℕ) (e : Walked) : Type 0 where
  pub apart : negated_at g + 3 * size ≤ e.core.at
  pub room : e.core.at + 3 * e.core.count ≤ length xs

-- the same with the negation there: the core n'
pub record United (xs : List ℕ) (g : Guarded) (size : ℕ) (e : Walked) (c t n' d : Core) : Type 0 where
  pub condition : Lies xs g.condition.at g.condition.count c
  pub first : Lies xs g.branch.at g.branch.count t
  pub negated : Lies xs (negated_at g) size n'
  pub other : Lies xs e.core.at e.core.count d

-- the cores of an If before its other branch is worked out: a term that begins at a byte
pub record ReadyElse (s : List ℕ) (from levels next last : ℕ) (xs : List ℕ) (g : Guarded) (allowance : ℕ) : Type 0 where
  pub third : Expr
  pub env : Env Core
  pub condition_core : Core
  pub first_core : Core
  pub text : TermsAt s from levels next (third ∷ [])
  pub condition : Lies xs g.condition.at g.condition.count condition_core
  pub first : Lies xs g.branch.at g.branch.count first_core
  pub bound : Bound xs last env
  pub below : last + 6 ≤ g.condition.at
  pub room : g.condition.at + 8 * (g.condition.count + g.branch.count + allowance) + 12 * levels + 6 ≤ length xs
  pub small : g.condition.at + 8 * (g.condition.count + g.branch.count + allowance) + 12 * levels + 6 < 2 ^ 32

abbrev pub ElseReady : List ℕ → Spot → List ℕ → Guarded → Type 0
ElseReady s w xs g = ReadyElse s w.at w.left w.place w.env.last xs g w.allowance

-- of an If, once its other branch is worked out
abbrev pub ElseWalked : {s xs : List ℕ} {from levels next last allowance : ℕ} {g : Guarded} → ReadyElse s from levels next last xs g allowance → ℕ → List ℕ → Result Walked Refused → Type 0
ElseWalked {s} {xs} {from} {levels} {next} {last} {allowance} {g} q place =
    WalkedAs (and_then (desugar q.env q.third next (left allowance)) (λ e. choosing q.condition_core q.first_core e.0 place e.1))
    (from + length (encode q.third)) (next + records q.third) (g.condition.at - 6) (g.condition.count + g.branch.count + allowance) (levels + 1) xs

-- ## Leaves

-- where a record's range stands, and what is done with it: kinds 21 to 26
abbrev pub where_of : Record → Where
where_of h = cond (leb 23 h.kind && leb h.kind 25) (Direct h.start h.end) (Alias h.name)

abbrev pub use_of : Record → Use
use_of h =
    cond (eqb h.kind 21 || eqb h.kind 23) (Assigns h.lit_a) (cond (eqb h.kind 22 || eqb h.kind 24) (Tests h.lit_a) (Matches (pattern_of h)))

-- a record that was read from the bytes s, the bindings, and room for what may be drawn
pub record LeafReady (s : List ℕ) (h : Head) (place last top allowance : ℕ) (xs : List ℕ) : Type 0 where
  pub inside : HeadInside s (Ok h)
  pub low : place < max_records
  pub env : Env Core
  pub bound : Bound xs last env
  pub below : last ≤ top
  pub room : top + 3 * allowance ≤ length xs
  pub small : top + 3 * allowance < 2 ^ 32
