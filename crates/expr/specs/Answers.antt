-- What a call answers (document 01, "What each operation gives, and when it declines").
use mathlib.Core.{Bool.Bool, Bool.true, Bool.false, List.List, List.◌++◌}
use Rattle.std.specs.Prelude.{ℕ, Result, Ok, Err}
use lib.{ListN.length, ListN.drop}
use Rattle.refusals.specs.Refusals.{number_of}
use Rattle.refusals.specs.declared.Refused.{Refused}

-- "A call answers success or a refusal number with a place."
pub data Answer (A : Type 0) : Type 0 where
  ok : A → Answer A
  refuse : ℕ → ℕ → Answer A

-- what a function of src/ answers
abbrev pub answered : {A : Type 0} → Result A Refused → Answer A
answered (Ok a) = ok a
answered (Err e) = refuse (number_of e.refusal) e.place

-- go on with the result, or keep the refusal
abbrev pub and_then : {A B : Type 0} → Answer A → (A → Answer B) → Answer B
and_then (ok a) f = f a
and_then (refuse r at) f = refuse r at

-- the same answer with f applied to its result
abbrev pub map_answer : {A B : Type 0} → (A → B) → Answer A → Answer B
map_answer f (ok a) = ok (f a)
map_answer f (refuse r at) = refuse r at

-- the refusal r at a place where b is false
abbrev pub need : Bool → ℕ → ℕ → Answer (Unit {0})
need true r at = ok tt
need false r at = refuse r at

-- "On a refusal the answer buffer keeps every byte; on success its front holds the answer and its rest is unchanged."
abbrev pub buffer_after : Answer (List ℕ) → List ℕ → List ℕ
buffer_after (ok bs) out = bs ++ drop (length bs) out
buffer_after (refuse r at) out = out
