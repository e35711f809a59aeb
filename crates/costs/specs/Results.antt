-- What the functions of this crate answer, in the words of the definitions.
use Rattle.std.specs.Prelude.{ℕ, Result, Ok, Err}
use Rattle.refusals.specs.Refusals.{number_of}
use Rattle.refusals.specs.declared.Refusal.{Refusal}
use Rattle.literals.specs.{Bits.Bits, Patterns.Pattern}
use Rattle.expr.specs.{Answers.Answer, Answers.ok, Answers.refuse, Form.pattern_of}

-- the node count, or the refusal's number at place 0
abbrev pub cost_answer : Result ℕ Refusal → Answer ℕ
cost_answer (Ok n) = ok n
cost_answer (Err e) = refuse (number_of e) 0

-- the pattern of a match with this number, prefix and literals
abbrev pub pattern_with : (pattern number : ℕ) → Bits → Bits → Pattern
pattern_with p k a b = pattern_of (record { kind = 25; name = 0; start = 0; end = 0; pattern = p; number = k; lit_a = a; lit_b = b })
