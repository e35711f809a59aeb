-- What `desugar` answers, in the words of the definitions.
use mathlib.Core.{Path.◌≡◌, List.List}
use Rattle.std.specs.Prelude.{ℕ, ◌≤◌, Result}
use lib.{ListN.length}
use Rattle.refusals.specs.declared.Refused.{Refused}
use Rattle.expr.specs.{Answers.Answer, Answers.answered, Answers.map_answer, Answers.buffer_after, Replaced.Decodes}
use Rattle.desugar.specs.{Desugar.max_allowance, Desugar.work_for, Desugar.desugar_bytes}
use Rattle.desugar.specs.declared.bytes.Desugared.{Desugared}

-- the core's length in bytes and the drawn total, or the refusal's number and place
abbrev pub desugared_answer : Result Desugared Refused → Answer (ℕ × ℕ)
desugared_answer r = map_answer (λ d. (d.length, d.drawn)) (answered r)

-- of a term, an allowance, the length of work memory, and the answer buffer before and after the call. Of work memory only its length is
-- promised: the answer does not depend on what it holds, and nothing is said of what it holds after the call
pub record DesugaredAs (bs : List ℕ) (n work : ℕ) (out out' : List ℕ) (r : Result Desugared Refused) : Type 0 where
  pub answer : desugared_answer r ≡ map_answer (λ p. (length p.0, p.1)) (desugar_bytes bs n work (length out))
  pub buffer : out' ≡ buffer_after (map_answer (λ p. p.0) (desugar_bytes bs n work (length out))) out

-- an allowance within its limits
pub record Allowance (n : ℕ) : Type 0 where
  pub some_units : 1 ≤ n
  pub few : n ≤ max_allowance

-- bytes of good form, and an allowance that has its work memory
pub record Granted (bs : List ℕ) (n : ℕ) (work : List ℕ) : Type 0 where
  pub form : Decodes bs
  pub limits : Allowance n
  pub room : work_for n ≤ length work
