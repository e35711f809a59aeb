-- Atoms and uses of ranges: the words of the contracts of src/rules.rt, src/judged.rt, src/ranged.rt and src/leaf.rt.
use mathlib.Core.{Path.◌≡◌, Bool.Bool, Bool.true, Bool.false, List.List, List.[], List.◌∷◌}
use Rattle.std.specs.Prelude.{ℕ, ◌+◌, ◌-◌, ◌*◌, ◌≤◌, ◌<◌, Result, Ok, Err}
use lib.{Dec.eqb, ListN.length, ListN.get_or}
use Rattle.expr.specs.{Answers.Answer, Answers.ok, Answers.refuse, Answers.and_then, Terms.Atom, Terms.Zero, Terms.One, Terms.Top, Terms.Dup, Terms.End, Terms.Assign, Terms.Test, Terms.Core, Terms.Where, Terms.Direct, Terms.Alias, Terms.size, Records.Record, Form.max_records, Results.record_of}
use Rattle.literals.specs.Bits.{Bits}
use Rattle.literals.specs.Results.{literal_bits}
use Rattle.expr.specs.Terms as written
use Rattle.refusals.specs.Refusals.{number_of}
use Rattle.refusals.specs.declared.Refusal.{Refusal}
use Rattle.expr.specs.Kinds.{kind_number, pattern_number}
use Rattle.expr.specs.declared.records.Head.{Head}
use Rattle.desugar.specs.declared.Fields.{Fields}
use Rattle.desugar.specs.declared.uses.Use.{Use}
use Rattle.desugar.specs.{Bindings.Env, Bindings.find_range, Meter.Draws, Meter.drawing, Rules.known_range, Rules.range_rule, Leaves.use_core, BindingWords.Bound, WalkWords.where_of, WalkWords.use_of}

-- ## Records

-- the atom of a record of one of the kinds 0 to 6
abbrev pub atom_of : Record → Atom
atom_of h = get_or (Zero ∷ One ∷ Top ∷ Dup ∷ End ∷ Assign h.start (eqb h.number 1) ∷ Test h.start (eqb h.number 1) ∷ []) h.kind Zero

-- the record of these numbers and literals, whether a kind and a pattern have the numbers or not. Its name and its fields are of no account
abbrev pub numbered : (kind pattern number : ℕ) (a b : Bits) → Record
numbered kind pattern number a b =
    record {
      kind = kind;
      name = 0;
      start = 0;
      end = 0;
      pattern = pattern;
      number = number;
      lit_a = a;
      lit_b = b;
    }

-- the record with other numbers of a kind and of a pattern
abbrev pub with_numbers : Record → (kind pattern : ℕ) → Record
with_numbers h kind pattern = record h { kind = kind; pattern = pattern }

-- the record that a use of a range stands for
abbrev pub record_in : Use → Record
record_in u = numbered (kind_number u.kind) (pattern_number u.pattern) u.number (literal_bits u.a) (literal_bits u.b)

-- the use of a range by a record
pub record UsedAs (h : Record) (u : Use) : Type 0 where
  pub same : use_of (record_in u) ≡ use_of h
  pub rule : (r : ℕ × ℕ) (at : ℕ) → range_rule (where_of (record_in u)) (use_of (record_in u)) r at ≡ range_rule (where_of h) (use_of h) r at

-- the use by the record that a head stands for, its literals taken from the bytes s
abbrev pub UseIn : List ℕ → Head → Use → Type 0
UseIn s h u = UsedAs (record_of s h) u

-- ## Rules

-- the refusal by the rule that is broken, if one is: the answer at a place
abbrev pub rule_answer : Result (Unit {0}) Refusal → ℕ → Answer (Unit {0})
rule_answer (Ok u) at = ok tt
rule_answer (Err e) at = refuse (number_of e) at

-- whether a range is written out
abbrev pub is_direct : Where → Bool
is_direct (Direct s e) = true
is_direct (Alias x) = false

-- a use of fields that keeps the rules
pub record RangeKept (u : Use) (f : Fields) : Type 0 where
  pub rule : range_rule (where_of (record_in u)) (use_of (record_in u)) (f.start, f.end) 0 ≡ ok tt

-- the range of a use that keeps the rules 11 and 14 to 21
abbrev pub judged_range : Env Core → Where → written.Use → ℕ → Answer (ℕ × ℕ)
judged_range env w u at = and_then (known_range (find_range env w) at) λ r. and_then (range_rule w u r at) λ _. ok r

abbrev pub judged_answer : Result Fields Refusal → ℕ → Answer (ℕ × ℕ)
judged_answer (Ok f) at = ok (f.start, f.end)
judged_answer (Err e) at = refuse (number_of e) at

-- ## Cores

-- the core of a use on fields
abbrev pub core_on : written.Use → Fields → Core
core_on u f = use_core u f.start (f.end - f.start)

-- the draw of a use of a range
abbrev pub use_drawn : written.Use → ℕ × ℕ → ℕ → Draws Core
use_drawn u r at = drawing (size (use_core u r.0 (r.1 - r.0))) at (use_core u r.0 (r.1 - r.0))

-- room for what may be drawn at a record
pub record DrawRoom (xs : List ℕ) (place top allowance : ℕ) : Type 0 where
  pub low : place < max_records
  pub room : top + 3 * allowance ≤ length xs

-- the same, and the bindings below it
pub record EnvRoom (xs : List ℕ) (place last top allowance : ℕ) : Type 0 where
  pub env : Env Core
  pub bound : Bound xs last env
  pub below : last ≤ top
  pub draw : DrawRoom xs place top allowance
