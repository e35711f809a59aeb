-- The rules 11 to 21 (document 01, "Rules"), each asked at a place. 22 and 23 stand with the walks that judge them.
use mathlib.Core.{Bool.◌&&◌, Option.Option, Option.none, Option.some}
use Rattle.std.specs.Prelude.{ℕ, ◌-◌}
use lib.{Dec.leb, Dec.eqb, ListN.length}
use Rattle.literals.specs.{Bits.Bits, Bits.value_of, Patterns.Pattern, Patterns.Exact, Patterns.Cidr, Patterns.Wildcard, Patterns.IpRange}
use Rattle.expr.specs.{Answers.Answer, Answers.ok, Answers.refuse, Answers.and_then, Answers.need, Terms.Where, Terms.Direct, Terms.Alias, Terms.Use, Terms.Assigns, Terms.Tests, Terms.Matches}

-- "11 unknown alias in assign, test or match."
abbrev pub known_range : Option (ℕ × ℕ) → ℕ → Answer (ℕ × ℕ)
known_range (some r) at = ok r
known_range none at = refuse 11 at

-- "12 unbound variable. 13 plain variable that only an alias has.": what the variable has, given what the alias has
abbrev pub bound_variable : {A : Type 0} → Option A → Option (ℕ × ℕ) → ℕ → Answer A
bound_variable (some v) r at = ok v
bound_variable none (some r) at = refuse 13 at
bound_variable none none at = refuse 12 at

-- "15 literal longer than the alias" "16 direct range literal not exactly the width.": a literal for n bits
abbrev pub literal_rule : Where → Bits → ℕ → ℕ → Answer (Unit {0})
literal_rule (Direct s e) a n at = need (eqb (length a) n) 16 at
literal_rule (Alias x) a n at = need (leb (length a) n) 15 at

-- "20 range pattern on a field over 128 bits", and in document 02, change 6: "Range patterns keep their 128-bit field limit."
abbrev pub max_range_bits : ℕ
max_range_bits = 128

-- "15 .. Exact pattern longer than its field", "17 CIDR prefix ..", to "21 range start above range end": a pattern for n bits
abbrev pub pattern_rule : Pattern → ℕ → ℕ → Answer (Unit {0})
pattern_rule (Exact a) n at = need (leb (length a) n) 15 at
pattern_rule (Cidr a k) n at = and_then (need (leb k n) 17 at) λ _. need (eqb (length a) n) 18 at
pattern_rule (Wildcard a m) n at = need (eqb (length a) n && eqb (length m) n) 19 at
pattern_rule (IpRange a b) n at =
    and_then (need (leb n max_range_bits && leb (length a) n && leb (length b) n) 20 at) λ _.
    need (leb (value_of a) (value_of b)) 21 at

abbrev pub use_rule : Where → Use → ℕ → ℕ → Answer (Unit {0})
use_rule w (Assigns a) n at = literal_rule w a n at
use_rule w (Tests a) n at = literal_rule w a n at
use_rule w (Matches m) n at = pattern_rule m n at

-- "14 range end below start." "In one node 14 comes first": the rules on a use of a range
abbrev pub range_rule : Where → Use → ℕ × ℕ → ℕ → Answer (Unit {0})
range_rule w u r at = and_then (need (leb r.0 r.1) 14 at) λ _. use_rule w u (r.1 - r.0) at
