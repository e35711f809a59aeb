-- The cost of a pattern that a host lends: by its number, the prefix, and the literals A and B, each as bytes and a length in bits (document
-- 02, change 5).
use mathlib.Core.{List.List, List.[], List.◌∷◌}
use Rattle.std.specs.Prelude.{ℕ}
use lib.{ListN.get_or}
use Rattle.literals.specs.{Bits.Bits, Patterns.Pattern, Patterns.Exact, Patterns.Cidr, Patterns.Wildcard, Patterns.IpRange, Reading.Read, Reading.got, Reading.fault, Reading.lent}
use Rattle.expr.specs.{Answers.Answer, Answers.ok, Answers.refuse, Answers.and_then, Answers.map_answer}
use Rattle.desugar.specs.{Costs.cost}

-- "or 0 where nothing else is said": there is no record that a refusal could have for its place
abbrev pub placed : {A : Type 0} → Read A → Answer A
placed (got a bs) = ok a
placed (fault r) = refuse r 0

abbrev pub lent_literal : List ℕ × ℕ → Answer Bits
lent_literal l = placed (lent l.1 l.0)

-- "0 Exact, 1 Cidr, 2 Wildcard, 3 IpRange"; "Exact has A; Cidr number and A; Wildcard address A, mask B; IpRange A to B."
abbrev pub lent_patterns : ℕ → (a b : List ℕ × ℕ) → List (Answer Pattern)
lent_patterns k a b =
    map_answer Exact (lent_literal a)
    ∷ map_answer (λ x. Cidr x k) (lent_literal a)
    ∷ and_then (lent_literal a) (λ x. map_answer (Wildcard x) (lent_literal b))
    ∷ and_then (lent_literal a) (λ x. map_answer (IpRange x) (lent_literal b))
    ∷ []

-- "over 3 is 5"
abbrev pub lent_pattern : (pattern number : ℕ) (a b : List ℕ × ℕ) → Answer Pattern
lent_pattern p k a b = get_or (lent_patterns k a b) p (refuse 5 0)

-- on the fields from s up to e
abbrev pub lent_cost : (s e pattern number : ℕ) (a b : List ℕ × ℕ) → Answer ℕ
lent_cost s e p k a b = and_then (lent_pattern p k a b) λ q. cost q s e 0
