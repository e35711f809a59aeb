-- One record's bytes (document 01, "Term bytes" and "Form").
use mathlib.Core.{Bool.Bool, Bool.true, Bool.false, Bool.cond, Bool.not, Bool.◌&&◌, Bool.◌||◌, List.List, List.[], List.◌∷◌, List.◌++◌}
use Rattle.std.specs.Prelude.{ℕ}
use lib.{Dec.leb, Dec.eqb, ListN.length, ListN.get_or}
use Rattle.literals.specs.{Bits.Bits, Bits.value_of, Bits.bit_at, Bits.bytes_of, Reading.Reads, Reading.◌>>=◌, Reading.give, Reading.ask, Reading.byte, Reading.nonzero, Reading.literal, Reading.write_literal}

-- "A record is a map byte, then only the fields whose bit stands; an absent field is zero or empty." Fields 0 to 7
pub record Record : Type 0 where
  pub kind : ℕ
  pub name : ℕ
  pub start : ℕ
  pub end : ℕ
  pub pattern : ℕ
  pub number : ℕ
  pub lit_a : Bits
  pub lit_b : Bits

-- "Kinds": the bits in parentheses, of the kinds 0 to 26. All have bit 0
abbrev pub kind_fields : List (List ℕ)
kind_fields =
    [] ∷ [] ∷ [] ∷ [] ∷ [] ∷ (2 ∷ 5 ∷ []) ∷ (2 ∷ 5 ∷ [])
    ∷ [] ∷ [] ∷ [] ∷ [] ∷ [] ∷ [] ∷ [] ∷ [] ∷ [] ∷ [] ∷ []
    ∷ (1 ∷ []) ∷ (1 ∷ 2 ∷ 3 ∷ []) ∷ (1 ∷ [])
    ∷ (1 ∷ 6 ∷ []) ∷ (1 ∷ 6 ∷ []) ∷ (2 ∷ 3 ∷ 6 ∷ []) ∷ (2 ∷ 3 ∷ 6 ∷ [])
    ∷ (2 ∷ 3 ∷ 4 ∷ 5 ∷ 6 ∷ 7 ∷ []) ∷ (1 ∷ 4 ∷ 5 ∷ 6 ∷ 7 ∷ []) ∷ []

abbrev pub among : ℕ → List ℕ → Bool
among i [] = false
among i (j ∷ js) = eqb i j || among i js

-- "Then 3, a map bit that the kind lacks.": none of these bits stands in the map m and is not among the kind's
abbrev pub none_lacks : ℕ → ℕ → List ℕ → Bool
none_lacks k m [] = true
none_lacks k m (i ∷ is) = (not (bit_at i m) || among i (get_or kind_fields k [])) && none_lacks k m is

-- 25 and 26, the kinds with a pattern
abbrev pub is_match : ℕ → Bool
is_match k = leb 25 k

-- "Cidr number and A; Wildcard address A, mask B; IpRange A to B. Bits 5 and 7 are judged there (3) right after bit 4's turn"
abbrev pub fits_pattern : ℕ → ℕ → ℕ → Bool
fits_pattern k p m = not (is_match k) || ((not (bit_at 5 m) || eqb p 1) && (not (bit_at 7 m) || leb 2 p))

-- "1 bytes used up. Then the kind, if its bit stands: ..": the map, the kind, 3, then the fields in map order, each by its own rules
abbrev pub read_record : Reads Record
read_record =
    byte >>= λ m.
    cond (bit_at 0 m) (nonzero 1 >>= λ k. ask (leb k 26) 2 >>= λ _. give k) (give 0) >>= λ k.
    ask (none_lacks k m (1 ∷ 2 ∷ 3 ∷ 4 ∷ 5 ∷ 6 ∷ 7 ∷ [])) 3 >>= λ _.
    cond (bit_at 1 m) (nonzero 2) (give 0) >>= λ name.
    cond (bit_at 2 m) (nonzero 4) (give 0) >>= λ start.
    cond (bit_at 3 m) (nonzero 4) (give 0) >>= λ end.
    cond (bit_at 4 m) (nonzero 1 >>= λ p. ask (leb p 3) 5 >>= λ _. give p) (give 0) >>= λ pattern.
    ask (fits_pattern k pattern m) 3 >>= λ _.
    cond (bit_at 5 m) (nonzero 1 >>= λ v. ask (is_match k || leb v 1) 5 >>= λ _. give v) (give 0) >>= λ number.
    cond (bit_at 6 m) literal (give []) >>= λ a.
    cond (bit_at 7 m) literal (give []) >>= λ b.
    give (record { kind = k; name = name; start = start; end = end; pattern = pattern; number = number; lit_a = a; lit_b = b })

-- whether a field stands
abbrev pub stands : ℕ → Bool
stands v = not (eqb v 0)

abbrev pub map_of : Record → ℕ
map_of h =
    value_of
    (stands h.kind ∷ stands h.name ∷ stands h.start ∷ stands h.end ∷ stands h.pattern ∷ stands h.number
    ∷ stands (length h.lit_a) ∷ stands (length h.lit_b) ∷ [])

abbrev pub write_number : ℕ → ℕ → List ℕ
write_number n v = cond (stands v) (bytes_of n v) []

abbrev pub write_record : Record → List ℕ
write_record h =
    map_of h ∷ write_number 1 h.kind ++ write_number 2 h.name ++ write_number 4 h.start ++ write_number 4 h.end
    ++ write_number 1 h.pattern ++ write_number 1 h.number ++ write_literal h.lit_a ++ write_literal h.lit_b
