-- Reading and writing numbers and literals as bytes (document 01, "Term bytes" and "Form").
use mathlib.Core.{Bool.Bool, Bool.true, Bool.false, Bool.not, Bool.◌&&◌, List.List, List.[], List.◌∷◌}
use Rattle.std.specs.Prelude.{ℕ, zero, suc, ◌+◌, ◌/◌}
use lib.{Dec.leb, Dec.eqb, ListN.length, ListN.take, ListN.drop}
use Rattle.literals.specs.{Bits.Bits, Bits.number_of, Bits.unpack, Bits.pack}

-- what is read and the bytes that are left, or a refusal's number
pub data Read (A : Type 0) : Type 0 where
  got : A → List ℕ → Read A
  fault : ℕ → Read A

abbrev pub Reads : Type 0 → Type 0
Reads A = List ℕ → Read A

-- go on behind what was read, or keep the refusal
abbrev pub go_on : {A B : Type 0} → Read A → (A → Reads B) → Read B
go_on (got a bs) f = f a bs
go_on (fault r) f = fault r

infixl 20 ◌>>=◌
abbrev pub ◌>>=◌ : {A B : Type 0} → Reads A → (A → Reads B) → Reads B
◌>>=◌ m f = λ bs. go_on (m bs) f

abbrev pub give : {A : Type 0} → A → Reads A
give a = λ bs. got a bs

-- the refusal r where b is false
abbrev pub ask : Bool → ℕ → Reads (Unit {0})
ask true r = give tt
ask false r = λ bs. fault r

-- "Form": "1 bytes lacking"
abbrev pub byte : Reads ℕ
byte [] = fault 1
byte (b ∷ bs) = got b bs

-- the next n bytes
abbrev pub chunk : ℕ → Reads (List ℕ)
chunk zero = give []
chunk (suc n) = byte >>= λ b. chunk n >>= λ bs. give (b ∷ bs)

-- "Form": "1 bytes lacking, 4 zero". A number of n bytes that stands is not zero
abbrev pub nonzero : ℕ → Reads ℕ
nonzero n = chunk n >>= λ bs. ask (not (eqb (number_of bs) 0)) 4 >>= λ _. give (number_of bs)

-- document 02, change 6: "Literals may be up to 192 bits, so refusal 5 begins at 193." In document 01 it began at 129
abbrev pub max_literal : ℕ
max_literal = 192

-- the bytes that n bits take
abbrev pub bytes_for : ℕ → ℕ
bytes_for n = (n + 7) / 8

abbrev pub all_false : Bits → Bool
all_false [] = true
all_false (b ∷ a) = not b && all_false a

-- "Term bytes": "a length byte (0 is 4, over 128 is 5, both before its bits are looked for), then bits, least significant
-- first, spare high bits zero (else 4)"; by change 6 of document 02 over 192 is 5
abbrev pub literal : Reads Bits
literal =
    byte >>= λ n.
    ask (not (eqb n 0)) 4 >>= λ _.
    ask (leb n max_literal) 5 >>= λ _.
    chunk (bytes_for n) >>= λ bs.
    ask (all_false (drop n (unpack bs))) 4 >>= λ _.
    give (take n (unpack bs))

-- a literal of n bits that a host lends, in the front of its bytes: 5 and 1 as above. What stands behind its bits is not looked at
abbrev pub lent : ℕ → Reads Bits
lent n = ask (leb n max_literal) 5 >>= λ _. chunk (bytes_for n) >>= λ bs. give (take n (unpack bs))

-- "Term bytes": "an absent field is zero or empty". An empty literal is not written
abbrev pub write_literal : Bits → List ℕ
write_literal [] = []
write_literal (b ∷ a) = length (b ∷ a) ∷ pack (bytes_for (length (b ∷ a))) (b ∷ a)
