-- What the functions of this crate answer, in the words of the definitions.
use mathlib.Core.{Path.◌≡◌, List.List}
use Rattle.std.specs.Prelude.{ℕ, ◌+◌, ◌≤◌, Result, Ok, Err, IfOk}
use lib.{ListN.length, ListN.take, ListN.drop}
use Rattle.refusals.specs.Refusals.{number_of}
use Rattle.refusals.specs.declared.Refusal.{Refusal}
use Rattle.literals.specs.{Bits.Bits, Bits.value_of, Bits.unpack, Reading.Read, Reading.got, Reading.fault, Reading.literal, Reading.lent, Reading.max_literal, Reading.bytes_for, Comparing.order_of, Comparing.looked_at}
use Rattle.literals.specs.declared.Literal.{Literal}
use Rattle.literals.specs.declared.BitSlice.{BitSlice}
use Rattle.literals.specs.declared.Compared.{Compared}

-- the bits of a literal that was read from the bytes s, and the bytes behind it; or the refusal's number
abbrev pub literal_answer : List ℕ → Result Literal Refusal → Read Bits
literal_answer s (Ok l) = got (take l.bits (unpack (drop l.at s))) (drop l.next s)
literal_answer s (Err e) = fault (number_of e)

-- a literal that was read lies inside the bytes with all its bits, behind its length byte
abbrev pub LiteralInside : List ℕ → ℕ → Result Literal Refusal → Type 0
LiteralInside s at (Ok l) = (at ≤ l.at) × (l.at + bytes_for l.bits ≤ l.next) × (l.next ≤ length s) × (l.bits ≤ max_literal)
LiteralInside s at (Err e) = number_of e ≤ 5

pub record LiteralFound (s : List ℕ) (at : ℕ) (r : Result Literal Refusal) : Type 0 where
  pub answer : literal_answer s r ≡ literal (drop at s)
  pub inside : LiteralInside s at r

-- the bits of a literal that lies at the front of bytes
abbrev pub literal_bits : BitSlice → Bits
literal_bits l = take l.len (unpack l.bytes.now)

-- a lent literal of n bits in the front of the bytes s, and the bytes behind it; or the refusal's number
abbrev pub lent_answer : Result BitSlice Refusal → Read Bits
lent_answer (Ok l) = got (literal_bits l) (drop (bytes_for l.len) l.bytes.now)
lent_answer (Err e) = fault (number_of e)

-- the literal of n bits that lies at the front of the bytes s, as they are
pub record LentFound (n : ℕ) (s : List ℕ) (r : Result BitSlice Refusal) : Type 0 where
  pub answer : lent_answer r ≡ lent n s
  pub same : IfOk r λ l. (l.len ≡ n) × (l.bytes.now ≡ s)

-- a comparison of the bounds a and b over a field of w bits: by value, with the count of bits looked at
pub record ComparedAs (w : ℕ) (a b : Bits) (r : Compared) : Type 0 where
  pub order : r.order ≡ order_of (value_of a) (value_of b)
  pub looked : r.looked ≡ looked_at w a b
