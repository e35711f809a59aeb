-- What a slice of bytes and a part of it hold.
use mathlib.Core.Path.{◌≡◌}
use mathlib.Core.List.{List, [], ◌∷◌}
use Prim.Native.Nat.{ℕ, suc, ◌-◌}
use native.Mathlib.Omega.{arith}
use mir.Syntax.{w8}
use mir.Val.{Fits}
use lib.ListN.{length, get_or, take, drop, length-drop}
use lib.Seq.{take_all}
use Rattle.literals.specs.Bits.{Bytes}

-- what is known of a slice of bytes: each element fits 8 bits
abbrev pub Sliced : List ℕ → Type 0
Sliced s = (i : ℕ) → Fits w8 (get_or s i 0)

-- so it holds bytes
pub bytes_each : (s : List ℕ) → Sliced s → Bytes s
bytes_each [] h = tt
bytes_each (b ∷ s) h = ((h 0).fits, bytes_each s (λ i. h (suc i)))

-- what `&s[a..]` holds
abbrev pub part : ℕ → List ℕ → List ℕ
part a s = take (length s - a) (drop a s)

pub part_is : (a : ℕ) (s : List ℕ) → part a s ≡ drop a s
part_is a s = take_all (length s - a) (drop a s) (simp length-drop (omega arith))
