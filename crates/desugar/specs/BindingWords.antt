-- The binding set in work memory: the words of the contracts of src/bindings.rt. A binding is a frame of five numbers: 0 for a variable
-- or 1 for an alias, its name, two numbers, and the index where the frame around it ends. Of a variable the two are where its core
-- lies and how many records that has; of an alias, its range.
use mathlib.Core.{Path.◌≡◌, Option.Option, Option.none, Option.some, List.List, List.[], List.◌∷◌}
use Rattle.std.specs.Prelude.{ℕ, ◌+◌, ◌-◌, ◌*◌, ◌^◌, ◌≤◌, ◌<◌}
use Rattle.std.specs.Prelude as std
use lib.{ListN.length, ListN.get_or}
use Rattle.expr.specs.{Terms.Core, Terms.Name}
use Rattle.desugar.specs.{Bindings.Env, Bindings.variable, Bindings.range, Bindings.lookup_variable, Bindings.lookup_alias, Memory.Holds, Memory.Lies}
use Rattle.desugar.specs.declared.Fields.{Fields}
use Rattle.desugar.specs.declared.bindings.FrameKind.{FrameKind}
use Rattle.desugar.specs.declared.bindings.FrameKind.TheVariants.{Variable, Alias}
use Rattle.desugar.specs.declared.memory.Region.{Region}

-- a kind as it lies in work memory
abbrev pub frame_number : FrameKind → ℕ
frame_number Variable = 0
frame_number Alias = 1

-- a frame ends at index last, and the one around it ends below it
pub record Frame (xs : List ℕ) (last : ℕ) (kind : FrameKind) (x : Name) (a b : ℕ) : Type 0 where
  pub deep : 5 ≤ last
  pub inside : last ≤ length xs
  pub holds : Holds xs (last - 5) (frame_number kind ∷ x ∷ a ∷ b ∷ [])
  pub falls : get_or xs (last - 1) 0 + 5 ≤ last

-- a variable's frame, and its core below it
pub record VariableFrame (xs : List ℕ) (last : ℕ) (x : Name) (c : Core) : Type 0 where
  pub at : ℕ
  pub count : ℕ
  pub frame : Frame xs last Variable x at count
  pub lies : Lies xs at count c
  pub below : at + 3 * count + 5 ≤ last

-- the frames from the one that ends at index last are the bindings, innermost first
abbrev pub Bound : List ℕ → ℕ → Env Core → Type 0
Bound xs last [] = last ≡ 0
Bound xs last (variable x c ∷ env) = VariableFrame xs last x c × Bound xs (get_or xs (last - 1) 0) env
Bound xs last (range x s e ∷ env) = Frame xs last Alias x s e × Bound xs (get_or xs (last - 1) 0) env

pub record AnyBound (xs : List ℕ) (last : ℕ) : Type 0 where
  pub env : Env Core
  pub bound : Bound xs last env

-- there is room for a frame at index top, above all others
pub record FrameRoom (xs : List ℕ) (last top : ℕ) : Type 0 where
  pub above : last ≤ top
  pub room : top + 5 ≤ length xs
  pub small : top < 2 ^ 32

-- ## What a look-up finds

-- the end of a variable's frame, if there is one
abbrev pub VariableEnd : List ℕ → Name → Option Core → std.Option ℕ → Type 0
VariableEnd xs x (some c) r = std.IsSomeAnd r (λ last. VariableFrame xs last x c)
VariableEnd xs x none r = r ≡ std.None

-- the end of an alias's frame, if there is one
abbrev pub AliasEnd : List ℕ → Name → Option (ℕ × ℕ) → std.Option ℕ → Type 0
AliasEnd xs x (some p) r = std.IsSomeAnd r (λ last. Frame xs last Alias x p.0 p.1)
AliasEnd xs x none r = r ≡ std.None

-- the end of the innermost frame of a kind and a name, if there is one
abbrev pub Ends : List ℕ → FrameKind → Name → Env Core → std.Option ℕ → Type 0
Ends xs Variable x env r = VariableEnd xs x (lookup_variable env x) r
Ends xs Alias x env r = AliasEnd xs x (lookup_alias env x) r

-- where a core lies, below the end of the bindings
pub record CoreAt (xs : List ℕ) (last : ℕ) (c : Core) (r : Region) : Type 0 where
  pub lies : Lies xs r.at r.count c
  pub below : r.at + 3 * r.count ≤ last

abbrev pub VariableFound : List ℕ → ℕ → Option Core → std.Option Region → Type 0
VariableFound xs last (some c) r = std.IsSomeAnd r (CoreAt xs last c)
VariableFound xs last none r = r ≡ std.None

-- the range that fields are, if there are any
abbrev pub fields_pair : std.Option Fields → Option (ℕ × ℕ)
fields_pair (std.Some f) = some (f.start, f.end)
fields_pair std.None = none

-- 13 where a name that no variable has is an alias's, else 12
abbrev pub unbound_number : Option (ℕ × ℕ) → ℕ
unbound_number (some r) = 13
unbound_number none = 12
