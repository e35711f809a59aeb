-- What `substitute` answers, in the words of the definitions.
use mathlib.Core.{Path.◌≡◌, Bool.Bool, Bool.true, Bool.false, Bool.cond, Bool.◌&&◌, List.List, List.[], List.◌∷◌, List.◌++◌}
use Rattle.std.specs.Prelude.{ℕ, ◌+◌, ◌^◌, ◌≤◌, ◌<◌, max, Result}
use lib.{Dec.eqb, ListN.length, ListN.take, ListN.drop}
use Rattle.expr.specs.{Answers.answered, Answers.ok, Answers.map_answer, Answers.buffer_after, Terms.Name, Terms.Expr, Terms.records, Terms.depth, Form.decode, Form.encode, Form.Fits, Operations.substitute, Operations.substitute_bytes}
use Rattle.refusals.specs.declared.Refused.{Refused}
use Rattle.expr.specs.declared.replace.Job.{Job}
use Rattle.expr.specs.declared.replace.Walked.{Walked}
use Rattle.expr.specs.declared.replace.Spot.{Spot}
use Rattle.expr.specs.declared.replace.Children.{Children}

-- of a term, a name, a replacement and the answer buffer before and after the call
pub record SubstitutedAs (s : List ℕ) (x : ℕ) (t out out' : List ℕ) (r : Result ℕ Refused) : Type 0 where
  pub answer : answered r ≡ map_answer (λ bs. length bs) (substitute_bytes s x t (length out))
  pub buffer : out' ≡ buffer_after (substitute_bytes s x t (length out)) out

-- bytes of good form
pub record Decodes (s : List ℕ) : Type 0 where
  pub term : Expr
  pub reads : decode s ≡ ok term

-- ## Terms one behind the other

abbrev pub encode_all : List Expr → List ℕ
encode_all [] = []
encode_all (e ∷ es) = encode e ++ encode_all es

abbrev pub records_all : List Expr → ℕ
records_all [] = 0
records_all (e ∷ es) = records e + records_all es

abbrev pub depth_all : List Expr → ℕ
depth_all [] = 0
depth_all (e ∷ es) = max (depth e) (depth_all es)

abbrev pub FitAll : List Expr → Type 0
FitAll [] = Unit {0}
FitAll (e ∷ es) = Fits e × FitAll es

-- ## The walk over a term

-- whether a record of the kind k and the name y is of a kind and of the name x
abbrev pub named : ℕ → ℕ → ℕ → ℕ → Bool
named k y of x = eqb k of && eqb y x

-- a term in which the variable x is replaced, and one that lies in the body of a Let or LetBitRange of that name and stays as it is
abbrev pub swap : Name → Expr → Bool → Expr → Expr
swap x r live e = cond live (substitute x r e) e

-- a first term, and others behind it
abbrev pub swap_all : Name → Expr → Bool → Bool → List Expr → List Expr
swap_all x r first others [] = []
swap_all x r first others (e ∷ es) = swap x r first e ∷ swap_all x r others others es

-- the numbers w written over m at a place, where b says that they are
abbrev pub pasted : Bool → ℕ → List ℕ → List ℕ → List ℕ
pasted true at w m = take at m ++ w ++ drop (at + length w) m
pasted false at w m = m

-- what is put for the variable is r, whose extent the job says
pub record Stands (j : Job) (r : Expr) : Type 0 where
  pub bytes_are : j.by.now ≡ encode r
  pub count : j.records ≡ records r
  pub deep : j.depth ≡ depth r

-- what is asked of one term, at the front of the bytes s
pub record Ready (s : List ℕ) (spot : Spot) (j : Job) (out : List ℕ) : Type 0 where
  pub term : Expr
  pub by : Expr
  pub more : List ℕ
  pub bytes : s ≡ encode term ++ more
  pub fits : Fits term
  pub deep : depth term ≤ spot.left
  pub stands : spot.live ≡ true → Stands j by
  pub small : spot.to + length (encode (swap j.name by spot.live term)) < 2 ^ 40
  pub room : j.write ≡ true → spot.to + length (encode (swap j.name by spot.live term)) ≤ length out

-- what comes of the term e that is written as e'
pub record Done (e e' : Expr) (j : Job) (out out' : List ℕ) (to : ℕ) (w : Walked) : Type 0 where
  pub used : w.used ≡ length (encode e)
  pub next : w.to ≡ to + length (encode e')
  pub count : w.records ≡ records e'
  pub deep : w.depth ≡ depth e'
  pub wrote : out' ≡ pasted j.write to (encode e') out

-- what is asked of the children of a term, behind the bytes that are used
pub record ReadyAll (s : List ℕ) (w : Walked) (c : Children) (j : Job) (out : List ℕ) : Type 0 where
  pub terms : List Expr
  pub by : Expr
  pub more : List ℕ
  pub many : c.count ≡ length terms
  pub few : c.count ≤ 3
  pub start : w.used ≤ length s
  pub bytes : drop w.used s ≡ encode_all terms ++ more
  pub fits : FitAll terms
  pub deep : depth_all terms ≤ c.left
  pub stands₁ : c.first ≡ true → Stands j by
  pub stands₂ : c.others ≡ true → Stands j by
  pub count : w.records ≤ w.to
  pub high : 1 ≤ w.depth
  pub level : w.depth ≤ w.to
  pub small : w.to + length (encode_all (swap_all j.name by c.first c.others terms)) < 2 ^ 40
  pub room : j.write ≡ true → w.to + length (encode_all (swap_all j.name by c.first c.others terms)) ≤ length out

-- what comes of the children es that are written as es', behind what was
pub record DoneAll (es es' : List Expr) (j : Job) (out out' : List ℕ) (was w : Walked) : Type 0 where
  pub used : w.used ≡ was.used + length (encode_all es)
  pub next : w.to ≡ was.to + length (encode_all es')
  pub count : w.records ≡ was.records + records_all es'
  pub deep : w.depth ≡ max was.depth (1 + depth_all es')
  pub wrote : out' ≡ pasted j.write was.to (encode_all es') out
