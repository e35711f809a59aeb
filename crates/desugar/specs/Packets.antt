-- What terms and cores mean: relations between packets (document 01, "Packet meaning").
use mathlib.Core.{Path.◌≡◌, Logic.◌⊎◌, Bool.Bool, Bool.true, Bool.false, Bool.cond, Bool.not, Bool.◌&&◌, Bool.◌||◌, Bool.beq, Option.Option, Option.none, Option.some, Option.get_or, List.[], List.◌∷◌}
use Rattle.std.specs.Prelude.{ℕ, zero, suc, ◌+◌, ◌-◌}
use lib.{Dec.leb, Dec.ltb, Dec.eqb}
use Rattle.literals.specs.{Bits.Bits, Bits.value_of, Bits.bit_at, Patterns.HoldsOf}
use Rattle.expr.specs.{Terms.Atom, Terms.Zero, Terms.One, Terms.Top, Terms.Dup, Terms.End, Terms.Assign, Terms.Test, Terms.Op2, Terms.Union, Terms.Intersect, Terms.Xor, Terms.Difference, Terms.Sequence, Terms.LtlUntil, Terms.Op1, Terms.Complement, Terms.Star, Terms.LtlNext, Terms.Core, Terms.leaf, Terms.one, Terms.two, Terms.Use, Terms.Assigns, Terms.Tests, Terms.Matches, Terms.Expr, Terms.Plain, Terms.Unary, Terms.Binary, Terms.TestNegation, Terms.IfThenElse, Terms.Let, Terms.LetBitRange, Terms.Var, Terms.Ranged, Terms.atom_kind, Terms.op1_kind, Terms.op2_kind}
use Rattle.desugar.specs.{Bindings.Env, Bindings.variable, Bindings.range, Bindings.lookup_variable, Bindings.find_range}

-- "A packet gives every field number a bit"
abbrev pub Packet : Type 0
Packet = ℕ → Bool

abbrev pub Relation : Type 1
Relation = Packet → Packet → Type 0

-- "a range's value has its lowest bit at the lowest field": the bits and the value of the n fields from s
abbrev pub field_bits : Packet → ℕ → ℕ → Bits
field_bits p s zero = []
field_bits p s (suc n) = p s ∷ field_bits p (suc s) n

abbrev pub field_value : Packet → ℕ → ℕ → ℕ
field_value p s n = value_of (field_bits p s n)

-- "q is p with that bit given the value", "likewise, for the whole range"
abbrev pub with_field : Packet → ℕ → Bool → Packet
with_field p f b = λ g. cond (eqb g f) b (p g)

abbrev pub with_range : Packet → ℕ → ℕ → ℕ → Packet
with_range p s n v = λ g. cond (leb s g && ltb g (s + n)) (bit_at (g - s) v) (p g)

-- "Star in zero or more rounds"
pub data Rounds (R : Relation) : Packet → Packet → Type 0 where
  done : {p q : Packet} → p ≡ q → Rounds R p q
  more : {p q r : Packet} → R p q → Rounds R q r → Rounds R p r

-- "One-step kinds are all but Top, Dup, End, Complement, LtlNext, LtlUntil.": 2, 3, 4, 13, 15 and 12
abbrev pub one_step : ℕ → Bool
one_step k = not (eqb k 2 || eqb k 3 || eqb k 4 || eqb k 13 || eqb k 15 || eqb k 12)

-- what the other kinds mean is not said: any meaning of them will do
pub record Others : Type 1 where
  pub top : Relation
  pub dup : Relation
  pub end : Relation
  pub complement : Relation → Relation
  pub next : Relation → Relation
  pub until : Relation → Relation → Relation

module _ (others : Others) where
  -- "Zero never; One if equal; Test if equal and the bit agrees; Assign if q is p with that bit given the value"
  abbrev pub atom_means : Atom → Relation
  atom_means Zero p q = ⊥
  atom_means One p q = p ≡ q
  atom_means Top p q = others.top p q
  atom_means Dup p q = others.dup p q
  atom_means End p q = others.end p q
  atom_means (Assign f v) p q = q ≡ with_field p f v
  atom_means (Test f v) p q = (p ≡ q) × (p f ≡ v)

  abbrev pub op1_means : Op1 → Relation → Relation
  op1_means Complement R p q = others.complement R p q
  op1_means Star R p q = Rounds R p q
  op1_means LtlNext R p q = others.next R p q

  -- "Union, Intersect, Xor, Difference by logic; Sequence through some packet"
  abbrev pub op2_means : Op2 → Relation → Relation → Relation
  op2_means Union R S p q = R p q ⊎ S p q
  op2_means Intersect R S p q = R p q × S p q
  op2_means Xor R S p q = (R p q × ¬ S p q) ⊎ (¬ R p q × S p q)
  op2_means Difference R S p q = R p q × ¬ S p q
  op2_means Sequence R S p q = (r : Packet) × R p r × S r q
  op2_means LtlUntil R S p q = others.until R S p q

  abbrev pub core_means : Core → Relation
  core_means (leaf a) = atom_means a
  core_means (one o c) = op1_means o (core_means c)
  core_means (two o a b) = op2_means o (core_means a) (core_means b)

  -- "range and alias assignment likewise, ..; range and alias tests and matches if equal and ..": the n fields from s
  abbrev pub use_means : Use → ℕ → ℕ → Relation
  use_means (Assigns a) s n p q = q ≡ with_range p s n (value_of a)
  use_means (Tests a) s n p q = (p ≡ q) × (field_value p s n ≡ value_of a)
  use_means (Matches m) s n p q = (p ≡ q) × HoldsOf m n (field_value p s n)

  -- of an unknown alias, and of an unbound variable below: nothing. Rules 11 to 13 refuse these
  abbrev pub range_means : Use → Option (ℕ × ℕ) → Relation
  range_means u (some r) p q = use_means u r.0 (r.1 - r.0) p q
  range_means u none p q = ⊥

  -- "A term relates packet p to q: .. negation if equal and the operand doesn't relate p to itself; If by ..": the written meaning
  abbrev pub means : Env Relation → Expr → Relation
  means env (Plain a) p q = atom_means a p q
  means env (Unary o e) p q = op1_means o (means env e) p q
  means env (Binary o a b) p q = op2_means o (means env a) (means env b) p q
  means env (TestNegation e) p q = (p ≡ q) × ¬ means env e p p
  means env (IfThenElse c t e) p q = (means env c p p × means env t p q) ⊎ (¬ means env c p p × means env e p q)
  means env (Let x d b) p q = means (variable x (means env d) ∷ env) b p q
  means env (LetBitRange x s e b) p q = means (range x s e ∷ env) b p q
  means env (Var x) p q = get_or (lookup_variable env x) (λ p q. ⊥) p q
  means env (Ranged w u) p q = range_means u (find_range env w) p q

-- a term's kinds are one-step, those of a definition only where its variable is used: env says of each variable around whether its
-- definition's are
abbrev pub OneStep : Env (Type 0) → Expr → Type 0
OneStep env (Plain a) = one_step (atom_kind a) ≡ true
OneStep env (Unary o e) = (one_step (op1_kind o) ≡ true) × OneStep env e
OneStep env (Binary o a b) = (one_step (op2_kind o) ≡ true) × OneStep env a × OneStep env b
OneStep env (TestNegation e) = OneStep env e
OneStep env (IfThenElse c t e) = OneStep env c × OneStep env t × OneStep env e
OneStep env (Let x d b) = OneStep (variable x (OneStep env d) ∷ env) b
OneStep env (LetBitRange x s e b) = OneStep (range x s e ∷ env) b
OneStep env (Var x) = get_or (lookup_variable env x) (Unit {0})
OneStep env (Ranged w u) = Unit {0}

-- ## Tests

-- whether a test lets a packet pass, by computing: an atom, an operator by its operands, a core. proofs/Tests.antt has that a core which is a test
-- relates a packet to itself exactly if this says so; what is no test lets nothing pass
abbrev pub passes_atom : Atom → Packet → Bool
passes_atom Zero p = false
passes_atom One p = true
passes_atom Top p = false
passes_atom Dup p = false
passes_atom End p = false
passes_atom (Assign f v) p = false
passes_atom (Test f v) p = beq (p f) v

abbrev pub passes_pair : Op2 → Bool → Bool → Bool
passes_pair Union x y = x || y
passes_pair Intersect x y = x && y
passes_pair Xor x y = not (beq x y)
passes_pair Difference x y = x && not y
passes_pair Sequence x y = x && y
passes_pair LtlUntil x y = false

abbrev pub passes : Core → Packet → Bool
passes (leaf a) p = passes_atom a p
passes (one o c) p = false
passes (two o a b) p = passes_pair o (passes a p) (passes b p)
