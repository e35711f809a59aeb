-- A term's own record, and its node: the one gives back the other.
use mathlib.Core.Path.{◌≡◌, refl, sym, ap, subst, ◌∙◌}
use mathlib.Core.Bool.{Bool, true, false, not, ◌&&◌, ◌||◌}
use mathlib.Core.List.{List, [], ◌∷◌}
use Prim.Native.Nat.{ℕ, zero, suc, ◌+◌, ◌≤◌, ◌<◌}
use native.Mathlib.Nat.{add-zero}
use native.Mathlib.Omega.{arith}
use lib.Dec.{leb, eqb}
use lib.ListN.{length, drop, get_or}
use Rattle.literals.specs.Bits.{Bits, bit}
use Rattle.literals.specs.Patterns.{Exact, Cidr, Wildcard, IpRange}
use Rattle.literals.proofs.Logic.{leb_is, and_both, and_left, and_right, or_right}
use Rattle.expr.specs.Terms.{Zero, One, Top, Dup, End, Assign, Test, Complement, Star, LtlNext, Union, Intersect, Xor, Difference, Sequence, LtlUntil, Direct, Alias, Assigns, Tests, Matches, Expr, Plain, Unary, Binary, TestNegation, IfThenElse, Let, LetBitRange, Var, Ranged}
use Rattle.expr.specs.Records.{Record, is_match, stands}
use Rattle.expr.specs.Form.{Node, node0, node1, node2, node3, pattern_of, nodes, node_of, match_record, RecordFits}
use Rattle.expr.proofs.RecordForm.{Legal}
use Rattle.expr.proofs.KindFields.{cut_number, cut_bits, kept, legal_kept, legal_fitting, legal_of}
use Rattle.expr.proofs.TermShape.{own, kids}

-- ## From a term to its record

-- a node with its children is the term e
pub data Fill : Node → List Expr → Expr → Type 0 where
  fill0 : {e : Expr} → Fill (node0 e) [] e
  fill1 : {f : Expr → Expr} {a : Expr} → Fill (node1 f) (a ∷ []) (f a)
  fill2 : {f : Expr → Expr → Expr} {a b : Expr} → Fill (node2 f) (a ∷ b ∷ []) (f a b)
  fill3 : {f : Expr → Expr → Expr → Expr} {a b c : Expr} → Fill (node3 f) (a ∷ b ∷ c ∷ []) (f a b c)

-- a term's own record is legal, and its node is filled up by the children
pub own_node : (e : Expr) → (RecordFits (own e) → Legal (own e)) × Fill (node_of (own e)) (kids e) e
own_node (Plain Zero) = (legal_of _ refl refl, fill0)
own_node (Plain One) = (legal_of _ refl refl, fill0)
own_node (Plain Top) = (legal_of _ refl refl, fill0)
own_node (Plain Dup) = (legal_of _ refl refl, fill0)
own_node (Plain End) = (legal_of _ refl refl, fill0)
own_node (Plain (Assign f true)) = (legal_of _ refl refl, fill0)
own_node (Plain (Assign f false)) = (legal_of _ refl refl, fill0)
own_node (Plain (Test f true)) = (legal_of _ refl refl, fill0)
own_node (Plain (Test f false)) = (legal_of _ refl refl, fill0)
own_node (Unary Complement e) = (legal_of _ refl refl, fill1)
own_node (Unary Star e) = (legal_of _ refl refl, fill1)
own_node (Unary LtlNext e) = (legal_of _ refl refl, fill1)
own_node (Binary Union a b) = (legal_of _ refl refl, fill2)
own_node (Binary Intersect a b) = (legal_of _ refl refl, fill2)
own_node (Binary Xor a b) = (legal_of _ refl refl, fill2)
own_node (Binary Difference a b) = (legal_of _ refl refl, fill2)
own_node (Binary Sequence a b) = (legal_of _ refl refl, fill2)
own_node (Binary LtlUntil a b) = (legal_of _ refl refl, fill2)
own_node (TestNegation e) = (legal_of _ refl refl, fill1)
own_node (IfThenElse c t e) = (legal_of _ refl refl, fill3)
own_node (Let x d b) = (legal_of _ refl refl, fill2)
own_node (LetBitRange x s e b) = (legal_of _ refl refl, fill1)
own_node (Var x) = (legal_of _ refl refl, fill0)
own_node (Ranged (Alias x) (Assigns a)) = (legal_of _ refl refl, fill0)
own_node (Ranged (Alias x) (Tests a)) = (legal_of _ refl refl, fill0)
own_node (Ranged (Alias x) (Matches (Exact a))) = (legal_of _ refl refl, fill0)
own_node (Ranged (Alias x) (Matches (Cidr a n))) = (legal_of _ refl (and_both (or_right (not (stands n)) true refl) refl), fill0)
own_node (Ranged (Alias x) (Matches (Wildcard a m))) = (legal_of _ refl (or_right (not (stands (length m))) true refl), fill0)
own_node (Ranged (Alias x) (Matches (IpRange a b))) = (legal_of _ refl (or_right (not (stands (length b))) true refl), fill0)
own_node (Ranged (Direct s e) (Assigns a)) = (legal_of _ refl refl, fill0)
own_node (Ranged (Direct s e) (Tests a)) = (legal_of _ refl refl, fill0)
own_node (Ranged (Direct s e) (Matches (Exact a))) = (legal_of _ refl refl, fill0)
own_node (Ranged (Direct s e) (Matches (Cidr a n))) = (legal_of _ refl (and_both (or_right (not (stands n)) true refl) refl), fill0)
own_node (Ranged (Direct s e) (Matches (Wildcard a m))) = (legal_of _ refl (or_right (not (stands (length m))) true refl), fill0)
own_node (Ranged (Direct s e) (Matches (IpRange a b))) = (legal_of _ refl (or_right (not (stands (length b))) true refl), fill0)

-- ## From a record to its node

-- the terms that a node makes have the record h, and the children that are put in
abbrev pub Writes : Record → Node → Type 0
Writes h (node0 e) = (own e ≡ h) × (kids e ≡ [])
Writes h (node1 f) = (a : Expr) → (own (f a) ≡ h) × (kids (f a) ≡ a ∷ [])
Writes h (node2 f) = (a b : Expr) → (own (f a b) ≡ h) × (kids (f a b) ≡ a ∷ b ∷ [])
Writes h (node3 f) = (a b c : Expr) → (own (f a b c) ≡ h) × (kids (f a b c) ≡ a ∷ b ∷ c ∷ [])

-- each of these nodes, which are of the kinds from k on, writes h if h is of its kind
abbrev Each : Record → ℕ → List Node → Type 0
Each h k [] = Unit {0}
Each h k (n ∷ ns) = (h.kind ≡ k → Writes h n) × Each h (suc k) ns

any_node : (h : Record) (i k : ℕ) (ns : List Node) (d : Node) → Each h k ns → h.kind ≡ k + i → i < length ns → Writes h (get_or ns i d)
any_node h i k [] d ws e l = absurd (omega arith)
any_node h zero k (n ∷ ns) d ws e l = ws.0 (e ∙ add-zero k)
any_node h (suc i) k (n ∷ ns) d ws e l = any_node h i (suc k) ns d ws.1 (omega arith) (omega arith)

bit_of_small : (v : ℕ) → v ≤ 1 → bit (eqb v 1) ≡ v
bit_of_small zero h = refl
bit_of_small (suc zero) h = refl
bit_of_small (suc (suc v)) h = absurd (omega arith)

-- an atom's record, by its field and its number
abbrev valued : ℕ → ℕ → ℕ → Record
valued k f v = record { kind = k; name = 0; start = f; end = 0; pattern = 0; number = v; lit_a = []; lit_b = [] }

-- a match's record, by its pattern's fields
abbrev patterned : ℕ → ℕ → ℕ → ℕ → ℕ → ℕ → Bits → Bits → Record
patterned k x s e p n a b = record { kind = k; name = x; start = s; end = e; pattern = p; number = n; lit_a = a; lit_b = b }

-- the pattern that a record says is written as the record says it
match_same : (k x s e p n : ℕ) (a b : Bits) → p ≤ 3 → (not (stands n) || eqb p 1) ≡ true → (not (stands (length b)) || leb 2 p) ≡ true
    → match_record k x s e (pattern_of (patterned k x s e p n a b)) ≡ patterned k x s e p n a b
match_same k x s e zero n a b h u v = sym λ i. patterned k x s e 0 (cut_number false n u i) a (cut_bits false b v i)
match_same k x s e (suc zero) n a b h u v = ap (patterned k x s e 1 n a) (sym (cut_bits false b v))
match_same k x s e (suc (suc zero)) n a b h u v = ap (λ m. patterned k x s e 2 m a b) (sym (cut_number false n u))
match_same k x s e (suc (suc (suc zero))) n a b h u v = ap (λ m. patterned k x s e 3 m a b) (sym (cut_number false n u))
match_same k x s e (suc (suc (suc (suc p)))) n a b h u v = absurd (omega arith)

module _ (h : Record) (l : Legal h) where
  -- a legal record has the fields of its kind alone, and so has the record of the term
  same : {k : ℕ} → h.kind ≡ k → kept k h ≡ h
  same e = sym (legal_kept h l ∙ ap (λ k. kept k h) e)

  -- the bit of an Assign or a Test is its number
  bit_same : (k : ℕ) → is_match k ≡ false → h.kind ≡ k → valued k h.start (bit (eqb h.number 1)) ≡ valued k h.start h.number
  bit_same k z e =
      let small : (is_match k || leb h.number 1) ≡ true = subst (λ j. (is_match j || leb h.number 1) ≡ true) e l.number in
      ap (valued k h.start) (bit_of_small h.number ((leb_is h.number 1).0 (rw z at small)))

  -- the pattern of a match is its four fields
  pattern_same : (k x s t : ℕ) → is_match k ≡ true → h.kind ≡ k
      → match_record k x s t (pattern_of h) ≡ patterned k x s t h.pattern h.number h.lit_a h.lit_b
  pattern_same k x s t z e =
      let u : Bool = not (stands h.number) || eqb h.pattern 1 in
      let v : Bool = not (stands (length h.lit_b)) || leb 2 h.pattern in
      let both : (u && v) ≡ true = rw (e, z) at (legal_fitting h l) in
      match_same k x s t h.pattern h.number h.lit_a h.lit_b l.pattern (and_left u v both) (and_right u v both)

  -- the nodes of the kinds 0 to 26, from the last group to the first
  matches : Each h 25 (drop 25 (nodes h))
  matches =
      ((λ e. (pattern_same 25 0 h.start h.end refl e ∙ same e, refl)), ((λ e. (pattern_same 26 h.name 0 0 refl e ∙ same e, refl)), tt))

  values : Each h 21 (drop 21 (nodes h))
  values = ((λ e. (same e, refl)), ((λ e. (same e, refl)), ((λ e. (same e, refl)), ((λ e. (same e, refl)), matches))))

  binders : Each h 17 (drop 17 (nodes h))
  binders = ((λ e a b c. (same e, refl)), ((λ e a b. (same e, refl)), ((λ e a. (same e, refl)), ((λ e. (same e, refl)), values))))

  ones : Each h 13 (drop 13 (nodes h))
  ones = ((λ e a. (same e, refl)), ((λ e a. (same e, refl)), ((λ e a. (same e, refl)), ((λ e a. (same e, refl)), binders))))

  twos : Each h 10 (drop 10 (nodes h))
  twos = ((λ e a b. (same e, refl)), ((λ e a b. (same e, refl)), ((λ e a b. (same e, refl)), ones)))

  sets : Each h 7 (drop 7 (nodes h))
  sets = ((λ e a b. (same e, refl)), ((λ e a b. (same e, refl)), ((λ e a b. (same e, refl)), twos)))

  fields : Each h 5 (drop 5 (nodes h))
  fields = ((λ e. (bit_same 5 refl e ∙ same e, refl)), ((λ e. (bit_same 6 refl e ∙ same e, refl)), sets))

  constants : Each h 0 (nodes h)
  constants =
      ((λ e. (same e, refl)), ((λ e. (same e, refl)), ((λ e. (same e, refl)), ((λ e. (same e, refl)), ((λ e. (same e, refl)), fields)))))

  -- the node of a legal record writes that record
  pub node_writes : Writes h (node_of h)
  node_writes = any_node h h.kind 0 (nodes h) (node0 (Plain Zero)) constants (omega arith) (omega (arith, l.kind))
