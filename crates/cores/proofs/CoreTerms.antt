-- The bytes of a core read as those of a term: form says the same of both, but for its own limits and kinds.
use mathlib.Core.Path.{◌≡◌, refl, sym, ap, subst, ◌∙◌}
use mathlib.Core.Bool.{Bool, true, false, cond}
use mathlib.Core.List.{List, [], ◌∷◌}
use Prim.Native.Nat.{ℕ, zero, suc, ◌+◌, ◌-◌, ◌≤◌}
use native.Mathlib.Omega.{arith}
use lib.Dec.{ltb}
use Rattle.literals.specs.Bits.{Bytes}
use Rattle.literals.specs.Reading.{Read, got, fault}
use Rattle.expr.specs.Answers.{Answer, ok, refuse, and_then, map_answer, need}
use Rattle.expr.specs.Terms.{Atom, Op1, Op2, Core, leaf, one, two, Expr, Unary, Binary, size}
use Rattle.expr.specs.Records.{Record, read_record}
use Rattle.expr.specs.Form.{Node, Parsed, max_records, max_depth, parsed, children, node_at, parse, whole_term, decode, written}
use Rattle.expr.specs.Operations.{num_fields, fields_bytes}
use Rattle.cores.specs.Reading.{max_core, term_kind, read_core_record, CoreNode, atom, unary, binary, core_node, Cores, due_behind, put_over, core_at, read_cores, whole_core, decode_core, read_core}
use Rattle.cores.specs.Claims.{AsForTerms, same_tree, same_refusal, term_kind_fact, too_many, without_6, without_7}
use Rattle.cores.proofs.CoreForm.{core_only, node_is, written_node, read_as}

-- a term that was read is this core, written, and these many cores are still due behind it, of which so many records may come
pub record Goes (left due at : ℕ) (p : Parsed) (y : Answer (Cores (suc due) × List ℕ)) : Type 0 where
  core : Core
  few : size core ≤ left
  term : p.term ≡ written core
  next : p.next ≡ at + size core
  bytes : Bytes p.rest
  others : y ≡ map_answer (λ q. ((core, q.0), q.1)) (read_cores (left - size core) due p.next p.rest)

-- what a term is read as, and then what the cores from there on are
data Beside (left due at : ℕ) : Answer Parsed → Answer (Cores (suc due) × List ℕ) → Type 0 where
  goes : (p : Parsed) (y : Answer (Cores (suc due) × List ℕ)) → Goes left due at p y → Beside left due at (ok p) y
  same : (r p : ℕ) → Beside left due at (refuse r p) (refuse r p)
  kind : (x : Answer Parsed) (p : ℕ) → Beside left due at x (refuse 41 p)
  many : (x : Answer Parsed) (p : ℕ) → Beside left due at x (refuse 42 p)
  large : (p : ℕ) (y : Answer (Cores (suc due) × List ℕ)) → Beside left due at (refuse 6 p) y
  deep : (p : ℕ) (y : Answer (Cores (suc due) × List ℕ)) → Beside left due at (refuse 7 p) y

abbrev Each : ℕ → Type 0
Each d = (left due at : ℕ) (bs : List ℕ) → Bytes bs → Beside left due at (parse d at bs) (read_cores left (suc due) at bs)

-- put a node over the cores that were read
mapped : {A B C : Type 0} (f : A → B) (g : B → C) (x : Answer A) → map_answer g (map_answer f x) ≡ map_answer (λ a. g (f a)) x
mapped f g (ok a) = refl
mapped f g (refuse r p) = refl

abbrev over : (m : CoreNode) (due : ℕ) → Answer (Cores (due_behind m due) × List ℕ) → Answer (Cores (suc due) × List ℕ)
over m due = map_answer (λ r. (put_over m due r.0, r.1))

module _ (d : ℕ) (each : Each d) (left due at : ℕ) (rest : List ℕ) (b : Bytes rest) where
  abbrev node : CoreNode → Type 0
  node m = Beside (suc left) due at (children (parse d) (written_node m) (at + 1) rest) (over m due (read_cores left (due_behind m due) (at + 1) rest))

  -- no operand
  atom_beside : (a : Atom) → node (atom a)
  atom_beside a =
      let e : left ≡ suc left - 1 = omega arith in
      goes _ _
      (record {
        core = leaf a;
        few = omega arith;
        term = refl;
        next = refl;
        bytes = b;
        others = ap (λ n. map_answer (λ q. ((leaf a, q.0), q.1)) (read_cores n due (at + 1) rest)) e;
      })

  -- one operand
  unary_beside : (o : Op1) → node (unary o)
  unary_beside o = go (each left due (at + 1) rest b)
    where
      go : {x : Answer Parsed} {y : Answer (Cores (suc due) × List ℕ)} → Beside left due (at + 1) x y
          → Beside (suc left) due at (and_then x λ p. parsed (Unary o p.term) p.next p.rest) (over (unary o) due y)
      go (goes p y g) =
          let e : left - size g.core ≡ suc left - (1 + size g.core) = omega (arith, g.few) in
          let behind : p.next ≡ at + (1 + size g.core) = omega (arith, g.next) in
          goes _ _
          (record {
            core = one o g.core;
            few = omega (arith, g.few);
            term = ap (Unary o) g.term;
            next = behind;
            bytes = g.bytes;
            others =
                ap (over (unary o) due) g.others ∙ mapped _ _ (read_cores (left - size g.core) due p.next p.rest)
                ∙ ap (λ n. map_answer (λ q. ((one o g.core, q.0), q.1)) (read_cores n due p.next p.rest)) e;
          })
      go (same r p) = same r p
      go (kind x p) = kind _ p
      go (many x p) = many _ p
      go (large p y) = large p _
      go (deep p y) = deep p _

  -- two operands
  binary_beside : (o : Op2) → node (binary o)
  binary_beside o = first (each left (suc due) (at + 1) rest b)
    where
      first : {x : Answer Parsed} {y : Answer (Cores (suc (suc due)) × List ℕ)} → Beside left (suc due) (at + 1) x y
          → Beside (suc left) due at (and_then x λ p. and_then (parse d p.next p.rest) λ q. parsed (Binary o p.term q.term) q.next q.rest) (over (binary o) due y)
      first (goes p y g) =
          subst
          (λ z. Beside (suc left) due at (and_then (parse d p.next p.rest) λ q. parsed (Binary o p.term q.term) q.next q.rest) (over (binary o) due z))
          (sym g.others) (second (each (left - size g.core) due p.next p.rest g.bytes))
        where
          second : {x : Answer Parsed} {y : Answer (Cores (suc due) × List ℕ)} → Beside (left - size g.core) due p.next x y
              → Beside (suc left) due at (and_then x λ q. parsed (Binary o p.term q.term) q.next q.rest) (over (binary o) due (map_answer (λ q. ((g.core, q.0), q.1)) y))
          second (goes q y k) =
              let e : left - size g.core - size k.core ≡ suc left - (1 + size g.core + size k.core) = omega (arith, g.few, k.few) in
              let behind : q.next ≡ at + (1 + size g.core + size k.core) = omega (arith, g.next, k.next) in
              goes _ _
              (record {
                core = two o g.core k.core;
                few = omega (arith, g.few, k.few);
                term = λ i. Binary o (g.term i) (k.term i);
                next = behind;
                bytes = k.bytes;
                others =
                    ap (λ z. over (binary o) due (map_answer (λ q. ((g.core, q.0), q.1)) z)) k.others
                    ∙ ap (over (binary o) due) (mapped _ _ (read_cores (left - size g.core - size k.core) due q.next q.rest))
                    ∙ mapped _ _ (read_cores (left - size g.core - size k.core) due q.next q.rest)
                    ∙ ap (λ n. map_answer (λ r. ((two o g.core k.core, r.0), r.1)) (read_cores n due q.next q.rest)) e;
              })
          second (same r p) = same r p
          second (kind x p) = kind _ p
          second (many x p) = many _ p
          second (large p y) = large p _
          second (deep p y) = deep p _
      first (same r p) = same r p
      first (kind x p) = kind _ p
      first (many x p) = many _ p
      first (large p y) = large p _
      first (deep p y) = deep p _

  node_beside : (m : CoreNode) → node m
  node_beside (atom a) = atom_beside a
  node_beside (unary o) = unary_beside o
  node_beside (binary o) = binary_beside o

record_beside : (d : ℕ) → Each d → (left due at : ℕ) (bs : List ℕ) → Bytes bs
    → Beside (suc left) due at (node_at (parse d) at (read_record bs)) (core_at (read_cores left) due at (read_core_record bs))
record_beside d each left due at bs b = go (term_kind bs) refl
  where
    found : term_kind bs ≡ false → (x : Read Record) → read_record bs ≡ x → Beside (suc left) due at (node_at (parse d) at x) (core_at (read_cores left) due at x)
    found k (fault r) e = same r at
    found k (got h rest) e =
        let w = core_only bs h rest b (ap (λ t. cond t (fault 41) (read_record bs)) k ∙ e) in
        subst (λ (n : Node). Beside (suc left) due at (children (parse d) n (at + 1) rest) (over (core_node h) due (read_cores left (due_behind (core_node h) due) (at + 1) rest)))
        (sym (node_is h w.small)) (node_beside d each left due at rest w.left (core_node h))

    go : (t : Bool) → term_kind bs ≡ t → Beside (suc left) due at (node_at (parse d) at (read_record bs)) (core_at (read_cores left) due at (cond t (fault 41) (read_record bs)))
    go true k = kind _ at
    go false k = found k (read_record bs) refl

beside : (d : ℕ) → Each d
beside zero left due at bs b = go (ltb at max_records)
  where
    go : (t : Bool) → Beside left due at (and_then (need t 6 at) λ _. refuse 7 at) (read_cores left (suc due) at bs)
    go true = deep at _
    go false = large at _
beside (suc d) zero due at bs b = many _ at
beside (suc d) (suc left) due at bs b = go (ltb at max_records) (record_beside d (beside d) left due at bs b)
  where
    go : (t : Bool) → Beside (suc left) due at (node_at (parse d) at (read_record bs)) (core_at (read_cores left) due at (read_core_record bs))
        → Beside (suc left) due at (and_then (need t 6 at) λ _. node_at (parse d) at (read_record bs)) (core_at (read_cores left) due at (read_core_record bs))
    go true h = h
    go false h = large at _

-- ## The whole

none_due : (left at : ℕ) (bs : List ℕ) → read_cores left zero at bs ≡ ok (tt, bs)
none_due zero at bs = refl
none_due (suc left) at bs = refl

pub core_as_term : (bs : List ℕ) → Bytes bs → AsForTerms (decode bs) (decode_core bs)
core_as_term bs b = go (beside max_depth max_core 0 0 bs b)
  where
    closed : (c : Core) (p : Parsed) → p.term ≡ written c → p.next ≡ 0 + size c → (rest : List ℕ) → AsForTerms (whole_term p rest) (whole_core c rest)
    closed c p t n [] = subst (λ (e : Expr). AsForTerms (ok e) (ok c)) (sym t) (same_tree c)
    closed c p t n (x ∷ xs) = let e : size c ≡ p.next = omega (arith, n) in subst (λ k. AsForTerms (refuse 8 k) (refuse 8 (size c))) e (same_refusal 8 (size c))

    go : {x : Answer Parsed} {y : Answer (Cores 1 × List ℕ)} → Beside max_core 0 0 x y
        → AsForTerms (and_then x (λ p. whole_term p p.rest)) (and_then y (λ r. whole_core r.0.0 r.1))
    go (goes p y g) =
        subst (λ (z : Answer (Cores 1 × List ℕ)). AsForTerms (whole_term p p.rest) (and_then z (λ r. whole_core r.0.0 r.1)))
        (sym (g.others ∙ ap (map_answer (λ q. ((g.core, q.0), q.1))) (none_due (max_core - size g.core) p.next p.rest)))
        (closed g.core p g.term g.next p.rest)
    go (same r p) = same_refusal r p
    go (kind x p) = term_kind_fact _ p
    go (many x p) = too_many _ p
    go (large p y) = without_6 p _
    go (deep p y) = without_7 p _

-- bytes that are a core's and a term's are of one tree
one_tree : {x : Answer Expr} {y : Answer Core} → AsForTerms x y → (c : Core) (e : Expr) → y ≡ ok c → x ≡ ok e → e ≡ written c
one_tree (same_tree d) c e h k = let same : d ≡ c = cc in let term : written d ≡ e = cc in sym term ∙ ap written same
one_tree (same_refusal r at) c e h k = let z : ◌≡◌ {A = ℕ} 0 1 = cc in absurd (omega arith)
one_tree (term_kind_fact x at) c e h k = let z : ◌≡◌ {A = ℕ} 0 1 = cc in absurd (omega arith)
one_tree (too_many x at) c e h k = let z : ◌≡◌ {A = ℕ} 0 1 = cc in absurd (omega arith)
one_tree (without_6 at y) c e h k = let z : ◌≡◌ {A = ℕ} 0 1 = cc in absurd (omega arith)
one_tree (without_7 at y) c e h k = let z : ◌≡◌ {A = ℕ} 0 1 = cc in absurd (omega arith)

-- and have one field count
pub same_fields : (bs : List ℕ) (room : ℕ) (r : Core × ℕ) (m : ℕ) → Bytes bs → read_core bs room ≡ ok r → fields_bytes bs ≡ ok m → r.1 ≡ m
same_fields bs room r m b h k = go (decode bs) refl k
  where
    go : (x : Answer Expr) → decode bs ≡ x → and_then x (λ e. num_fields e 0) ≡ ok m → r.1 ≡ m
    go (ok e) d j =
        let w = read_as bs room r h in
        let both : ◌≡◌ {A = Answer ℕ} (ok r.1) (ok m) = sym w.fields ∙ ap (λ (t : Expr). num_fields t 0) (sym (one_tree (core_as_term bs b) r.0 e w.is d)) ∙ j in
        cc
    go (refuse q p) d j = let z : ◌≡◌ {A = ℕ} 0 1 = cc in absurd (omega arith)
