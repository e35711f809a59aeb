-- The steps of reading a term: one record and as many trees behind it as it has children.
use mathlib.Core.Path.{◌≡◌, refl, sym, ap, subst, ◌∙◌}
use mathlib.Core.List.{List, [], ◌∷◌}
use Prim.Native.Nat.{ℕ, zero, suc, ◌+◌, ◌-◌, ◌≤◌, ◌<◌}
use native.Mathlib.Omega.{arith}
use native.Mathlib.Numerals.{sub-one}
use lib.ListN.{length, drop, length-drop}
use lib.Seq.{drop-drop}
use borrow.Author.Tests.{lt-ltb, le-ltb}
use Rattle.std.specs.Prelude.{Result, Ok, Err}
use Rattle.refusals.specs.Refusals.{number_of}
use Rattle.refusals.specs.declared.Refusal.{Refusal}
use Rattle.refusals.specs.declared.Refused.{Refused}
use Rattle.expr.specs.Kinds.{kind_number}
use Rattle.expr.specs.Answers.{Answer, ok, refuse, and_then, map_answer}
use Rattle.expr.specs.Terms.{records}
use Rattle.expr.specs.Records.{read_record}
use Rattle.expr.specs.Form.{max_records, max_depth, Node, node0, node1, node2, node3, node_of, Parsed, children, node_at, parse, whole_term, decode}
use Rattle.expr.specs.Results.{record_of, head_answer, RecordFound, RecordFoundAt, tree_answer, tree_from, trees_from, TreeFormed, child_count, arity_of, TreesAsked, shape_of}
use Rattle.expr.specs.declared.records.Head.{Head}
use Rattle.expr.specs.declared.form.Taken.{Taken}
use Rattle.expr.proofs.Arities.{arity_is}
use Rattle.expr.proofs.TermForm.{parse_only}
use Rattle.expr.proofs.Slices.{Sliced, bytes_each}

-- ## One record

-- what a parse leaves, without its term
abbrev left : Parsed → ℕ × List ℕ
left p = (p.next, p.rest)

-- no record is looked for past the limits
pub tree_over : (d at : ℕ) (s : List ℕ) → max_records ≤ at → tree_from d at s ≡ refuse 6 at
tree_over zero at s h = rw (le-ltb at max_records h)
tree_over (suc d) at s h = rw (le-ltb at max_records h)

pub tree_deep : (d at : ℕ) (s : List ℕ) → d ≡ 0 → at < max_records → tree_from d at s ≡ refuse 7 at
tree_deep zero at s e h = rw (lt-ltb at max_records h)
tree_deep (suc d) at s e h = absurd (omega arith)

-- else one is
tree_step : (d at : ℕ) (s : List ℕ) → (d ≡ 0 → ⊥) → at < max_records → tree_from d at s ≡ map_answer left (node_at (parse (d - 1)) at (read_record s))
tree_step zero at s f h = absurd (f refl)
tree_step (suc d) at s f h = rw (lt-ltb at max_records h, sub-one (suc d))

-- a child, and then the rest
left_then : (x : Answer Parsed) (f : Parsed → Answer Parsed) (g : ℕ × List ℕ → Answer (ℕ × List ℕ)) → ((p : Parsed) → map_answer left (f p) ≡ g (left p))
    → map_answer left (and_then x f) ≡ and_then (map_answer left x) g
left_then (ok p) f g h = h p
left_then (refuse r at) f g h = refl

-- a node's children are as many trees
children_left : (d : ℕ) (n : Node) (at : ℕ) (s : List ℕ) → map_answer left (children (parse d) n at s) ≡ trees_from d (child_count n) at s
children_left d (node0 e) at s = refl
children_left d (node1 f) at s = left_then (parse d at s) _ _ (λ a. refl)
children_left d (node2 f) at s = left_then (parse d at s) _ _ (λ a. left_then (parse d a.next a.rest) _ _ (λ b. refl))
children_left d (node3 f) at s =
    left_then (parse d at s) _ _ (λ a.
    left_then (parse d a.next a.rest) _ _ (λ b.
    left_then (parse d b.next b.rest) _ _ (λ c. refl)))

-- the record of a tree from the byte a on was looked for, within the limits
module _ {d at a : ℕ} (s : List ℕ) (deep : d ≡ 0 → ⊥) (low : at < max_records) (start : a ≤ length s) where
  -- what was found is what the tree begins with
  begins : {y : Result Head Refusal} → RecordFound (drop a s) y → map_answer left (node_at (parse (d - 1)) at (head_answer (drop a s) y)) ≡ tree_from d at (drop a s)
  begins f = ap (λ z. map_answer left (node_at (parse (d - 1)) at z)) f.answer ∙ sym (tree_step d at (drop a s) deep low)

  pub record_refused : {e : Refused} → RecordFoundAt s a at (Err e) → TreeFormed (tree_from d at (drop a s)) s (Err e)
  record_refused {e} f =
      record { answer = ap (refuse (number_of e.refusal)) f.1 ∙ begins f.0; inside = omega (arith, f.0.inside) }

  pub record_inside : {h : Head} → RecordFoundAt s a at (Ok h) → a + h.size ≤ length s
  record_inside f = omega (arith, f.inside.1, length-drop a s, start)

  -- the answer on the children is the answer on the tree
  pub record_good : {h : Head} {n : ℕ} {y : Result Taken Refused} → RecordFoundAt s a at (Ok h) → n ≡ arity_of (kind_number h.kind)
      → TreeFormed (trees_from (d - 1) n (at + 1) (drop (a + h.size) s)) s y → TreeFormed (tree_from d at (drop a s)) s y
  record_good {h} {n} {y} f m t =
      let found = record_of (drop a s) h in
      subst (λ z. TreeFormed z s y)
      ((λ i. trees_from (d - 1) ((m ∙ sym (arity_is found)) i) (at + 1) (sym (drop-drop h.size a s) i))
      ∙ sym (children_left (d - 1) (node_of found) (at + 1) (drop h.size (drop a s))) ∙ begins f)
      t

-- ## One tree of several

no_tree : (d : ℕ) {n at a : ℕ} {s : List ℕ} → n ≡ 0 → TreesAsked n a at s → TreeFormed (trees_from d n at (drop a s)) s (Ok (record { used = a; next = at }))
no_tree d {n = zero} e k = record { answer = refl; inside = (k.start, k.low) }
no_tree d {n = suc n} e k = absurd (omega arith)

-- the first of several trees, and then the others
trees_step : (d n at : ℕ) (bs : List ℕ) → (n ≡ 0 → ⊥) → trees_from d n at bs ≡ and_then (tree_from d at bs) (λ r. trees_from d (n - 1) r.0 r.1)
trees_step d zero at bs f = absurd (f refl)
trees_step d (suc n) at bs f = rw (sub-one (suc n))

-- of n trees from the byte a and the record at on, m are due, from the byte u and the record next on: what comes of those is what comes of all
pub record Due (d n at a m next u : ℕ) (s : List ℕ) : Type 0 where
  pub asked : TreesAsked m u next s
  pub whole : (y : Result Taken Refused) → TreeFormed (trees_from d m next (drop u s)) s y → TreeFormed (trees_from d n at (drop a s)) s y

pub all_due : {d n at a : ℕ} {s : List ℕ} → TreesAsked n a at s → Due d n at a n at a s
all_due k = record { asked = k; whole = λ y h. h }

module _ {d n at a m next u : ℕ} {s : List ℕ} (k : Due d n at a m next u s) where
  pub none_due : m ≤ 0 → TreeFormed (trees_from d n at (drop a s)) s (Ok (record { used = u; next = next }))
  none_due none = k.whole _ (no_tree d (omega (arith, none)) k.asked)

  -- the first of those that are due was looked for
  module _ (some : 0 < m) where
    others : {y : Result Taken Refused} → TreeFormed (tree_from d next (drop u s)) s y → and_then (tree_answer s y) (λ r. trees_from d (m - 1) r.0 r.1) ≡ trees_from d m next (drop u s)
    others f =
        ap (λ (z : Answer (ℕ × List ℕ)). and_then z (λ r. trees_from d (m - 1) r.0 r.1)) f.answer
        ∙ sym (trees_step d m next (drop u s) (λ h. omega (arith, some, h)))

    pub due_refused : {r : Refused} → TreeFormed (tree_from d next (drop u s)) s (Err r) → TreeFormed (trees_from d n at (drop a s)) s (Err r)
    due_refused f = k.whole _ (record { answer = others f; inside = f.inside })

    pub due_good : {t : Taken} {l : ℕ} → TreeFormed (tree_from d next (drop u s)) s (Ok t) → l ≡ m - 1 → Due d n at a l t.next t.used s
    due_good {t} f e =
        record {
          asked = record { few = omega (arith, e, k.asked.few); start = f.inside.0; low = f.inside.1 };
          whole = λ y h. k.whole y (subst (λ z. TreeFormed z s y) (others f) (subst (λ i. TreeFormed (trees_from d i t.next (drop t.used s)) s y) e h));
        }

-- ## The whole term

-- the tree of the whole bytes was looked for
module _ (s : List ℕ) where
  pub form_refused : {r : Refused} → TreeFormed (tree_from max_depth 0 s) s (Err r) → refuse (number_of r.refusal) r.place ≡ shape_of s (decode s)
  form_refused {r} h = go (parse max_depth 0 s) h.answer
    where
      go : (y : Answer Parsed) → refuse (number_of r.refusal) r.place ≡ map_answer left y → refuse (number_of r.refusal) r.place ≡ shape_of s (and_then y (λ p. whole_term p p.rest))
      go (ok p) k = let z : ◌≡◌ {A = ℕ} 0 1 = cc in absurd (omega arith)
      go (refuse a b) k = cc

  -- it was read up to the byte that t says
  record Reached (t : Taken) : Type 0 where
    tree : Parsed
    reads : parse max_depth 0 s ≡ ok tree
    next : tree.next ≡ t.next
    whole : decode s ≡ whole_term tree (drop t.used s)
    inside : t.used ≤ length s

  reached : {t : Taken} → TreeFormed (tree_from max_depth 0 s) s (Ok t) → Reached t
  reached {t} k = go (parse max_depth 0 s) refl k.answer k.inside.0
    where
      go : (y : Answer Parsed) → parse max_depth 0 s ≡ y → ok (t.next, drop t.used s) ≡ map_answer left y → t.used ≤ length s → Reached t
      go (ok p) r k l =
          let q : (t.next, drop t.used s) ≡ left p = cc in
          record {
            tree = p;
            reads = r;
            next = sym (ap (λ z. z.0) q);
            whole = ap (λ (z : Answer Parsed). and_then z (λ a. whole_term a a.rest)) r ∙ ap (whole_term p) (sym (ap (λ z. z.1) q));
            inside = l;
          }
      go (refuse a b) r k l = let z : ◌≡◌ {A = ℕ} 0 1 = cc in absurd (omega arith)

  pub form_left_over : {t : Taken} → TreeFormed (tree_from max_depth 0 s) s (Ok t) → t.used < length s → refuse 8 t.next ≡ shape_of s (decode s)
  form_left_over {t} e l =
      let w = reached e in
      ap (refuse 8) (sym w.next) ∙ sym (ap (shape_of s) (w.whole ∙ go w.tree (drop t.used s) (omega (arith, length-drop t.used s))))
    where
      go : (p : Parsed) (bs : List ℕ) → 1 ≤ length bs → whole_term p bs ≡ refuse 8 p.next
      go p [] k = absurd (omega arith)
      go p (b ∷ bs) k = refl

  pub form_good : {t : Taken} → TreeFormed (tree_from max_depth 0 s) s (Ok t) → Sliced s → length s ≤ t.used → ok (t.used, t.next) ≡ shape_of s (decode s)
  form_good {t} e b l =
      let w = reached e in
      let used : t.used ≡ length s = omega (arith, w.inside) in
      let next : t.next ≡ records w.tree.term = omega (arith, w.next, (parse_only max_depth 0 s w.tree (bytes_each s b) w.reads).next) in
      (λ i. ok (used i, next i)) ∙ sym (ap (shape_of s) (w.whole ∙ go w.tree (drop t.used s) (omega (arith, length-drop t.used s))))
    where
      go : (p : Parsed) (bs : List ℕ) → length bs ≡ 0 → whole_term p bs ≡ ok p.term
      go p [] k = refl
      go p (b ∷ bs) k = absurd (omega arith)
