-- How many children a record of a kind has, by ranges of kinds.
use mathlib.Core.Path.{◌≡◌, refl, sym, ap, subst, ◌∙◌}
use mathlib.Core.Bool.{true}
use Prim.Native.Nat.{ℕ, ◌+◌, ◌≤◌, ◌<◌}
use native.Mathlib.Omega.{arith}
use native.Mathlib.Decide.{dec_lt}
use lib.Dec.{eqb}
use lib.ListN.{get_or-eq_default, get_or-map}
use Rattle.expr.specs.Terms.{Plain, Zero}
use Rattle.expr.specs.Records.{Record}
use Rattle.expr.specs.Form.{Node, node0, node1, node2, node3, nodes, node_of, plain_record}
use Rattle.expr.specs.Results.{child_count, arity_of}
use Rattle.expr.proofs.Finite.{all_below, same_in}

-- n kinds from a first one on that have r children each
pub arity_in : (first n r : ℕ) → all_below n (λ i. eqb (arity_of (first + i)) r) ≡ true → (k : ℕ) → first ≤ k → k < first + n → r ≡ arity_of k
arity_in = same_in arity_of

-- kinds 20 to 26 have no child, and what is no kind has none
pub arity_past : (k : ℕ) → 20 ≤ k → 0 ≡ arity_of k
arity_past k h = go (dec_lt k 27)
  where
    go : Dec (k < 27) → 0 ≡ arity_of k
    go (yes l) = arity_in 20 7 0 refl k h l
    go (no l) = ap child_count (sym (get_or-eq_default (nodes (plain_record k)) (node0 (Plain Zero)) {n = k} (omega arith)))

-- the kind alone says how many children a record has
pub arity_is : (h : Record) → child_count (node_of h) ≡ arity_of h.kind
arity_is h =
    sym (get_or-map child_count (nodes h) h.kind (node0 (Plain Zero)))
    ∙ get_or-map child_count (nodes (plain_record h.kind)) h.kind (node0 (Plain Zero))

pub arity_small : (k n : ℕ) → n ≡ arity_of k → n ≤ 3
arity_small k n e = subst (λ m. m ≤ 3) (sym e) (small (node_of (plain_record k)))
  where
    small : (n : Node) → child_count n ≤ 3
    small (node0 e) = omega arith
    small (node1 f) = omega arith
    small (node2 f) = omega arith
    small (node3 f) = omega arith
