-- A term in which a variable is replaced, by its own record and its children, and how long it may get.
use mathlib.Core.Path.{◌≡◌, refl, sym, ap, ◌∙◌}
use mathlib.Core.Bool.{Bool, true, false, not, cond, ◌&&◌, false≢true}
use mathlib.Core.List.{List, [], ◌∷◌}
use Prim.Native.Nat.{ℕ, ◌+◌, ◌*◌, ◌≤◌}
use native.Mathlib.Omega.{arith}
use lib.Dec.{eqb}
use lib.ListN.{length, get_or, length-append}
use Rattle.literals.specs.Bits.{Bits, value_of, bytes_of}
use Rattle.literals.specs.Reading.{max_literal, bytes_for, write_literal}
use Rattle.literals.proofs.Logic.{eqb_is, and_left, and_right}
use Rattle.literals.proofs.Bytes.{length_bytes_of, pack_is}
use Rattle.expr.specs.Terms.{Name, Zero, Complement, Star, LtlNext, Union, Intersect, Xor, Difference, Sequence, LtlUntil, Expr, Plain, Unary, Binary, TestNegation, IfThenElse, Let, LetBitRange, Var, Ranged, records, depth}
use Rattle.expr.specs.Records.{Record, stands, write_number, write_record}
use Rattle.expr.specs.Form.{Node, node0, nodes, encode, RecordFits, Fits}
use Rattle.expr.specs.Operations.{substitute}
use Rattle.expr.specs.Results.{child_count, arity_of}
use Rattle.expr.specs.Replaced.{named, swap, swap_all}
use Rattle.expr.proofs.TermShape.{own, kids, encode_all, records_all, depth_all, FitAll, encode_is, records_is, depth_is, fits_is}
use Rattle.expr.proofs.NodeForm.{Fill, fill0, fill1, fill2, fill3, own_node}
use Rattle.expr.proofs.Arities.{arity_is}

-- ## Own record and children

-- whether the record of a term is of a kind and of the name x
abbrev pub of_name : Expr → ℕ → Name → Bool
of_name e k x = named (own e).kind (own e).name k x

-- where the variable is replaced: in the term itself, in its first child, in the others
abbrev pub free_var : Bool → Name → Expr → Bool
free_var live x e = live && of_name e 20 x

abbrev pub free_first : Bool → Name → Expr → Bool
free_first live x e = live && not (of_name e 19 x)

abbrev pub free_others : Bool → Name → Expr → Bool
free_others live x e = live && not (of_name e 18 x)

unless_hidden : {A : Type 0} (h : Bool) (a b : A) → cond h a b ≡ cond (not h) b a
unless_hidden true a b = refl
unless_hidden false a b = refl

none_swapped : (x : Name) (r : Expr) (es : List Expr) → es ≡ swap_all x r false false es
none_swapped x r [] = refl
none_swapped x r (e ∷ es) = ap (λ (fs : List Expr). e ∷ fs) (none_swapped x r es)

-- a term that is not the variable keeps its own record, and its children are replaced
pub record Kept (x : Name) (r : Expr) (live : Bool) (e : Expr) : Type 0 where
  pub own_is : own (swap x r live e) ≡ own e
  pub kids_are : kids (swap x r live e) ≡ swap_all x r (free_first live x e) (free_others live x e) (kids e)

pub swap_keeps : (x : Name) (r : Expr) (live : Bool) (e : Expr) → free_var live x e ≡ false → Kept x r live e
swap_keeps x r false e h = record { own_is = refl; kids_are = none_swapped x r (kids e) }
swap_keeps x r true (Plain a) h = record { own_is = refl; kids_are = refl }
swap_keeps x r true (Unary Complement e) h = record { own_is = refl; kids_are = refl }
swap_keeps x r true (Unary Star e) h = record { own_is = refl; kids_are = refl }
swap_keeps x r true (Unary LtlNext e) h = record { own_is = refl; kids_are = refl }
swap_keeps x r true (Binary Union a b) h = record { own_is = refl; kids_are = refl }
swap_keeps x r true (Binary Intersect a b) h = record { own_is = refl; kids_are = refl }
swap_keeps x r true (Binary Xor a b) h = record { own_is = refl; kids_are = refl }
swap_keeps x r true (Binary Difference a b) h = record { own_is = refl; kids_are = refl }
swap_keeps x r true (Binary Sequence a b) h = record { own_is = refl; kids_are = refl }
swap_keeps x r true (Binary LtlUntil a b) h = record { own_is = refl; kids_are = refl }
swap_keeps x r true (TestNegation e) h = record { own_is = refl; kids_are = refl }
swap_keeps x r true (IfThenElse c t e) h = record { own_is = refl; kids_are = refl }
swap_keeps x r true (Let y d b) h =
    record { own_is = refl; kids_are = ap (λ f. substitute x r d ∷ f ∷ []) (unless_hidden (eqb y x) b (substitute x r b)) }
swap_keeps x r true (LetBitRange y s e b) h = record { own_is = refl; kids_are = ap (λ f. f ∷ []) (unless_hidden (eqb y x) b (substitute x r b)) }
swap_keeps x r true (Var y) h =
    record { own_is = ap (λ b. own (cond b r (Var y))) h; kids_are = ap (λ b. kids (cond b r (Var y))) h }
swap_keeps x r true (Ranged w u) h = record { own_is = refl; kids_are = refl }

-- the variable gives way to the replacement, and has no child
var_filled : {n : Node} {es : List Expr} {e : Expr} (y : Name) → Fill n es e → n ≡ node0 (Var y) → (e ≡ Var y) × (es ≡ [])
var_filled y fill0 h = (cc, refl)
var_filled y fill1 h = let z : ◌≡◌ {A = ℕ} 0 1 = cc in absurd (omega arith)
var_filled y fill2 h = let z : ◌≡◌ {A = ℕ} 0 1 = cc in absurd (omega arith)
var_filled y fill3 h = let z : ◌≡◌ {A = ℕ} 0 1 = cc in absurd (omega arith)

pub swap_var : (x : Name) (r : Expr) (live : Bool) (e : Expr) → free_var live x e ≡ true → (swap x r live e ≡ r) × (kids e ≡ [])
swap_var x r false e h = absurd (false≢true h)
swap_var x r true e h =
    let kind : (own e).kind ≡ 20 = (eqb_is (own e).kind 20).0 (and_left (eqb (own e).kind 20) (eqb (own e).name x) h) in
    let name : eqb (own e).name x ≡ true = and_right (eqb (own e).kind 20) (eqb (own e).name x) h in
    let is = var_filled (own e).name (own_node e).1 (ap (λ k. get_or (nodes (own e)) k (node0 (Plain Zero))) kind) in
    (ap (substitute x r) is.0 ∙ ap (λ b. cond b r (Var (own e).name)) name, is.1)

-- a term has as many children as its kind says
filled_count : {n : Node} {es : List Expr} {e : Expr} → Fill n es e → child_count n ≡ length es
filled_count fill0 = refl
filled_count fill1 = refl
filled_count fill2 = refl
filled_count fill3 = refl

pub kids_count : (e : Expr) → arity_of (own e).kind ≡ length (kids e)
kids_count e = sym (arity_is (own e)) ∙ filled_count (own_node e).1

-- ## Bounds

abbrev All : (Expr → Type 0) → List Expr → Type 0
All P [] = Unit {0}
All P (e ∷ es) = P e × All P es

-- what holds of a term where it holds of its children holds of every term
by_kids : (P : Expr → Type 0) → ((e : Expr) → All P (kids e) → P e) → (e : Expr) → P e
by_kids P f (Plain a) = f _ tt
by_kids P f (Unary o e) = f _ (by_kids P f e, tt)
by_kids P f (Binary o a b) = f _ (by_kids P f a, (by_kids P f b, tt))
by_kids P f (TestNegation e) = f _ (by_kids P f e, tt)
by_kids P f (IfThenElse c t e) = f _ (by_kids P f c, (by_kids P f t, (by_kids P f e, tt)))
by_kids P f (Let x d b) = f _ (by_kids P f d, (by_kids P f b, tt))
by_kids P f (LetBitRange x s e b) = f _ (by_kids P f b, tt)
by_kids P f (Var x) = f _ tt
by_kids P f (Ranged w u) = f _ tt

-- a term's length is that of its own record and its children
pub length_is : (e : Expr) → length (encode e) ≡ length (write_record (own e)) + length (encode_all (kids e))
length_is e = ap length (encode_is e) ∙ length-append (write_record (own e)) (encode_all (kids e))

-- each record takes a byte at least, and a term has no more levels than records
abbrev Short : Expr → Type 0
Short e = (records e ≤ length (encode e)) × (depth e ≤ records e)

short_all : (es : List Expr) → All Short es → (records_all es ≤ length (encode_all es)) × (depth_all es ≤ records_all es)
short_all [] h = (omega arith, omega arith)
short_all (e ∷ es) h =
    let l = short_all es h.1 in
    (omega (arith, length-append (encode e) (encode_all es), h.0.0), omega (arith, h.0.1))

pub short : (e : Expr) → (records e ≤ length (encode e)) × (depth e ≤ records e)
short = by_kids Short (λ e h.
    let l = short_all (kids e) h in
    (omega (arith, length_is e, records_is e), omega (arith, records_is e, depth_is e)))

-- a record takes at most 64 bytes
number_long : (n v : ℕ) → length (write_number n v) ≤ n
number_long n v = go (stands v)
  where
    go : (b : Bool) → length (cond b (bytes_of n v) []) ≤ n
    go true = omega (arith, length_bytes_of n v)
    go false = omega arith

literal_long : (a : Bits) → length a ≤ max_literal → length (write_literal a) ≤ 25
literal_long [] h = omega arith
literal_long (b ∷ a) h =
    let n : ℕ = bytes_for (length (b ∷ a)) in
    let l : n ≤ 24 = omega arith in
    omega (arith, ap length (pack_is n (b ∷ a)), length_bytes_of n (value_of (b ∷ a)))

record_long : (h : Record) → RecordFits h → length (write_record h) ≤ 64
record_long h f =
    simp length-append
    (omega (
      arith,
      number_long 1 h.kind,
      number_long 2 h.name,
      number_long 4 h.start,
      number_long 4 h.end,
      number_long 1 h.pattern,
      number_long 1 h.number,
      literal_long h.lit_a f.lit_a,
      literal_long h.lit_b f.lit_b,
    ))

abbrev Long : Expr → Type 0
Long e = Fits e → length (encode e) ≤ 64 * records e

long_all : (es : List Expr) → All Long es → FitAll es → length (encode_all es) ≤ 64 * records_all es
long_all [] h f = omega arith
long_all (e ∷ es) h f = omega (arith, length-append (encode e) (encode_all es), h.0 f.0, long_all es h.1 f.1)

pub long : (e : Expr) → Fits e → length (encode e) ≤ 64 * records e
long = by_kids Long (λ e h f.
    let parts = (fits_is e).0 f in
    omega (arith, length_is e, records_is e, record_long (own e) parts.0, long_all (kids e) h parts.1))

-- each record gives way to at most as many bytes as the replacement has
module _ (x : Name) (r : Expr) (small : length (encode r) ≤ 262144) where
  abbrev Swapped : Expr → Type 0
  Swapped e = (live : Bool) → length (encode (swap x r live e)) ≤ 262144 * length (encode e)

  swapped_all : (es : List Expr) → All Swapped es → (first others : Bool) → length (encode_all (swap_all x r first others es)) ≤ 262144 * length (encode_all es)
  swapped_all [] h first others = omega arith
  swapped_all (e ∷ es) h first others =
      omega (
        arith,
        length-append (encode e) (encode_all es),
        length-append (encode (swap x r first e)) (encode_all (swap_all x r others others es)),
        h.0 first,
        swapped_all es h.1 others others,
      )

  swapped : (e : Expr) → All Swapped (kids e) → Swapped e
  swapped e h live = go (free_var live x e) refl
    where
      go : (b : Bool) → free_var live x e ≡ b → length (encode (swap x r live e)) ≤ 262144 * length (encode e)
      go true k = omega (arith, ap (λ f. length (encode f)) (swap_var x r live e k).0, length_is e)
      go false k =
          let s = swap_keeps x r live e k in
          omega (
            arith,
            length_is e,
            length_is (swap x r live e),
            ap (λ g. length (write_record g)) s.own_is,
            ap (λ fs. length (encode_all fs)) s.kids_are,
            swapped_all (kids e) h (free_first live x e) (free_others live x e),
          )

  pub swapped_long : (e : Expr) (live : Bool) → length (encode (swap x r live e)) ≤ 262144 * length (encode e)
  swapped_long = by_kids Swapped swapped
