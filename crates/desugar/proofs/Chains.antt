-- The records of chains, and how many they are.
use mathlib.Core.Path.{◌∙◌, ◌≡◌, ap, refl, sym}
use mathlib.Core.Bool.{Bool, false}
use mathlib.Core.List.{List, [], ◌++◌, ◌∷◌, append_assoc, append-nil}
use Prim.Native.Nat.{◌*◌, ◌+◌, ◌-◌, ◌≤◌, suc, zero, ℕ}
use native.Mathlib.Nat.{add-suc, add-zero, suc-add}
use native.Mathlib.Numerals.{add-one}
use native.Mathlib.Omega.{arith}
use lib.ListN.{drop, drop_of_length-le, get_or, length, length-append, replicate}
use lib.Seq.{drop-cons, sets}
use Rattle.literals.proofs.Bits.{length_pad}
use Rattle.literals.specs.Bits.{Bits, bit, pad}
use Rattle.expr.specs.Terms.{Atom, Core, One, Op2, leaf, op2_kind, size}
use Rattle.desugar.specs.Costs.{chain_size}
use Rattle.desugar.specs.LeafWords.{Kinds, linked, stretch}
use Rattle.desugar.specs.Leaves.{chain, each_bit}
use Rattle.desugar.specs.Memory.{size_all, words}
use Rattle.desugar.proofs.Regions.{size_pos, length_words, sets_append}

-- ## Memory

pub suc_shift : (m n : ℕ) → suc m + n ≡ m + suc n
suc_shift m n = suc-add m n ∙ sym (add-suc m n)

-- ## Chains

pub linked_append : (o : Op2) (cs ds : List Core) → linked o (cs ++ ds) ≡ linked o cs ++ linked o ds
linked_append o [] ds = refl
linked_append o (c ∷ cs) ds =
    ap (λ (l : List ℕ). op2_kind o ∷ 0 ∷ 0 ∷ l)
    (ap (λ (l : List ℕ). words c ++ l) (linked_append o cs ds) ∙ sym (append_assoc (words c) (linked o cs) (linked o ds)))

pub words_chain : (o : Op2) (a : Atom) (cs : List Core) (c : Core) → words (chain o a (cs ++ c ∷ [])) ≡ linked o cs ++ words c
words_chain o a [] c = refl
words_chain o a (b ∷ []) c = ap (λ (l : List ℕ). op2_kind o ∷ 0 ∷ 0 ∷ (l ++ words c)) (sym (append-nil (words b)))
words_chain o a (b ∷ (d ∷ cs)) c =
    ap (λ (l : List ℕ). op2_kind o ∷ 0 ∷ 0 ∷ (words b ++ l)) (words_chain o a (d ∷ cs) c)
    ∙ ap (λ (l : List ℕ). op2_kind o ∷ 0 ∷ 0 ∷ l) (sym (append_assoc (words b) (linked o (d ∷ cs)) (words c)))

pub length_linked : (o : Op2) (cs : List Core) → length (linked o cs) ≡ 3 * (size_all cs + length cs)
length_linked o [] = refl
length_linked o (c ∷ cs) = omega (arith, length-append (words c) (linked o cs), length_words c, length_linked o cs)

pub sizes_append : (cs ds : List Core) → size_all (cs ++ ds) ≡ size_all cs + size_all ds
sizes_append [] ds = omega arith
sizes_append (c ∷ cs) ds = omega (arith, sizes_append cs ds)

-- the operands, and an operator for each but the last
pub size_chain : (o : Op2) (a : Atom) (cs : List Core) → size (chain o a cs) ≡ 1 + (size_all cs + length cs - 2)
size_chain o a [] = omega arith
size_chain o a (c ∷ []) = omega (arith, size_pos c)
size_chain o a (c ∷ (d ∷ cs)) = omega (arith, size_chain o a (d ∷ cs), size_pos d)

module _ (o : Op2) (cs : List Core) (c : Core) (l : List ℕ) (at : ℕ) {to : ℕ} (e : to ≡ at + length (linked o cs)) where
  -- one operand more behind its operator
  pub link_more : sets (sets l at (linked o cs)) to (op2_kind o ∷ 0 ∷ 0 ∷ words c) ≡ sets l at (linked o (cs ++ c ∷ []))
  link_more =
      ap (λ k. sets (sets l at (linked o cs)) k (op2_kind o ∷ 0 ∷ 0 ∷ words c)) e
      ∙ sets_append l at (linked o cs) (op2_kind o ∷ 0 ∷ 0 ∷ words c)
      ∙ ap (sets l at) (ap (λ (w : List ℕ). linked o cs ++ op2_kind o ∷ 0 ∷ 0 ∷ w) (sym (append-nil (words c))) ∙ sym (linked_append o cs (c ∷ [])))

  -- the last operand
  pub link_last : (a : Atom) → sets (sets l at (linked o cs)) to (words c) ≡ sets l at (words (chain o a (cs ++ c ∷ [])))
  link_last a =
      ap (λ k. sets (sets l at (linked o cs)) k (words c)) e
      ∙ sets_append l at (linked o cs) (words c)
      ∙ ap (sets l at) (sym (words_chain o a cs c))

-- ## A stretch of a literal

pub length_stretch : (a : Bits) (i n : ℕ) → length (stretch a i n) ≡ n
length_stretch a i zero = refl
length_stretch a i (suc n) = ap suc (length_stretch a (suc i) n)

pub stretch_more : (a : Bits) (i n : ℕ) → stretch a i (suc n) ≡ stretch a i n ++ get_or a (i + n) false ∷ []
stretch_more a i zero = ap (λ k. get_or a k false ∷ []) (sym (add-zero i))
stretch_more a i (suc n) =
    ap (λ (b : Bits). get_or a i false ∷ b) (stretch_more a (suc i) n ∙ ap (λ k. stretch a (suc i) n ++ get_or a k false ∷ []) (suc_shift i n))

get_d_falses : (m j : ℕ) → get_or (replicate m false) j false ≡ false
get_d_falses zero j = refl
get_d_falses (suc m) zero = refl
get_d_falses (suc m) (suc j) = get_d_falses m j

get_d_padded : (a : Bits) (m j : ℕ) → get_or (a ++ replicate m false) j false ≡ get_or a j false
get_d_padded [] m j = get_d_falses m j
get_d_padded (b ∷ a) m zero = refl
get_d_padded (b ∷ a) m (suc j) = get_d_padded a m j

stretch_is : (a b : Bits) (i n : ℕ) → length b ≡ i + n → ((j : ℕ) → get_or b j false ≡ get_or a j false) → stretch a i n ≡ drop i b
stretch_is a b i zero h e = let past : length b ≤ i = omega arith in sym (drop_of_length-le b past)
stretch_is a b i (suc n) h e =
    (λ j. sym (e i) j ∷ stretch_is a b (suc i) n (omega arith) e j) ∙ sym (drop-cons b i false (omega arith))

-- the bits from index i on of a literal that has n more
pub stretch_rest : (a : Bits) (i n : ℕ) → length a ≡ i + n → stretch a i n ≡ drop i a
stretch_rest a i n h = stretch_is a a i n h (λ j. refl)

pub stretch_whole : (a : Bits) (n : ℕ) → length a ≡ n → stretch a 0 n ≡ a
stretch_whole a n h = stretch_rest a 0 n (omega arith)

-- a literal made n bits wide
pub stretch_pad : (a : Bits) (n : ℕ) → length a ≤ n → stretch a 0 n ≡ pad n a
stretch_pad a n h = stretch_is a (pad n a) 0 n (omega (arith, length_pad n a h)) (get_d_padded a (n - length a))

-- ## An atom for each bit

module _ (f : ℕ → Bool → Atom) where
  pub each_bit_more : (s : ℕ) (a : Bits) (b : Bool) → each_bit f s (a ++ b ∷ []) ≡ each_bit f s a ++ leaf (f (s + length a) b) ∷ []
  each_bit_more s [] b = ap (λ k. leaf (f k b) ∷ []) (sym (add-zero s))
  each_bit_more s (c ∷ a) b =
      ap (λ (l : List Core). leaf (f s c) ∷ l)
      (each_bit_more (suc s) a b ∙ ap (λ k. each_bit f (suc s) a ++ leaf (f k b) ∷ []) (suc_shift s (length a)))

  pub length_each_bit : (s : ℕ) (a : Bits) → length (each_bit f s a) ≡ length a
  length_each_bit s [] = refl
  length_each_bit s (b ∷ a) = ap suc (length_each_bit (suc s) a)

  pub sizes_each_bit : (s : ℕ) (a : Bits) → size_all (each_bit f s a) ≡ length a
  sizes_each_bit s [] = refl
  sizes_each_bit s (b ∷ a) = omega (arith, sizes_each_bit (suc s) a)

  pub size_each_bit : (o : Op2) (s : ℕ) (a : Bits) → size (chain o One (each_bit f s a)) ≡ chain_size (length a)
  size_each_bit o s a = omega (arith, size_chain o One (each_bit f s a), sizes_each_bit s a, length_each_bit s a)

-- what is written so far are the links of the first n bits; b is the next bit
module _ {k m : ℕ} {o : Op2} {f : ℕ → Bool → Atom} (kinds : Kinds k m o f) (s : ℕ) (a : Bits) (from n : ℕ) (l : List ℕ) (at : ℕ) {w : List ℕ} {b : Bool}
    (sofar : w ≡ sets l at (linked o (each_bit f s (stretch a from n)))) (next : b ≡ get_or a (from + n) false) where
  abbrev atoms : List Core
  atoms = each_bit f s (stretch a from n)

  atoms_more : atoms ++ leaf (f (s + n) b) ∷ [] ≡ each_bit f s (stretch a from (n + 1))
  atoms_more =
      (λ i. atoms ++ leaf (f (s + sym (length_stretch a from n) i) (next i)) ∷ [])
      ∙ sym (each_bit_more f s (stretch a from n) (get_or a (from + n) false))
      ∙ ap (each_bit f s) (sym (stretch_more a from n) ∙ ap (stretch a from) (sym (add-one n)))

  place : at + 6 * n ≡ at + length (linked o atoms)
  place =
      let t = length_stretch a from n in
      omega (arith, length_linked o atoms, sizes_each_bit f s (stretch a from n), length_each_bit f s (stretch a from n))

  pub bit_more : sets w (at + 6 * n) (k ∷ 0 ∷ 0 ∷ m ∷ (s + n) ∷ bit b ∷ []) ≡ sets l at (linked o (each_bit f s (stretch a from (n + 1))))
  bit_more =
      (λ i. sets (sofar i) (at + 6 * n) (sym kinds.operator_is i ∷ 0 ∷ 0 ∷ sym (kinds.atom_is (s + n) b) i))
      ∙ link_more o atoms (leaf (f (s + n) b)) l at place
      ∙ ap (λ cs. sets l at (linked o cs)) atoms_more

  pub bit_last : sets w (at + 6 * n) (m ∷ (s + n) ∷ bit b ∷ []) ≡ sets l at (words (chain o One (each_bit f s (stretch a from (n + 1)))))
  bit_last =
      (λ i. sets (sofar i) (at + 6 * n) (sym (kinds.atom_is (s + n) b) i))
      ∙ link_last o atoms (leaf (f (s + n) b)) l at place One
      ∙ ap (λ cs. sets l at (words (chain o One cs))) atoms_more
