-- A record has the fields of its kind and no others.
use mathlib.Core.Path.{◌≡◌, refl, sym, ap, ◌∙◌}
use mathlib.Core.Logic.{◌⊎◌, inl, inr}
use mathlib.Core.Bool.{Bool, true, false, not, cond, ◌&&◌, ◌||◌, false≢true}
use mathlib.Core.List.{List, [], ◌∷◌}
use Prim.Native.Nat.{ℕ}
use lib.Dec.{leb, eqb}
use lib.ListN.{length, get_or}
use Rattle.literals.specs.Bits.{Bits, bit_at}
use Rattle.literals.proofs.Logic.{leb_is, eqb_is, and_both, and_left, and_right, or_right, or_cases}
use Rattle.expr.specs.Records.{Record, kind_fields, among, none_lacks, is_match, fits_pattern, stands, map_of}
use Rattle.expr.specs.Form.{RecordFits}
use Rattle.expr.proofs.RecordForm.{empty_is, field_bits, Legal, standing, map_bit}

-- the kind k has bit i, or the bit does not stand
abbrev allows : ℕ → ℕ → ℕ → Bool
allows k m i = not (bit_at i m) || among i (get_or kind_fields k [])

lacks_at : (k m : ℕ) (is : List ℕ) (i : ℕ) → none_lacks k m is ≡ true → among i is ≡ true → allows k m i ≡ true
lacks_at k m [] i h e = absurd (false≢true e)
lacks_at k m (j ∷ is) i h e = go (or_cases (eqb i j) (among i is) e) (lacks_at k m is i (and_right (allows k m j) (none_lacks k m is) h))
  where
    go : (eqb i j ≡ true) ⊎ (among i is ≡ true) → (among i is ≡ true → allows k m i ≡ true) → allows k m i ≡ true
    go (inl s) behind = ap (allows k m) ((eqb_is i j).0 s) ∙ and_left (allows k m j) (none_lacks k m is) h
    go (inr s) behind = behind s

-- a field that may stand only where a does: it is what it is cut down to
module _ {A : Type 0} (absent : A) (empty : A → Bool) where
  cut_down : ((x : A) → empty x ≡ true → x ≡ absent) → (a : Bool) (x : A) → (not (not (empty x)) || a) ≡ true → x ≡ cond a x absent
  cut_down only true x h = refl
  cut_down only false x h = only x (go (empty x) h)
    where
      go : (b : Bool) → (not (not b) || false) ≡ true → b ≡ true
      go true e = refl
      go false e = absurd (false≢true e)

  stands_where : empty absent ≡ true → (a : Bool) (x : A) → x ≡ cond a x absent → (not (not (empty x)) || a) ≡ true
  stands_where none true x h = or_right (not (not (empty x))) true refl
  stands_where none false x h = ap (λ y. not (not (empty y)) || false) h ∙ rw none refl

-- a record cut down to the fields of the kind k
abbrev pub kept : ℕ → Record → Record
kept k h =
    let fields : List ℕ = get_or kind_fields k [] in
    record {
      kind = k;
      name = cond (among 1 fields) h.name 0;
      start = cond (among 2 fields) h.start 0;
      end = cond (among 3 fields) h.end 0;
      pattern = cond (among 4 fields) h.pattern 0;
      number = cond (among 5 fields) h.number 0;
      lit_a = cond (among 6 fields) h.lit_a [];
      lit_b = cond (among 7 fields) h.lit_b [];
    }

pub cut_number : (b : Bool) (v : ℕ) → (not (stands v) || b) ≡ true → v ≡ cond b v 0
cut_number b v h = cut_down 0 (λ n. eqb n 0) (λ n e. (eqb_is n 0).0 e) b v h

pub cut_bits : (b : Bool) (a : Bits) → (not (stands (length a)) || b) ≡ true → a ≡ cond b a []
cut_bits b a h = cut_down [] (λ (c : Bits). eqb (length c) 0) empty_is b a h

-- a legal record is cut down already
pub legal_kept : (h : Record) → Legal h → h ≡ kept h.kind h
legal_kept h l =
    let fields : List ℕ = get_or kind_fields h.kind [] in
    let at : (i : ℕ) → among i field_bits ≡ true → (not (get_or (standing h) i false) || among i fields) ≡ true =
    λ i e. ap (λ b. not b || among i fields) (sym (map_bit i h)) ∙ lacks_at h.kind (map_of h) field_bits i l.has e in
    λ i.
    record {
      kind = h.kind;
      name = cut_number _ h.name (at 1 refl) i;
      start = cut_number _ h.start (at 2 refl) i;
      end = cut_number _ h.end (at 3 refl) i;
      pattern = cut_number _ h.pattern (at 4 refl) i;
      number = cut_number _ h.number (at 5 refl) i;
      lit_a = cut_bits _ h.lit_a (at 6 refl) i;
      lit_b = cut_bits _ h.lit_b (at 7 refl) i;
    }

-- a record that is cut down lacks nothing
kept_has : (h : Record) → h ≡ kept h.kind h → none_lacks h.kind (map_of h) field_bits ≡ true
kept_has h e =
    let fields : List ℕ = get_or kind_fields h.kind [] in
    let at : (i : ℕ) → (not (get_or (standing h) i false) || among i fields) ≡ true → (not (bit_at i (map_of h)) || among i fields) ≡ true =
    λ i p. ap (λ b. not b || among i fields) (map_bit i h) ∙ p in
    let number : (b : Bool) (v : ℕ) → v ≡ cond b v 0 → (not (stands v) || b) ≡ true = stands_where 0 (λ n. eqb n 0) refl in
    let bits : (b : Bool) (a : Bits) → a ≡ cond b a [] → (not (stands (length a)) || b) ≡ true = stands_where [] (λ (a : Bits). eqb (length a) 0) refl in
    and_both (at 1 (number _ h.name (ap (λ r. r.name) e)))
    (and_both (at 2 (number _ h.start (ap (λ r. r.start) e)))
    (and_both (at 3 (number _ h.end (ap (λ r. r.end) e)))
    (and_both (at 4 (number _ h.pattern (ap (λ r. r.pattern) e)))
    (and_both (at 5 (number _ h.number (ap (λ r. r.number) e)))
    (and_both (at 6 (bits _ h.lit_a (ap (λ r. r.lit_a) e)))
    (and_both (at 7 (bits _ h.lit_b (ap (λ r. r.lit_b) e))) refl))))))

-- fits_pattern said of the fields
abbrev pub fitting : Record → Bool
fitting h = not (is_match h.kind) || ((not (stands h.number) || eqb h.pattern 1) && (not (stands (length h.lit_b)) || leb 2 h.pattern))

fits_pattern_is : (h : Record) → fits_pattern h.kind h.pattern (map_of h) ≡ fitting h
fits_pattern_is h =
    λ i. not (is_match h.kind) || ((not (map_bit 5 h i) || eqb h.pattern 1) && (not (map_bit 7 h i) || leb 2 h.pattern))

pub legal_fitting : (h : Record) → Legal h → fitting h ≡ true
legal_fitting h l = sym (fits_pattern_is h) ∙ l.fitting

-- the tests of one record, in a form that computes at a known kind
abbrev lawful : Record → Bool
lawful h = leb h.kind 26 && (leb h.pattern 3 && ((is_match h.kind || leb h.number 1) && fitting h))

pub legal_of : (h : Record) → h ≡ kept h.kind h → lawful h ≡ true → RecordFits h → Legal h
legal_of h e t r =
    let t1 = and_right (leb h.kind 26) _ t in
    let t2 = and_right (leb h.pattern 3) _ t1 in
    record {
      kind = (leb_is h.kind 26).0 (and_left (leb h.kind 26) _ t);
      has = kept_has h e;
      pattern = (leb_is h.pattern 3).0 (and_left (leb h.pattern 3) _ t1);
      fitting = fits_pattern_is h ∙ and_right (is_match h.kind || leb h.number 1) (fitting h) t2;
      number = and_left (is_match h.kind || leb h.number 1) (fitting h) t2;
      fits = r;
    }
