-- What src/leaf.rt and src/ranged.rt answer, in the words of the definition.
use mathlib.Core.Path.{◌≡◌, refl, sym, ap, subst, ◌∙◌}
use mathlib.Core.Option.{Option, none, some}
use mathlib.Core.List.{List, [], ◌∷◌}
use Prim.Native.Nat.{ℕ, ◌+◌, ◌-◌, ◌*◌, ◌≤◌, ◌<◌}
use native.Mathlib.Omega.{arith}
use borrow.Author.Tests.{le-leb, lt-leb}
use lib.Dec.{eqb, leb}
use lib.ListN.{length, length-drop, take}
use lib.Seq.{length-take-le, sets}
use Rattle.std.specs.Prelude as std
use Rattle.literals.specs.Results.{literal_bits}
use Rattle.expr.specs.Kinds.{kind_number, pattern_number}
use Rattle.desugar.specs.declared.uses.Use as read
use Rattle.desugar.specs.declared.memory.Region.{Region}
use mathlib.Core.Bool.{Bool, true, false, cond, ◌&&◌, true≢false, false≢true}
use Rattle.desugar.proofs.Frames.{some_none}
use Rattle.std.specs.Prelude.{Result, Ok, Err}
use Rattle.refusals.specs.declared.Refused.{Refused}
use Rattle.desugar.specs.declared.operands.Walked.{Walked}
use Rattle.literals.proofs.Bytes.{length_unpack}
use Rattle.literals.specs.Bits.{Bits, bit, unpack}
use Rattle.literals.specs.Reading.{bytes_for}
use Rattle.expr.specs.Answers.{Answer, and_then, need, ok, refuse}
use Rattle.expr.specs.Terms.{Alias, Assigns, Core, Direct, Matches, Name, Ranged, Tests, Use, Var, Where, leaf, size}
use Rattle.expr.specs.Records.{Record}
use Rattle.expr.specs.Results.{record_of}
use Rattle.expr.specs.declared.records.Head.{Head}
use Rattle.expr.proofs.Slices.{part, part_is}
use Rattle.desugar.specs.Bindings.{Env, find_range, lookup_alias, lookup_variable}
use Rattle.desugar.specs.Meter.{Meter, ◌>>=◌, drawing, left, lift}
use Rattle.desugar.specs.Rules.{known_range, literal_rule, range_rule, use_rule}
use Rattle.desugar.specs.Desugar.{desugar}
use Rattle.desugar.specs.Memory.{Holds, Kept, words}
use Rattle.desugar.specs.BindingWords.{CoreAt, VariableFound}
use Rattle.desugar.specs.WalkWords.{WalkedCore, WalkedAs, use_of, where_of}
use Rattle.desugar.specs.RangedWords.{UseIn, is_direct, atom_of, judged_range, record_in, use_drawn}
use Rattle.desugar.proofs.Regions.{kept_sets, length_words, stored}
use Rattle.desugar.proofs.LeafKinds.{kinds_in, of}

-- ## A draw

pub same_walk : {x y : Answer (Core × Meter)} (used next top allowance levels : ℕ) (xs xs' : List ℕ) (r : Result Walked Refused)
    → x ≡ y → WalkedAs y used next top allowance levels xs xs' r → WalkedAs x used next top allowance levels xs xs' r
same_walk used next top allowance levels xs xs' r e w = subst (λ z. WalkedAs z used next top allowance levels xs xs' r) (sym e) w

pub same_core : {x y : Answer (Core × Meter)} {used next top allowance levels : ℕ} {xs xs' : List ℕ} {w : Walked}
    → x ≡ y → WalkedCore y used next top allowance levels xs xs' w → WalkedCore x used next top allowance levels xs xs' w
same_core {used = used} {next} {top} {allowance} {levels} {xs} {xs'} {w} e c = subst (λ z. WalkedCore z used next top allowance levels xs xs' w) (sym e) c

module _ (c : Core) (at allowance : ℕ) where
  pub too_large : allowance < size c → drawing (size c) at c (left allowance) ≡ refuse 24 at
  too_large h = rw (lt-leb (size c) allowance h) refl

  module _ (n : ℕ) (count : n ≡ size c) (enough : n ≤ allowance) where
    drawn_is : drawing (size c) at c (left allowance) ≡ ok (c, left (allowance - n))
    drawn_is = rw (le-leb (size c) allowance (omega arith)) (ap (λ m. ok (c, left (allowance - m))) (sym count))

    pub walked : (used next top : ℕ) (xs xs' : List ℕ) → Holds xs' top (words c) → Kept top xs xs'
        → WalkedCore (drawing (size c) at c (left allowance)) used next top allowance 0 xs xs' (record { used = used; next = next; core = record { at = top; count = n }; left = allowance - n })
    walked used next top xs xs' h k = record {
      core = c;
      is = drawn_is;
      used_is = refl;
      next_is = refl;
      lies = record { holds = h; count = count };
      kept = k;
      above = omega arith;
      reach = omega arith;
      drawn = omega arith;
    }

    pub walked_stored : (used next top : ℕ) (xs xs' : List ℕ) → top + 3 * allowance ≤ length xs → xs' ≡ sets xs top (words c)
        → WalkedCore (drawing (size c) at c (left allowance)) used next top allowance 0 xs xs' (record { used = used; next = next; core = record { at = top; count = n }; left = allowance - n })
    walked_stored used next top xs xs' room e =
        walked used next top xs xs'
        (subst (λ (l : List ℕ). Holds l top (words c)) (sym e) (stored xs top (words c) (omega (arith, length_words c))))
        (subst (λ (l : List ℕ). Kept top xs l) (sym e) (kept_sets top xs top (words c) (omega arith)))

-- ## An atom

pub low_atom : (h : Record) → h.kind < 5 → words (leaf (atom_of h)) ≡ h.kind ∷ 0 ∷ 0 ∷ []
low_atom h l =
    kinds_in 0 5 (λ k. words (leaf (atom_of (of h k))) ≡ k ∷ 0 ∷ 0 ∷ []) (refl, (refl, (refl, (refl, (refl, tt))))) h.kind (omega arith) l

pub field_atom : (h : Record) → 5 ≤ h.kind → h.kind ≤ 6 → words (leaf (atom_of h)) ≡ h.kind ∷ h.start ∷ bit (eqb h.number 1) ∷ []
field_atom h l m =
    kinds_in 5 2 (λ k. words (leaf (atom_of (of h k))) ≡ k ∷ h.start ∷ bit (eqb h.number 1) ∷ []) (refl, (refl, tt)) h.kind l (omega arith)

-- ## A variable

-- the core that was found
pub record CoreFound (xs : List ℕ) (last : ℕ) (o : Option Core) (r : Region) : Type 0 where
  pub core : Core
  pub is : o ≡ some core
  pub at : CoreAt xs last core r

pub core_found : (xs : List ℕ) (last : ℕ) (o : Option Core) (r : Region) → VariableFound xs last o (std.Some r) → CoreFound xs last o r
core_found xs last (some c) r t = record { core = c; is = refl; at = t }
core_found xs last none r t = absurd (some_none (ap (std.option_map (λ _. 0)) t))

pub none_found : (xs : List ℕ) (last : ℕ) (o : Option Core) → VariableFound xs last o std.None → o ≡ none
none_found xs last (some c) t = absurd t
none_found xs last none t = refl

module _ (env : Env Core) (x : Name) (at : ℕ) (k : Meter) where
  pub variable_drawn : (c : Core) → lookup_variable env x ≡ some c → desugar env (Var x) at k ≡ drawing (size c) at c k
  variable_drawn c e = rw e refl

  pub variable_unbound : lookup_variable env x ≡ none → lookup_alias env x ≡ none → desugar env (Var x) at k ≡ refuse 12 at
  variable_unbound e f = rw (e, f) refl

  pub variable_alias : (r : ℕ × ℕ) → lookup_variable env x ≡ none → lookup_alias env x ≡ some r → desugar env (Var x) at k ≡ refuse 13 at
  variable_alias r e f = rw (e, f) refl

-- ## A use of a range

abbrev range_in : Answer (ℕ × ℕ) → ℕ × ℕ
range_in (ok r) = r
range_in (refuse n p) = (0, 0)

abbrev is_refusal : Answer (ℕ × ℕ) → ℕ
is_refusal (ok r) = 0
is_refusal (refuse n p) = 1

module _ (env : Env Core) (w : Where) (u : Use) (at : ℕ) where
  pub range_unknown : find_range env w ≡ none → judged_range env w u at ≡ refuse 11 at
  range_unknown e = rw e refl

  module _ {r : ℕ × ℕ} (known : find_range env w ≡ some r) where
    pub rule_broken : {n : ℕ} → refuse n at ≡ range_rule w u r at → judged_range env w u at ≡ refuse n at
    rule_broken q = rw (known, sym q) refl

    pub rules_kept : ok tt ≡ range_rule w u r at → judged_range env w u at ≡ ok r
    rules_kept q = rw (known, sym q) refl

  -- a refusal stops the desugaring; else what is left is the draw
  pub range_stops : (k : Meter) {n p : ℕ} → judged_range env w u at ≡ refuse n p → desugar env (Ranged w u) at k ≡ refuse n p
  range_stops k {n} {p} e = go (find_range env w) e
    where
      after : (r : ℕ × ℕ) (x : Answer (Unit {0})) → and_then x (λ _. ok r) ≡ refuse n p → (lift x >>= λ _. use_drawn u r at) k ≡ refuse n p
      after r (ok t) h = let z : ◌≡◌ {A = ℕ} 0 1 = ap is_refusal h in absurd (omega arith)
      after r (refuse m q) h = let a : m ≡ n = cc in let b : q ≡ p = cc in λ i. refuse (a i) (b i)

      go : (o : Option (ℕ × ℕ)) → and_then (known_range o at) (λ r. and_then (range_rule w u r at) (λ _. ok r)) ≡ refuse n p
          → (lift (known_range o at) >>= λ r. lift (range_rule w u r at) >>= λ _. use_drawn u r at) k ≡ refuse n p
      go (some r) h = after r (range_rule w u r at) h
      go none h = let a : ◌≡◌ {A = ℕ} 11 n = cc in let b : at ≡ p = cc in λ i. refuse (a i) (b i)

  pub range_drawn : (k : Meter) {r : ℕ × ℕ} → judged_range env w u at ≡ ok r → (range_rule w u r at ≡ ok tt) × (desugar env (Ranged w u) at k ≡ use_drawn u r at k)
  range_drawn k {r} e = go (find_range env w) e
    where
      after : (p : ℕ × ℕ) (x : Answer (Unit {0})) → range_rule w u p at ≡ x → and_then x (λ _. ok p) ≡ ok r
          → (range_rule w u r at ≡ ok tt) × ((lift x >>= λ _. use_drawn u p at) k ≡ use_drawn u r at k)
      after p (ok t) f h =
          let same : p ≡ r = ap range_in h in
          (ap (λ (z : ℕ × ℕ). range_rule w u z at) (sym same) ∙ f, ap (λ (z : ℕ × ℕ). use_drawn u z at k) same)
      after p (refuse m q) f h = let z : ◌≡◌ {A = ℕ} 1 0 = ap is_refusal h in absurd (omega arith)

      go : (o : Option (ℕ × ℕ)) → and_then (known_range o at) (λ r. and_then (range_rule w u r at) (λ _. ok r)) ≡ ok r
          → (range_rule w u r at ≡ ok tt) × ((lift (known_range o at) >>= λ r. lift (range_rule w u r at) >>= λ _. use_drawn u r at) k ≡ use_drawn u r at k)
      go (some p) h = after p (range_rule w u p at) refl h
      go none h = let z : ◌≡◌ {A = ℕ} 1 0 = ap is_refusal h in absurd (omega arith)

-- ## A record's literals

pub whole : (s : List ℕ) (at bits : ℕ) → at + bytes_for bits ≤ length s → length (take bits (unpack (part at s))) ≡ bits
whole s at bits h =
    length-take-le bits (unpack (part at s)) (omega (arith, length_unpack (part at s), ap length (part_is at s), length-drop at s))

-- a literal's rule looks at no more of the range than whether it is written out
literal_direct : (w w' : Where) (a : Bits) (n at : ℕ) → is_direct w ≡ is_direct w' → literal_rule w a n at ≡ literal_rule w' a n at
literal_direct (Direct s e) (Direct s' e') a n at d = refl
literal_direct (Direct s e) (Alias x) a n at d = absurd (true≢false d)
literal_direct (Alias x) (Direct s e) a n at d = absurd (false≢true d)
literal_direct (Alias x) (Alias y) a n at d = refl

use_direct : (w w' : Where) (u : Use) (n at : ℕ) → is_direct w ≡ is_direct w' → use_rule w u n at ≡ use_rule w' u n at
use_direct w w' (Assigns a) n at d = literal_direct w w' a n at d
use_direct w w' (Tests a) n at d = literal_direct w w' a n at d
use_direct w w' (Matches m) n at d = refl

direct_is : (h : Record) → is_direct (where_of h) ≡ (leb 23 h.kind && leb h.kind 25)
direct_is h = go (leb 23 h.kind && leb h.kind 25)
  where
    go : (b : Bool) → is_direct (cond b (Direct h.start h.end) (Alias h.name)) ≡ b
    go true = refl
    go false = refl

pub rule_same : (h g : Record) → h.kind ≡ g.kind → use_of h ≡ use_of g → (r : ℕ × ℕ) (at : ℕ)
    → range_rule (where_of h) (use_of h) r at ≡ range_rule (where_of g) (use_of g) r at
rule_same h g k e r at =
    ap (λ (u : Use). range_rule (where_of h) u r at) e
    ∙ ap (λ x. and_then (need (leb r.0 r.1) 14 at) λ _. x)
    (use_direct (where_of h) (where_of g) (use_of g) (r.1 - r.0) at (direct_is h ∙ ap (λ n. leb 23 n && leb n 25) k ∙ sym (direct_is g)))

-- a use whose literals are parts of the bytes s
pub use_found : (s : List ℕ) (h : Head) (u : read.Use) → u.kind ≡ h.kind → u.pattern ≡ h.pattern → u.number ≡ h.number
    → u.a.len ≡ h.a.bits → u.a.bytes.now ≡ part h.a.at s → u.b.len ≡ h.b.bits → u.b.bytes.now ≡ part h.b.at s → UseIn s h u
use_found s h u k p n al ab bl bb =
    let first : literal_bits u.a ≡ (record_of s h).lit_a = λ j. take (al j) (unpack ((ab ∙ part_is h.a.at s) j)) in
    let second : literal_bits u.b ≡ (record_of s h).lit_b = λ j. take (bl j) (unpack ((bb ∙ part_is h.b.at s) j)) in
    let same : use_of (record_in u) ≡ use_of (record_of s h) =
    λ j. use_of (record {
      kind = kind_number (k j);
      name = 0;
      start = 0;
      end = 0;
      pattern = pattern_number (p j);
      number = n j;
      lit_a = first j;
      lit_b = second j;
    }) in
    record {
      same = same;
      rule = rule_same (record_in u) (record_of s h) (ap kind_number k) same;
    }
