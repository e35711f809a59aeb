-- Laws of the binding set in work memory: what is kept, a frame more, and the search for a frame.
use mathlib.Core.Path.{◌≡◌, refl, sym, ap, subst, ◌∙◌}
use mathlib.Core.Bool.{Bool, true, false, cond, ◌&&◌, false≢true, true≢false}
use mathlib.Core.Option.{Option, none, some}
use mathlib.Core.List.{List, [], ◌∷◌}
use mathlib.Core.HLevel.{×₃_prop}
use mathlib.Core.Logic.{∥∥₁_elim, ∥∥₁_map}
use native.Mathlib.Bridge.{le_prop}
use Rattle.std.specs.Prelude as std
use Prim.Native.Nat.{ℕ, ◌+◌, ◌-◌, ◌*◌, ◌≤◌, ◌<◌}
use native.Mathlib.Omega.{arith}
use lib.Dec.{eqb}
use lib.ListN.{length, get_or}
use lib.Seq.{sets}
use borrow.Author.Tests.{eq-eqb, eqb-true}
use Rattle.literals.proofs.Logic.{and_left, and_right}
use Rattle.expr.specs.Terms.{Core}
use Rattle.desugar.specs.Bindings.{Env, variable, range, lookup_variable, lookup_alias}
use Rattle.desugar.specs.Memory.{Kept, Lies}
use Rattle.desugar.specs.BindingWords.{AnyBound, Frame, FrameRoom, VariableFrame, Bound, frame_number, VariableEnd, AliasEnd, Ends, VariableFound, fields_pair}
use Rattle.desugar.specs.declared.bindings.FrameKind.{FrameKind}
use Rattle.desugar.specs.declared.bindings.FrameKind.TheVariants.{Variable, Alias}
use Rattle.desugar.specs.declared.memory.Region.{Region}
use Rattle.desugar.proofs.Regions.{same_at, left, moved, stored, kept_sets, kept_holds, length_words}

-- ## What is kept below an index

pub lies_kept : {n : ℕ} {xs ys : List ℕ} {at count : ℕ} {c : Core} → Kept n xs ys → at + 3 * count ≤ n → Lies xs at count c → Lies ys at count c
lies_kept {c = c} k h l = record { holds = kept_holds k (omega (arith, length_words c, l.count)) l.holds; count = l.count }

pub frame_kept : {n : ℕ} {xs ys : List ℕ} {last : ℕ} {kind : FrameKind} {x a b : ℕ} → Kept n xs ys → last ≤ n → Frame xs last kind x a b → Frame ys last kind x a b
frame_kept {last = last} k h f = record {
  deep = f.deep;
  inside = omega (arith, f.inside, k.long);
  holds = kept_holds k (omega (arith, f.deep)) f.holds;
  falls = omega (arith, f.falls, k.each (last - 1) (omega (arith, f.deep)));
}

pub variable_kept : {n : ℕ} {xs ys : List ℕ} {last x : ℕ} {c : Core} → Kept n xs ys → last ≤ n → VariableFrame xs last x c → VariableFrame ys last x c
variable_kept k h v = record {
  at = v.at;
  count = v.count;
  frame = frame_kept k h v.frame;
  lies = lies_kept k (omega (arith, v.below)) v.lies;
  below = v.below;
}

pub bound_kept : {n : ℕ} {xs ys : List ℕ} (env : Env Core) {last : ℕ} → Kept n xs ys → last ≤ n → Bound xs last env → Bound ys last env
bound_kept [] k h b = b
bound_kept {xs = xs} {ys = ys} (variable x c ∷ env) {last} k h b = (
  variable_kept k h b.0,
  subst (λ m. Bound ys m env) (sym (k.each (last - 1) (omega (arith, b.0.frame.deep)))) (bound_kept env k (omega (arith, b.0.frame.falls)) b.1),
)
bound_kept {xs = xs} {ys = ys} (range x s e ∷ env) {last} k h b = (
  frame_kept k h b.0,
  subst (λ m. Bound ys m env) (sym (k.each (last - 1) (omega (arith, b.0.deep)))) (bound_kept env k (omega (arith, b.0.falls)) b.1),
)

-- ## A frame more

module _ (xs : List ℕ) (top : ℕ) (kind : FrameKind) (x a b last : ℕ) (fits : top + 5 ≤ length xs) (above : last ≤ top) where
  abbrev frame : List ℕ
  frame = frame_number kind ∷ x ∷ a ∷ b ∷ last ∷ []

  abbrev pub pushed : List ℕ
  pushed = sets xs top frame

  pub pushed_kept : Kept top xs pushed
  pushed_kept = kept_sets top xs top frame (omega arith)

  pub pushed_last : get_or pushed (top + 5 - 1) 0 ≡ last
  pushed_last = same_at pushed (omega arith) ∙ (stored xs top frame fits).each 4 (omega arith)

  pub pushed_frame : Frame pushed (top + 5) kind x a b
  pushed_frame = record {
    deep = omega arith;
    inside = omega (arith, pushed_kept.long);
    holds = moved (left (frame_number kind ∷ x ∷ a ∷ b ∷ []) (last ∷ []) (stored xs top frame fits)) (omega arith) refl;
    falls = omega (arith, pushed_last);
  }

  -- the bindings that were there
  pub pushed_bound : (env : Env Core) → Bound xs last env → Bound pushed (get_or pushed (top + 5 - 1) 0) env
  pushed_bound env h = subst (λ m. Bound pushed m env) (sym pushed_last) (bound_kept env pushed_kept above h)

-- the same, of memory that is known to be so
module _ (xs ys : List ℕ) (last top r : ℕ) (kind : FrameKind) (x a b : ℕ) (p : FrameRoom xs last top) (e : r ≡ top + 5) (f : ys ≡ sets xs top (frame_number kind ∷ x ∷ a ∷ b ∷ last ∷ [])) where
  abbrev after : List ℕ
  after = pushed xs top kind x a b last p.room p.above

  pub framed_kept : Kept top xs ys
  framed_kept = subst (λ m. Kept top xs m) (sym f) (pushed_kept xs top kind x a b last p.room p.above)

  pub framed : Frame ys r kind x a b
  framed =
      subst (λ m. Frame m r kind x a b) (sym f) (subst (λ l. Frame after l kind x a b) (sym e) (pushed_frame xs top kind x a b last p.room p.above))

  pub framed_bound : (env : Env Core) → Bound xs last env → Bound ys (get_or ys (r - 1) 0) env
  framed_bound env h =
      subst (λ m. Bound m (get_or m (r - 1) 0) env) (sym f)
      (subst (λ l. Bound after (get_or after (l - 1) 0) env) (sym e) (pushed_bound xs top kind x a b last p.room p.above env h))

-- ## The search

-- a frame ends at an index above 0
frame_there : (xs : List ℕ) (last : ℕ) (env : Env Core) → Bound xs last env → 0 < last → (5 ≤ last) × (last ≤ length xs) × (get_or xs (last - 1) 0 + 5 ≤ last)
frame_there xs last [] b h = absurd (omega (arith, b))
frame_there xs last (variable x c ∷ env) b h = (b.0.frame.deep, b.0.frame.inside, b.0.frame.falls)
frame_there xs last (range x s e ∷ env) b h = (b.0.deep, b.0.inside, b.0.falls)

-- the same, where there are any bindings
pub any_frame : {xs : List ℕ} {last : ℕ} → ∥ AnyBound xs last ∥₁ → 0 < last → (5 ≤ last) × (last ≤ length xs) × (get_or xs (last - 1) 0 + 5 ≤ last)
any_frame {xs} {last} b h = ∥∥₁_elim b (×₃_prop le_prop le_prop le_prop) (λ a. frame_there xs last a.env a.bound h)

any_outer : (xs : List ℕ) (last : ℕ) (env : Env Core) → Bound xs last env → 0 < last → AnyBound xs (get_or xs (last - 1) 0)
any_outer xs last [] b h = absurd (omega (arith, b))
any_outer xs last (variable x c ∷ env) b h = record { env = env; bound = b.1 }
any_outer xs last (range x s e ∷ env) b h = record { env = env; bound = b.1 }

-- the bindings around a frame
pub outer_bound : {xs : List ℕ} {last : ℕ} → ∥ AnyBound xs last ∥₁ → 0 < last → ∥ AnyBound xs (get_or xs (last - 1) 0) ∥₁
outer_bound {xs} {last} b h = ∥∥₁_map b (λ a. any_outer xs last a.env a.bound h)

-- a frame's kind and name
frame_kind : {xs : List ℕ} {last : ℕ} {kind : FrameKind} {x a b : ℕ} → Frame xs last kind x a b → get_or xs (last - 5) 0 ≡ frame_number kind
frame_kind {xs} f = same_at xs (omega arith) ∙ f.holds.each 0 (omega arith)

frame_name : {xs : List ℕ} {last : ℕ} {kind : FrameKind} {x a b : ℕ} → Frame xs last kind x a b → get_or xs (last - 4) 0 ≡ x
frame_name {xs} f = same_at xs (omega (arith, f.deep)) ∙ f.holds.each 1 (omega arith)

pub frame_first : {xs : List ℕ} {last : ℕ} {kind : FrameKind} {x a b : ℕ} → Frame xs last kind x a b → get_or xs (last - 3) 0 ≡ a
frame_first {xs} f = same_at xs (omega (arith, f.deep)) ∙ f.holds.each 2 (omega arith)

pub frame_second : {xs : List ℕ} {last : ℕ} {kind : FrameKind} {x a b : ℕ} → Frame xs last kind x a b → get_or xs (last - 2) 0 ≡ b
frame_second {xs} f = same_at xs (omega (arith, f.deep)) ∙ f.holds.each 3 (omega arith)

-- what is found in some inner bindings that are left is what is found in all
pub record Passed (xs : List ℕ) (kind : FrameKind) (x : ℕ) (all : Env Core) (last : ℕ) : Type 0 where
  pub env : Env Core
  pub bound : Bound xs last env
  pub gives : (r : std.Option ℕ) → Ends xs kind x env r → Ends xs kind x all r

pub passed_none : {xs : List ℕ} {kind : FrameKind} {x last : ℕ} (env : Env Core) → Bound xs last env → Passed xs kind x env last
passed_none env b = record { env = env; bound = b; gives = λ r e. e }

pub ends_none : (xs : List ℕ) (kind : FrameKind) (x : ℕ) {last : ℕ} (env : Env Core) → last ≡ 0 → Bound xs last env → Ends xs kind x env std.None
ends_none xs Variable x [] z b = refl
ends_none xs Alias x [] z b = refl
ends_none xs kind x (variable y c ∷ env) z b = absurd (omega (arith, z, b.0.frame.deep))
ends_none xs kind x (range y s e ∷ env) z b = absurd (omega (arith, z, b.0.deep))

-- a frame whose kind and name were read
module _ (xs : List ℕ) (x last : ℕ) (h : 0 < last) {k : FrameKind} {n : ℕ}
    (kinds : (kind : FrameKind) → get_or xs (last - 5) 0 ≡ frame_number kind → k ≡ kind) (name : n ≡ get_or xs (last - 4) 0) where
  -- whether it is of a kind, and of the name
  abbrev of_kind : FrameKind → Bool
  of_kind kind = eqb (frame_number k) (frame_number kind)

  abbrev of_name : Bool
  of_name = eqb n x

  abbrev pub here : FrameKind → Bool
  here kind = of_kind kind && of_name

  module _ {of : FrameKind} {y a b : ℕ} (f : Frame xs last of y a b) where
    read_kind : frame_number k ≡ frame_number of
    read_kind = ap frame_number (kinds of (frame_kind f))

    read_name : n ≡ y
    read_name = name ∙ frame_name f

    here_kind : (kind : FrameKind) → here kind ≡ true → frame_number of ≡ frame_number kind
    here_kind kind t = sym read_kind ∙ eqb-true (frame_number k) (frame_number kind) (and_left (of_kind kind) of_name t)

    here_name : (kind : FrameKind) → here kind ≡ true → y ≡ x
    here_name kind t = sym read_name ∙ eqb-true n x (and_right (of_kind kind) of_name t)

    -- a frame of the kind that is another's: its name differs
    other_name : here of ≡ false → eqb x y ≡ false
    other_name t =
        differs (eqb x y) refl
      where
        differs : (d : Bool) → eqb x y ≡ d → d ≡ false
        differs false e = refl
        differs true e =
            absurd
            (false≢true
            (sym t ∙ ap (λ d. d && of_name) (eq-eqb (frame_number k) (frame_number of) read_kind) ∙ eq-eqb n x (read_name ∙ sym (eqb-true x y e))))

  -- the frame that is looked for
  pub ends_here : (kind : FrameKind) (env : Env Core) → Bound xs last env → here kind ≡ true → Ends xs kind x env (std.Some last)
  ends_here kind [] b t = absurd (omega (arith, b))
  ends_here Variable (variable y c ∷ env) b t =
      let e : y ≡ x = here_name b.0.frame Variable t in
      subst (λ f. VariableEnd xs x (cond f (some c) (lookup_variable env x)) (std.Some last)) (sym (eq-eqb x y (sym e))) (subst (λ z. VariableFrame xs last z c) e b.0)
  ends_here Alias (variable y c ∷ env) b t =
      let e : ◌≡◌ {A = ℕ} 0 1 = here_kind b.0.frame Alias t in
      absurd (omega (arith, e))
  ends_here Variable (range y s e ∷ env) b t =
      let e : ◌≡◌ {A = ℕ} 1 0 = here_kind b.0 Variable t in
      absurd (omega (arith, e))
  ends_here Alias (range y s e ∷ env) b t =
      let same : y ≡ x = here_name b.0 Alias t in
      subst (λ f. AliasEnd xs x (cond f (some (s, e)) (lookup_alias env x)) (std.Some last)) (sym (eq-eqb x y (sym same))) (subst (λ z. Frame xs last Alias z s e) same b.0)

  passed_more : (kind : FrameKind) (env : Env Core) → Bound xs last env → here kind ≡ false → Passed xs kind x env (get_or xs (last - 1) 0)
  passed_more kind [] b f = absurd (omega (arith, b))
  passed_more Variable (variable y c ∷ env) b f = record {
    env = env;
    bound = b.1;
    gives = λ r e. subst (λ d. VariableEnd xs x (cond d (some c) (lookup_variable env x)) r) (sym (other_name b.0.frame f)) e;
  }
  passed_more Alias (variable y c ∷ env) b f = record { env = env; bound = b.1; gives = λ r e. e }
  passed_more Variable (range y s t ∷ env) b f = record { env = env; bound = b.1; gives = λ r e. e }
  passed_more Alias (range y s t ∷ env) b f = record {
    env = env;
    bound = b.1;
    gives = λ r e. subst (λ d. AliasEnd xs x (cond d (some (s, t)) (lookup_alias env x)) r) (sym (other_name b.0 f)) e;
  }

  pub passed_then : {kind : FrameKind} {all : Env Core} → Passed xs kind x all last → here kind ≡ false → Passed xs kind x all (get_or xs (last - 1) 0)
  passed_then {kind} p f =
      let q = passed_more kind p.env p.bound f in
      record { env = q.env; bound = q.bound; gives = λ r e. p.gives r (q.gives r e) }

-- ## The same bindings in memory that is known to be so

pub bound_same : {xs ys : List ℕ} {last inner : ℕ} (env : Env Core) → ys ≡ xs → inner ≡ last → Bound xs last env → Bound ys inner env
bound_same {xs} {ys} {last} {inner} env e f b = subst (λ l. Bound l inner env) (sym e) (subst (λ n. Bound xs n env) (sym f) b)

pub found_same : {xs ys : List ℕ} {last inner : ℕ} (o : Option Core) (r : std.Option Region) → ys ≡ xs → inner ≡ last
    → VariableFound ys inner o r → VariableFound xs last o r
found_same {xs} {ys} {last} {inner} o r e f v = subst (λ l. VariableFound l last o r) e (subst (λ n. VariableFound ys n o r) f v)

-- ## What is read of a frame that was found

pub some_none : {n : ℕ} → std.Some n ≡ std.None → ⊥
some_none e = true≢false (ap is_there e)
  where
    is_there : std.Option ℕ → Bool
    is_there (std.Some n) = true
    is_there std.None = false

module _ (xs : List ℕ) (x last : ℕ) (o : Option Core) (e : VariableEnd xs x o (std.Some last)) where
  pub variable_found : (top : ℕ) → last ≤ top → (at count : ℕ) → at ≡ get_or xs (last - 3) 0 → count ≡ get_or xs (last - 2) 0
      → VariableFound xs top o (std.Some (record { at = at; count = count }))
  variable_found top h at count p q = go o e
    where
      go : (o : Option Core) → VariableEnd xs x o (std.Some last) → VariableFound xs top o (std.Some (record { at = at; count = count }))
      go none e = absurd (some_none e)
      go (some c) e =
          let first : e.at ≡ at = sym (p ∙ frame_first e.frame) in
          let second : e.count ≡ count = sym (q ∙ frame_second e.frame) in
          record { lies = subst (λ n. Lies xs at n c) second (subst (λ m. Lies xs m e.count c) first e.lies); below = omega (arith, e.below, h) }

module _ (xs : List ℕ) (x last : ℕ) (o : Option (ℕ × ℕ)) (e : AliasEnd xs x o (std.Some last)) where
  pub alias_found : fields_pair (std.Some (record { start = get_or xs (last - 3) 0; end = get_or xs (last - 2) 0 })) ≡ o
  alias_found = go o e
    where
      go : (o : Option (ℕ × ℕ)) → AliasEnd xs x o (std.Some last) → fields_pair (std.Some (record { start = get_or xs (last - 3) 0; end = get_or xs (last - 2) 0 })) ≡ o
      go none e = absurd (some_none e)
      go (some p) e = λ i. some (frame_first e i, frame_second e i)

pub variable_unbound : (xs : List ℕ) (x last : ℕ) (o : Option Core) → VariableEnd xs x o std.None → VariableFound xs last o std.None
variable_unbound xs x last none e = refl
variable_unbound xs x last (some c) e = absurd e

pub alias_unbound : (xs : List ℕ) (x : ℕ) (o : Option (ℕ × ℕ)) → AliasEnd xs x o std.None → none ≡ o
alias_unbound xs x none e = refl
alias_unbound xs x (some p) e = absurd e
