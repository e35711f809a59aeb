-- A turn as the code makes it: d is what is dropped and k how many records are written, both found in memory.
use mathlib.Core.Path.{◌≡◌, refl, sym, ap, ◌∙◌}
use mathlib.Core.Logic.{◌≢◌}
use mathlib.Core.Bool.{false}
use mathlib.Core.List.{List, [], ◌∷◌}
use Prim.Native.Nat.{ℕ, suc, ◌+◌, ◌*◌, ◌-◌, ◌≤◌, ◌<◌}
use native.Mathlib.Omega.{arith}
use lib.Dec.{eqb}
use lib.ListN.{length, get_or, set}
use lib.Seq.{sets, get_or-set_other, set-get_or}
use borrow.Author.Tests.{ne_eqb}
use Rattle.expr.specs.Terms.{Core}
use Rattle.desugar.specs.Memory.{Kept}
use Rattle.desugar.specs.declared.test_negation.modes.Mode.{Mode}
use Rattle.desugar.specs.declared.test_negation.modes.Mode.TheVariants.{Negate, Keep, Again, Skip}
use Rattle.desugar.specs.declared.test_negation.places.Places.{Places}
use Rattle.desugar.specs.declared.test_negation.negated.Next.{Next}
use Rattle.desugar.specs.NegationRun.{core_kind, TwoNotes, code, mode_of, drop_at, count_of, new_kind, new_value, own_words, left_code, right_code, Run, Stepped}
use Rattle.desugar.proofs.Regions.{sets_below, kept_sets}
use Rattle.desugar.proofs.Emitted.{dropped, own, count_in}
use Rattle.desugar.proofs.Turns.{Now, now, Found, found, over_limit, leaf_run, deep, pushed, pushed_kept, op_run}

mode_is : (m : Mode) → mode_of (code m) ≡ m
mode_is Negate = refl
mode_is Keep = refl
mode_is Again = refl
mode_is Skip = refl

module _ {xs : List ℕ} {t : Core} {p : Places} {j : ℕ} {s : Next} (long : p.out + 3 * p.limit ≤ length xs) (l : j < p.core.count) (room : s.made ≤ p.limit) (run : Run xs t p j s) where
  abbrev r : Now xs t p j s
  r = now l run

  f : Found long l r
  f = found long l r

  pub turn_sides : get_or xs (p.core.at + 3 * j) 0 ≡ 11 → TwoNotes xs (p.notes + j)
  turn_sides e = f.sides (sym f.kind ∙ e)

  pub turn_top : s.top < length xs
  turn_top = f.top_in

  pub turn_here : p.core.at + 3 * j + 3 ≤ length xs
  turn_here = f.here_in

  pub turn_value : get_or xs (p.core.at + 3 * j + 2) 0 ≤ 1
  turn_value = f.value_small

  module _ {m : Mode} (is-m : m ≡ mode_of (get_or xs s.top 0)) {d k : ℕ} (is-d : d ≡ drop_at xs (p.notes + j) (code m) (get_or xs (p.core.at + 3 * j) 0)) (is-k : k ≡ count_of (code m) (get_or xs (p.core.at + 3 * j) 0) d) where
    m_is : code m ≡ code r.mode
    m_is = ap code (is-m ∙ ap mode_of f.mode ∙ mode_is r.mode)

    d_is : d ≡ dropped r.mode r.core
    d_is = is-d ∙ (λ i. drop_at xs (p.notes + j) (m_is i) (f.kind i)) ∙ f.drop

    k_is : k ≡ count_in r.mode r.core
    k_is = is-k ∙ (λ i. count_of (m_is i) (f.kind i) (d_is i))

    pub stop : p.limit - s.made < k → Stepped xs t p (j + 1) (record { top = s.top; made = s.made + k })
    stop h = record {
      on = λ b. absurd (omega arith);
      over = λ b. omega (arith, k_is, over_limit long l r);
    }

    -- the memory after the records are written
    abbrev pub wrote : List ℕ
    wrote = sets xs (p.out + 3 * s.made) (own_words k (code m) (get_or xs (p.core.at + 3 * j) 0) (get_or xs (p.core.at + 3 * j + 1) 0) (get_or xs (p.core.at + 3 * j + 2) 0))

    wrote_is : wrote ≡ sets xs (p.out + 3 * s.made) (own r.mode r.core)
    wrote_is = λ i. sets xs (p.out + 3 * s.made) (own_words (k_is i) (m_is i) (f.kind i) (f.field i) (f.value i))

    pub wrote_kept : Kept p.modes xs wrote
    wrote_kept = kept_sets p.modes xs (p.out + 3 * s.made) (own_words k (code m) (get_or xs (p.core.at + 3 * j) 0) (get_or xs (p.core.at + 3 * j + 1) 0) (get_or xs (p.core.at + 3 * j + 2) 0)) (omega (arith, p.out_at))

    module _ (h : k ≤ p.limit - s.made) where
      in_limit : s.made + count_in r.mode r.core ≤ p.limit
      in_limit = omega (arith, k_is)

      pub leaf_turn : get_or xs (p.core.at + 3 * j) 0 < 7 → Stepped wrote t p (j + 1) (record { top = s.top + 1; made = s.made + k })
      leaf_turn g = record {
        on = λ b. rw (wrote_is, k_is) (leaf_run long l r in_limit (omega (arith, f.kind)));
        over = λ b. absurd (omega arith);
      }

      module _ (g : 7 ≤ get_or xs (p.core.at + 3 * j) 0) where
        op : 7 ≤ core_kind r.core
        op = omega (arith, f.kind)

        pub deep_turn : p.modes < s.top
        deep_turn = deep long l r in_limit op

        abbrev pub both : List ℕ
        both = set (set wrote (s.top - 1) (left_code (code m) (get_or xs (p.core.at + 3 * j) 0) d)) s.top (right_code (code m) (get_or xs (p.core.at + 3 * j) 0) d)

        next_top : s.top ≡ suc (s.top - 1)
        next_top = omega (arith, deep_turn)

        both_is : both ≡ pushed long l r in_limit op
        both_is = λ i. set (set (wrote_is i) (s.top - 1) (left_code (m_is i) (f.kind i) (d_is i))) (next_top i) (right_code (m_is i) (f.kind i) (d_is i))

        pub both_kept : Kept p.modes xs both
        both_kept = rw both_is (pushed_kept long l r in_limit op)

        pub op_turn : Stepped both t p (j + 1) (record { top = s.top - 1; made = s.made + k })
        op_turn = record {
          on = λ b. rw (both_is, k_is) (op_run long l r in_limit op);
          over = λ b. absurd (omega arith);
        }

  -- a turn that negates a kind below 9: nothing is dropped, one record is written, and the operands' modes are Negate
  module _ {kind : ℕ} (is_kind : kind ≡ get_or xs (p.core.at + 3 * j) 0) (low : kind < 9) (negating : get_or xs s.top 0 ≡ 0) where
    no : (m : ℕ) → 9 ≤ m → eqb (get_or xs (p.core.at + 3 * j) 0) m ≡ false
    no m h = ne_eqb (get_or xs (p.core.at + 3 * j) 0) m (omega arith)

    is_negate : Negate ≡ mode_of (get_or xs s.top 0)
    is_negate = rw negating

    none_dropped : 0 ≡ drop_at xs (p.notes + j) (code Negate) (get_or xs (p.core.at + 3 * j) 0)
    none_dropped = refl

    one_made : 1 ≡ count_of (code Negate) (get_or xs (p.core.at + 3 * j) 0) 0
    one_made = rw (no 9 (omega arith))

    pub plain_stop : p.limit ≡ s.made → Stepped xs t p (j + 1) (record { top = s.top; made = s.made + 1 })
    plain_stop h = stop is_negate none_dropped one_made (omega arith)

    -- the memory after the record is written
    abbrev pub plain : List ℕ
    plain = sets xs (p.out + 3 * s.made) (new_kind 0 kind ∷ get_or xs (p.core.at + 3 * j + 1) 0 ∷ new_value 0 kind (get_or xs (p.core.at + 3 * j + 2) 0) ∷ [])

    plain_is : plain ≡ wrote is_negate none_dropped one_made
    plain_is = rw is_kind

    pub plain_kept : Kept p.modes xs plain
    plain_kept = rw plain_is (wrote_kept is_negate none_dropped one_made)

    module _ (h : p.limit ≢ s.made) where
      one_fits : 1 ≤ p.limit - s.made
      one_fits = omega arith

      pub plain_leaf : kind < 7 → Stepped plain t p (j + 1) (record { top = s.top + 1; made = s.made + 1 })
      plain_leaf g = rw plain_is (leaf_turn is_negate none_dropped one_made one_fits (omega arith))

      module _ (g : 7 ≤ kind) where
        plain_op : 7 ≤ get_or xs (p.core.at + 3 * j) 0
        plain_op = omega arith

        pub plain_deep : p.modes < s.top
        plain_deep = deep_turn is_negate none_dropped one_made one_fits plain_op

        -- the mode at top is Negate already
        top_is : get_or (set plain (s.top - 1) 0) s.top 0 ≡ 0
        top_is =
            get_or-set_other plain (s.top - 1) s.top 0 0 (omega (arith, plain_deep))
            ∙ sets_below xs (p.out + 3 * s.made) (new_kind 0 kind ∷ get_or xs (p.core.at + 3 * j + 1) 0 ∷ new_value 0 kind (get_or xs (p.core.at + 3 * j + 2) 0) ∷ []) s.top (omega (arith, r.depth, p.out_at))
            ∙ negating

        plain_both : set plain (s.top - 1) 0 ≡ both is_negate none_dropped one_made one_fits plain_op
        plain_both =
            sym (set-get_or (set plain (s.top - 1) 0) s.top 0)
            ∙ (λ i. set (set (plain_is i) (s.top - 1) (left_is i)) s.top ((top_is ∙ right_is) i))
          where
            left_is : 0 ≡ left_code (code Negate) (get_or xs (p.core.at + 3 * j) 0) 0
            left_is = rw (no 9 (omega arith))

            right_is : 0 ≡ right_code (code Negate) (get_or xs (p.core.at + 3 * j) 0) 0
            right_is = rw (no 9 (omega arith), no 10 (omega arith))

        pub plain_pushed : Kept p.modes xs (set plain (s.top - 1) 0)
        plain_pushed = rw plain_both (both_kept is_negate none_dropped one_made one_fits plain_op)

        pub plain_turned : Stepped (set plain (s.top - 1) 0) t p (j + 1) (record { top = s.top - 1; made = s.made + 1 })
        plain_turned = rw plain_both (op_turn is_negate none_dropped one_made one_fits plain_op)
