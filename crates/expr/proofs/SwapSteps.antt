-- The walk over one term: its own record, and what comes of its children.
use mathlib.Core.Path.{◌≡◌, sym, ap, ◌∙◌}
use mathlib.Core.Bool.{Bool, true, false, not, ◌&&◌}
use mathlib.Core.List.{List, ◌++◌}
use Prim.Native.Nat.{ℕ, ◌+◌, ◌-◌, ◌^◌, ◌≤◌, ◌<◌}
use native.Mathlib.Omega.{arith}
use lib.ListN.{length, take, length-append}
use Rattle.std.specs.Prelude.{Ok}
use Rattle.expr.specs.Kinds.{kind_number}
use Rattle.literals.proofs.Logic.{and_left}
use Rattle.expr.specs.Terms.{Expr, records, depth}
use Rattle.expr.specs.Records.{write_record}
use Rattle.expr.specs.Form.{encode}
use Rattle.expr.specs.Results.{arity_of}
use Rattle.expr.specs.Replaced.{named, swap, swap_all, pasted, Stands, Ready, Done, ReadyAll, DoneAll}
use Rattle.expr.specs.declared.records.Head.{Head}
use Rattle.expr.specs.declared.replace.Job.{Job}
use Rattle.expr.specs.declared.replace.Walked.{Walked}
use Rattle.expr.specs.declared.replace.Spot.{Spot}
use Rattle.expr.specs.declared.replace.Children.{Children}
use Rattle.expr.proofs.TermShape.{kids, encode_all, records_all, depth_all, encode_is, records_is, depth_is, fits_is}
use Rattle.expr.proofs.Arities.{arity_small}
use Rattle.expr.specs.Results.{RecordFound}
use Rattle.expr.proofs.HeadOf.{Headed, headed}
use Rattle.expr.proofs.Replacing.{of_name, free_var, free_first, free_others, Kept, swap_keeps, swap_var, kids_count, length_is}
use Rattle.expr.proofs.Copied.{pasted_more}

module _ {s : List ℕ} {spot : Spot} {j : Job} {out : List ℕ} (q : Ready s spot j out) where
  abbrev e : Expr
  e = q.term

  abbrev e' : Expr
  e' = swap j.name q.by spot.live q.term

  pub some_left : 1 ≤ spot.left
  some_left = omega (arith, depth_is e, q.deep)

  -- the record that was read is the term's first
  pub front_head : {h : Head} → RecordFound s (Ok h) → Headed s e q.more h
  front_head f = headed e q.more q.bytes q.fits f

  module _ {h : Head} (k : Headed s e q.more h) where
    -- what is asked of the record that was read holds of the term's own
    pub of_name_fact : (of : ℕ) {b : Bool} → b ≡ named (kind_number h.kind) h.name of j.name → b ≡ of_name e of j.name
    of_name_fact of p = p ∙ (λ i. named (k.kind i) (k.name i) of j.name)

    pub is_var : {v b r : Bool} → v ≡ named (kind_number h.kind) h.name 20 j.name → b ≡ (spot.live && v) → b ≡ r → free_var spot.live j.name e ≡ r
    is_var p o t = ap (λ v. spot.live && v) (sym (of_name_fact 20 p)) ∙ sym o ∙ t

    pub is_first : {v b : Bool} → v ≡ named (kind_number h.kind) h.name 19 j.name → b ≡ (spot.live && not v) → b ≡ free_first spot.live j.name e
    is_first p o = o ∙ ap (λ v. spot.live && not v) (of_name_fact 19 p)

    pub is_others : {v b : Bool} → v ≡ named (kind_number h.kind) h.name 18 j.name → b ≡ (spot.live && not v) → b ≡ free_others spot.live j.name e
    is_others p o = o ∙ ap (λ v. spot.live && not v) (of_name_fact 18 p)

    -- ## The variable

    module _ (hit : free_var spot.live j.name e ≡ true) where
      stands : Stands j q.by
      stands = q.stands (and_left spot.live (of_name e 20 j.name) hit)

      is_by : e' ≡ q.by
      is_by = (swap_var j.name q.by spot.live e hit).0

      by_long : length j.by.now ≡ length (encode e')
      by_long = ap length (stands.bytes_are ∙ ap encode (sym is_by))

      pub var_room : j.write ≡ true → spot.to + length j.by.now ≤ length out
      var_room t = omega (arith, q.room t, by_long)

      pub var_small : spot.to + length j.by.now < 2 ^ 40
      var_small = omega (arith, q.small, by_long)

      pub var_done : {out' : List ℕ} → out' ≡ pasted j.write spot.to j.by.now out
          → Done e e' j out out' spot.to (record { used = h.size; to = spot.to + length j.by.now; records = j.records; depth = j.depth })
      var_done p =
          record {
            used = omega (arith, k.size, length_is e, ap (λ es. length (encode_all es)) (swap_var j.name q.by spot.live e hit).1);
            next = ap (λ n. spot.to + n) by_long;
            count = stands.count ∙ ap records (sym is_by);
            deep = stands.deep ∙ ap depth (sym is_by);
            wrote = p ∙ ap (λ (v : List ℕ). pasted j.write spot.to v out) (stands.bytes_are ∙ ap encode (sym is_by));
          }

    -- ## Another term

    module _ (miss : free_var spot.live j.name e ≡ false) where
      keeps : Kept j.name q.by spot.live e
      keeps = swap_keeps j.name q.by spot.live e miss

      bytes_are : encode e' ≡ take h.size s ++ encode_all (kids e')
      bytes_are = encode_is e' ∙ ap (λ r. write_record r ++ encode_all (kids e')) keeps.own_is ∙ ap (λ (v : List ℕ). v ++ encode_all (kids e')) (sym k.front)

      pub own_long : length (take h.size s) ≡ h.size
      own_long = ap length k.front ∙ sym k.size

      long : length (encode e') ≡ h.size + length (encode_all (kids e'))
      long = ap length bytes_are ∙ length-append (take h.size s) (encode_all (kids e')) ∙ ap (λ n. n + length (encode_all (kids e'))) own_long

      pub own_room : j.write ≡ true → spot.to + length (take h.size s) ≤ length out
      own_room t = omega (arith, q.room t, long, own_long)

      pub own_small : spot.to + h.size < 2 ^ 40
      own_small = omega (arith, q.small, long)

      module _ {first others : Bool} (f : first ≡ free_first spot.live j.name e) (o : others ≡ free_others spot.live j.name e) where
        kids_are : kids e' ≡ swap_all j.name q.by first others (kids e)
        kids_are = keeps.kids_are ∙ (λ i. swap_all j.name q.by (sym f i) (sym o i) (kids e))

        kids_long : length (encode_all (kids e')) ≡ length (encode_all (swap_all j.name q.by first others (kids e)))
        kids_long = ap (λ es. length (encode_all es)) kids_are

        abbrev pub own_done : Walked
        own_done = record { used = h.size; to = spot.to + h.size; records = 1; depth = 1 }

        abbrev children : ℕ → Children
        children n = record { count = n; left = spot.left - 1; first = first; others = others }

        pub all_ready : {out₁ : List ℕ} {n : ℕ} → length out₁ ≡ length out → n ≡ arity_of (kind_number h.kind) → ReadyAll s own_done (children n) j out₁
        all_ready {out₁} {n} same count =
            record {
              terms = kids e;
              by = q.by;
              more = q.more;
              many = count ∙ ap arity_of k.kind ∙ kids_count e;
              few = arity_small (kind_number h.kind) n count;
              start = k.inside;
              bytes = k.behind;
              fits = ((fits_is e).0 q.fits).1;
              deep = omega (arith, depth_is e, q.deep);
              stands₁ = λ t. q.stands (and_left spot.live (not (of_name e 19 j.name)) (sym f ∙ t));
              stands₂ = λ t. q.stands (and_left spot.live (not (of_name e 18 j.name)) (sym o ∙ t));
              count = omega (arith, k.size);
              high = omega arith;
              level = omega (arith, k.size);
              small = omega (arith, q.small, long, kids_long);
              room = λ t. omega (arith, q.room t, long, kids_long);
            }

        -- what comes of the children is what comes of the term
        module _ {out₁ out₂ : List ℕ} {r : Walked} {n : ℕ} (p : out₁ ≡ pasted j.write spot.to (take h.size s) out) (same : length out₁ ≡ length out)
            (count : n ≡ arity_of (kind_number h.kind))
            (done : (a : ReadyAll s own_done (children n) j out₁)
            → DoneAll a.terms (swap_all j.name a.by first others a.terms) j out₁ out₂ own_done r) where
          kids_done : DoneAll (kids e) (swap_all j.name q.by first others (kids e)) j out₁ out₂ own_done r
          unfolding all_ready
          kids_done = done (all_ready same count)

          pub all_done : Done e e' j out out₂ spot.to r
          all_done =
              let d = kids_done in
              record {
                used = omega (arith, d.used, length_is e, k.size);
                next = omega (arith, d.next, long, kids_long);
                count = omega (arith, d.count, records_is e', ap records_all kids_are);
                deep = omega (arith, d.deep, depth_is e', ap depth_all kids_are);
                wrote =
                    d.wrote ∙ (λ i. pasted j.write (spot.to + sym own_long i) (encode_all (sym kids_are i)) (p i))
                    ∙ pasted_more j.write spot.to (take h.size s) (encode_all (kids e')) out (λ t. omega (arith, q.room t, long, own_long))
                    ∙ ap (λ (v : List ℕ). pasted j.write spot.to v out) (sym bytes_are);
              }
