-- Literals of every length within the limit are accepted over their own fields; range patterns keep a limit of their own.
use mathlib.Core.Path.{◌≡◌, refl, sym, ◌∙◌}
use mathlib.Core.List.{[]}
use Prim.Native.Nat.{ℕ, ◌+◌, ◌-◌, ◌^◌, ◌≤◌, ◌<◌}
use native.Mathlib.Omega.{arith}
use borrow.Author.Tests.{le-leb}
use lib.ListN.{length}
use Rattle.literals.specs.Bits.{Bits}
use Rattle.literals.specs.Patterns.{IpRange}
use Rattle.literals.proofs.Logic.{eqb_is}
use Rattle.expr.specs.Answers.{and_then, ok}
use Rattle.expr.specs.Form.{Fits, RecordFits, decode, encode, name_record, ranged_record}
use Rattle.expr.specs.Terms.{Alias, Direct, Expr, LetBitRange, Matches, Name, Ranged, Use, Where}
use Rattle.expr.proofs.FormTheorem.{decode_encode}
use Rattle.desugar.specs.Rules.{pattern_rule, range_rule}
use Rattle.desugar.proofs.Decides.{UseSuits, decided, decides_ok, pattern_decides, range_decides}
use Rattle.desugar.proofs.RuleLaws.{values_wide}
use Rattle.netkat.specs.Check.{first_failure}
use Rattle.netkat.specs.Claims.{Accepted, RangeLimit, TakesWhole, assign, cidr, exact, test, wildcard}
use Rattle.netkat.specs.Points.{walk}
use Rattle.netkat.proofs.Rules.{behind_rule, none_fails}

-- a range or an alias whose numbers their bytes can hold
abbrev WhereFits : Where → Type 0
WhereFits (Direct s e) = (s < 2 ^ 32) × (e < 2 ^ 32)
WhereFits (Alias x) = x < 2 ^ 16

alias_fits : (x s e : ℕ) → x < 2 ^ 16 → s < 2 ^ 32 → e < 2 ^ 32 → RecordFits (name_record 19 x s e)
alias_fits x s e n k l = record { name = n; start = k; end = l; number = omega arith; lit_a = omega arith; lit_b = omega arith }

module _ (a : Bits) (short : length a ≤ 192) where
  record_fits : (kind name start end pattern number : ℕ) (b : Bits) → name < 2 ^ 16 → start < 2 ^ 32 → end < 2 ^ 32 → number ≤ length a → length b ≤ 192
      → RecordFits (record { kind = kind; name = name; start = start; end = end; pattern = pattern; number = number; lit_a = a; lit_b = b })
  record_fits kind name start end pattern number b n s e h l = record { name = n; start = s; end = e; number = omega arith; lit_a = short; lit_b = l }

  fits : (w : Where) → WhereFits w → (u : Use) → TakesWhole a u → RecordFits (ranged_record w u)
  fits (Direct s e) w _ test = record_fits 24 0 s e 0 0 [] (omega arith) w.0 w.1 (omega arith) (omega arith)
  fits (Direct s e) w _ assign = record_fits 23 0 s e 0 0 [] (omega arith) w.0 w.1 (omega arith) (omega arith)
  fits (Direct s e) w _ exact = record_fits 25 0 s e 0 0 [] (omega arith) w.0 w.1 (omega arith) (omega arith)
  fits (Direct s e) w _ (cidr k h) = record_fits 25 0 s e 1 k [] (omega arith) w.0 w.1 h (omega arith)
  fits (Direct s e) w _ (wildcard m h) = record_fits 25 0 s e 2 0 m (omega arith) w.0 w.1 (omega arith) (omega arith)
  fits (Alias x) w _ test = record_fits 22 x 0 0 0 0 [] w (omega arith) (omega arith) (omega arith) (omega arith)
  fits (Alias x) w _ assign = record_fits 21 x 0 0 0 0 [] w (omega arith) (omega arith) (omega arith) (omega arith)
  fits (Alias x) w _ exact = record_fits 26 x 0 0 0 0 [] w (omega arith) (omega arith) (omega arith) (omega arith)
  fits (Alias x) w _ (cidr k h) = record_fits 26 x 0 0 1 k [] w (omega arith) (omega arith) h (omega arith)
  fits (Alias x) w _ (wildcard m h) = record_fits 26 x 0 0 2 0 m w (omega arith) (omega arith) (omega arith) (omega arith)

  suits : (w : Where) (n : ℕ) → n ≡ length a → (u : Use) → TakesWhole a u → UseSuits w u n
  suits (Direct s e) n k _ test = omega arith
  suits (Direct s e) n k _ assign = omega arith
  suits (Alias x) n k _ test = omega arith
  suits (Alias x) n k _ assign = omega arith
  suits w n k _ exact = omega arith
  suits w n k _ (cidr _ h) = (omega arith, omega arith)
  suits w n k _ (wildcard m h) = (omega arith, omega arith)

  module _ (s : ℕ) (inside : s + length a < 2 ^ 32) (u : Use) (t : TakesWhole a u) where
    kept : (w : Where) (at : ℕ) → range_rule w u (s, s + length a) at ≡ ok tt
    kept w at = decides_ok (range_decides w u (s, s + length a) at) (omega arith, suits w (s + length a - s) (omega arith) u t)

    pub accepted_direct : Accepted (Ranged (Direct s (s + length a)) u)
    accepted_direct =
        let d : Expr = Ranged (Direct s (s + length a)) u in
        record {
          form = decode_encode d (record { count = omega arith; deep = omega arith; fits = fits (Direct s (s + length a)) (omega arith, omega arith) u t });
          rules = (none_fails (walk [] d 0)).0 (rw (kept (Direct s (s + length a)) 0) refl);
        }

    pub accepted_alias : (x : Name) → x < 2 ^ 16 → Accepted (LetBitRange x s (s + length a) (Ranged (Alias x) u))
    accepted_alias x named =
        let d : Expr = LetBitRange x s (s + length a) (Ranged (Alias x) u) in
        let f : Fits d = (alias_fits x s (s + length a) named (omega arith) (omega arith), fits (Alias x) named u t) in
        record {
          form = decode_encode d (record { count = omega arith; deep = omega arith; fits = f });
          rules = (none_fails (walk [] d 0)).0 (rw ((eqb_is x x).1 refl, kept (Alias x) 1) refl);
        }

-- a term in which the range pattern from a to b on n fields is judged at a place, and no other rule
range_judged : (t : Expr) (a b : Bits) (n at : ℕ) → decode (encode t) ≡ ok t
    → first_failure (walk [] t 0) ≡ and_then (pattern_rule (IpRange a b) n at) (λ _. ok tt) → RangeLimit t a b n at
range_judged t a b n at formed judged =
    let rule = pattern_rule (IpRange a b) n at in
    let d = pattern_decides (IpRange a b) n at in (
      (
        (λ g. decided d (behind_rule rule (sym judged ∙ (none_fails (walk [] t 0)).1 g.rules)).0),
        (λ h. record { form = formed; rules = (none_fails (walk [] t 0)).0 (judged ∙ rw (decides_ok d h) refl) }),
      ),
      λ wide. rw (formed, judged, sym (values_wide a b n at wide)) refl,
    )

-- the two terms that are one: the range written out, and by an alias
module _ (s e : ℕ) (a b : Bits) (order : s ≤ e) (inside : e < 2 ^ 32) (shortA : length a ≤ 192) (shortB : length b ≤ 192) where
  pub range_direct : RangeLimit (Ranged (Direct s e) (Matches (IpRange a b))) a b (e - s) 0
  range_direct =
      let t : Expr = Ranged (Direct s e) (Matches (IpRange a b)) in
      let f = record_fits a shortA 25 0 s e 3 0 b (omega arith) (omega arith) inside (omega arith) shortB in
      range_judged t a b (e - s) 0 (decode_encode t (record { count = omega arith; deep = omega arith; fits = f })) (rw (le-leb s e order) refl)

  pub range_alias : (x : Name) → x < 2 ^ 16 → RangeLimit (LetBitRange x s e (Ranged (Alias x) (Matches (IpRange a b)))) a b (e - s) 1
  range_alias x named =
      let t : Expr = LetBitRange x s e (Ranged (Alias x) (Matches (IpRange a b))) in
      let f : Fits t = (alias_fits x s e named (omega arith) inside, record_fits a shortA 26 x 0 0 3 0 b named (omega arith) (omega arith) (omega arith) shortB) in
      range_judged t a b (e - s) 1 (decode_encode t (record { count = omega arith; deep = omega arith; fits = f }))
      (rw ((eqb_is x x).1 refl, le-leb s e order) refl)
