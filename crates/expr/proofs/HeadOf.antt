-- The record of a term that stands at the front of bytes: it is read.
use mathlib.Core.Path.{◌≡◌, sym, ap, ◌∙◌}
use mathlib.Core.List.{List, ◌++◌, append_assoc}
use Prim.Native.Nat.{ℕ, ◌≤◌}
use native.Mathlib.Omega.{arith}
use lib.ListN.{length, take, drop, length-append, length-drop}
use lib.Seq.{take_at}
use Rattle.std.specs.Prelude.{Ok, Err}
use Rattle.refusals.specs.declared.Refusal.{Refusal}
use Rattle.expr.specs.Kinds.{kind_number}
use Rattle.literals.specs.Reading.{got}
use Rattle.expr.specs.Terms.{Expr}
use Rattle.expr.specs.Records.{read_record, write_record}
use Rattle.expr.specs.Form.{encode, Fits}
use Rattle.expr.specs.Results.{record_of, head_answer, HeadInside, RecordFound}
use Rattle.expr.specs.declared.records.Head.{Head}
use Rattle.expr.proofs.RecordForm.{record_codec}
use Rattle.expr.proofs.TermShape.{own, kids, encode_all, encode_is, fits_is}
use Rattle.expr.proofs.NodeForm.{own_node}

-- the record of the term e was read at the front of the bytes s
pub record Headed (s : List ℕ) (e : Expr) (more : List ℕ) (h : Head) : Type 0 where
  pub kind : kind_number h.kind ≡ (own e).kind
  pub name : h.name ≡ (own e).name
  pub size : h.size ≡ length (write_record (own e))
  pub same : record_of s h ≡ own e
  pub found : HeadInside s (Ok h)
  pub inside : h.size ≤ length s
  pub front : take h.size s ≡ write_record (own e)
  pub behind : drop h.size s ≡ encode_all (kids e) ++ more

module _ {s : List ℕ} (e : Expr) (more : List ℕ) (bytes : s ≡ encode e ++ more) (fits : Fits e) where
  cut : s ≡ write_record (own e) ++ (encode_all (kids e) ++ more)
  cut = bytes ∙ ap (λ (bs : List ℕ). bs ++ more) (encode_is e) ∙ append_assoc (write_record (own e)) (encode_all (kids e)) more

  reads : read_record s ≡ got (own e) (encode_all (kids e) ++ more)
  reads = ap read_record cut ∙ record_codec.forward (own e) (encode_all (kids e) ++ more) ((own_node e).0 ((fits_is e).0 fits).0)

  pub not_refused : {r : Refusal} → RecordFound s (Err r) → ⊥
  not_refused {r} f =
      let k : head_answer s (Err r) ≡ read_record s = f.answer in
      let z : ◌≡◌ {A = ℕ} 0 1 = cc reads in
      omega arith

  pub headed : {h : Head} → RecordFound s (Ok h) → Headed s e more h
  headed {h} f =
      let k : got (record_of s h) (drop h.size s) ≡ read_record s = f.answer in
      let same : record_of s h ≡ own e = cc reads in
      let behind : drop h.size s ≡ encode_all (kids e) ++ more = cc reads in
      let found : HeadInside s (Ok h) = f.inside in
      let size : h.size ≡ length (write_record (own e)) =
      omega (arith, length-drop h.size s, ap length behind, ap length cut, length-append (write_record (own e)) (encode_all (kids e) ++ more)) in
      record {
        kind = ap (λ r. r.kind) same;
        name = ap (λ r. r.name) same;
        size = size;
        same = same;
        found = found;
        inside = found.1;
        front = ap (take h.size) cut ∙ take_at (write_record (own e)) (encode_all (kids e) ++ more) h.size (sym size);
        behind = behind;
      }
