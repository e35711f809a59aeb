-- `core_bytes::write_core` meets its contract.
use mathlib.Core.Path.{◌≡◌, refl, sym, ap, subst, ◌∙◌}
use Prim.Native.Nat.{◌+◌, ◌-◌, ◌/◌}
use native.Mathlib.Omega.{arith}
use lib.ListN.{length}
use lib.Seq.{sets}
use Rattle.expr.specs.Form.{encode_core}
use Rattle.desugar.specs.CoreBytes.{CoreShape, bytes_of_record, records_bytes}
use Rattle.desugar.proofs.RecordBytes.{records_next, records_within, records_before, slice_bytes, slice_some, slice_shape, sets_front, put_as, put_then, put_length}
use Rattle.desugar.proofs.core_bytes.write_core.Goals as goal

pub overflow_sub-last : goal.overflow_sub-last
overflow_sub-last c = omega (arith, slice_some c.requires.core c.requires.is)

pub loop-j-init : goal.loop-j-init
loop-j-init c =
    let w = c.requires in
    let all : length c.args.core.now / 3 - 1 + 1 ≡ length c.args.core.now / 3 = omega (arith, slice_some w.core w.is) in (
      all,
      omega (arith, w.room, ap length (slice_bytes w.core w.is), ap (λ m. length (records_bytes c.args.core.now 0 m)) all),
      (λ i h. slice_shape w.core w.is i (omega (arith, h, all))),
      record { written = refl; next = refl },
    )

pub write-to-requires : goal.write-to-requires
write-to-requires c =
    let a = c.args in
    let l = c.loop-j in
    let long = ap (λ r. length (bytes_of_record r)) c.at.ensures in
    record {
      value_in_bounds = omega (arith, l.invariant.1, l.invariant.3.next, put_length l.invariant.3, long, records_before a.core.now l.j ((length a.core.now / 3 - 1) + 1) (omega arith));
      core_shape = subst (λ r. CoreShape r.kind r.field r.value) (sym c.at.ensures) (l.invariant.2 l.j (omega arith));
    }

pub loop-j-preserved : goal.loop-j-preserved
loop-j-preserved c =
    let a = c.args in
    let l = c.loop-j in
    let own = put_as (ap bytes_of_record c.at.ensures) c.write-to.ensures in
    (l.invariant.0, l.invariant.1, l.invariant.2, put_as (sym (records_next a.core.now l.j)) (put_then l.invariant.3 own))

pub write_any-requires : goal.write_any-requires
write_any-requires c =
    let a = c.args in
    let l = c.loop-j in
    let all : l.j ≡ (length a.core.now / 3 - 1) = omega arith in
    let long = ap (λ r. length (bytes_of_record r)) c.at-2.ensures in
    omega (arith, l.invariant.1, l.invariant.3.next, put_length l.invariant.3, long, ap (λ m. length (records_bytes a.core.now 0 m)) all, records_within a.core.now (length a.core.now / 3 - 1) ((length a.core.now / 3 - 1) + 1) (omega arith))

pub returns : goal.returns
returns c =
    let a = c.args in
    let l = c.loop-j in
    let all : l.j ≡ (length a.core.now / 3 - 1) = omega arith in
    let own = put_as (ap bytes_of_record c.at-2.ensures) c.write_any.ensures in
    let put = put_then (put_as (ap (records_bytes a.core.now 0) all) l.invariant.3) own in
    λ core is.
    let bytes = sym (records_next a.core.now (length a.core.now / 3 - 1)) ∙ ap (records_bytes a.core.now 0) l.invariant.0 ∙ slice_bytes core is in
    record {
      bytes = put.written ∙ ap (sets a.out.now 0) bytes ∙ sets_front (encode_core core) a.out.now (omega (arith, l.invariant.1, ap length bytes, ap length (sym (records_next a.core.now (length a.core.now / 3 - 1)))));
      long = omega (arith, put.next, ap length bytes);
    }
