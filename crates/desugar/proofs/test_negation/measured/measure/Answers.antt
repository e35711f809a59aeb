-- `desugar::test_negation::measured::measure` meets its contract.
use mathlib.Core.Path.{refl, sym, ap, ◌∙◌}
use Prim.Native.Nat.{ℕ, ◌+◌, ◌-◌}
use native.Mathlib.Omega.{arith}
use lib.ListN.{get_or}
use lib.Seq.{get_or-set_same}
use Rattle.desugar.specs.NegationRun.{notes_all}
use Rattle.desugar.proofs.Notes.{back, turn_can, turn_notes, turn_kept}
use Rattle.desugar.proofs.Regions.{none, moved, kept_all}
use Rattle.desugar.proofs.Forest.{over_at}
use Rattle.desugar.proofs.test_negation.measured.measure.Goals as goal

pub loop-j-init : goal.loop-j-init
loop-j-init c = record {
  kept = kept_all _ _;
  notes = λ t h e. moved (none _ _ (omega arith)) refl (sym (ap notes_all (over_at t h c.args.p.core.count (omega arith))));
  last = λ l. absurd (omega arith);
}

pub own_note-last-requires : goal.own_note-last-requires
own_note-last-requires c =
    let t = c.requires.lies in
    let l = c.loop-j in
    turn_can c.args.p (l.j - 1) c.requires.room l.invariant.kept (omega arith) t.0 t.1 t.2 (back _ _ _ c.loop-j-test.true (l.invariant.notes t.0 t.1 t.2))
    (λ i. l.invariant.last (omega arith) ∙ ap (λ (k : ℕ). get_or l.work k 0) (omega arith))

pub loop-j-preserved : goal.loop-j-preserved
loop-j-preserved c =
    let p = c.args.p in
    let r = c.requires.room in
    let l = c.loop-j in
    let e = c.number.ensures ∙ c.own_note-last.ensures.note in record {
      kept = rw e (turn_kept p (l.j - 1) r l.invariant.kept (omega arith));
      notes = λ t h i. rw e (turn_notes p (l.j - 1) r l.invariant.kept (omega arith) t h i (back _ _ _ c.loop-j-test.true (l.invariant.notes t h i)));
      last = λ i. sym c.number.ensures ∙ sym (get_or-set_same l.work (p.notes + (l.j - 1)) c.number.result 0 (omega arith));
    }
