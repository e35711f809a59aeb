-- `netkat::run::netkat_run_packets` meets its contract: a place has 32 bits.
use mathlib.Core.Path.{refl, sym, ap, subst, ◌∙◌}
use borrow.Author.Rules.{rules}
use lib.ListN.{length}
use Rattle.expr.specs.Answers.{map_answer}
use Rattle.expr.proofs.Slices.{bytes_each}
use Rattle.netkat.specs.Entry.{hosted, halved}
use Rattle.netkat.proofs.HostBounds.{Narrow, Any, run_narrow}
use Rattle.netkat.proofs.run.netkat_run_packets.Goals as goal

pub refused-requires : goal.refused-requires
refused-requires c = let a = c.args in
    subst (Narrow Any) (sym c.in-Err.ensures) (run_narrow a.core.now (length a.records.now) a.packets.now a.lengths.now (bytes_each a.core.now c.type_inv.core))

pub returns-in-Err : goal.returns-in-Err
returns-in-Err c = record {
  answers = (c.refused.ensures ∙ ap (λ x. hosted (map_answer halved x)) c.in-Err.ensures, refl);
  records_len_unchanged = search rules;
}

pub returns-in-Ok : goal.returns-in-Ok
returns-in-Ok c = record {
  answers = (c.halved.ensures ∙ ap (λ x. hosted (map_answer halved x)) c.in-Ok.ensures, refl);
  records_len_unchanged = search rules;
}
