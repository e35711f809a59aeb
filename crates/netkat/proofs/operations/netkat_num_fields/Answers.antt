-- `netkat_num_fields` meets its contract: a place has 32 bits.
use mathlib.Core.Path.{ap, refl, subst, sym, ◌∙◌}
use native.Mathlib.Omega.{arith}
use Rattle.expr.specs.Answers.{map_answer}
use Rattle.expr.proofs.Slices.{bytes_each}
use Rattle.netkat.specs.Entry.{hosted}
use Rattle.netkat.proofs.HostBounds.{Narrow, Any, fields_narrow}
use Rattle.netkat.proofs.operations.netkat_num_fields.Goals as goal

pub refused-requires : goal.refused-requires
refused-requires c =
    let s = c.args.term.now in
    subst (Narrow Any) (sym c.in-Err.ensures) (fields_narrow s (bytes_each s (λ i. omega (arith, c.type_inv.term i))))

pub returns-in-Ok : goal.returns-in-Ok
returns-in-Ok c = (c.success.ensures ∙ ap (λ x. hosted (map_answer (λ n. (n, 0)) x)) c.in-Ok.ensures, refl)
