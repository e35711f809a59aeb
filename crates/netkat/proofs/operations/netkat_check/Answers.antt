-- `netkat_check` meets its contract: a place has 32 bits.
use mathlib.Core.Path.{subst, sym}
use Rattle.expr.proofs.Slices.{bytes_each}
use Rattle.netkat.proofs.HostBounds.{Narrow, Any, check_narrow}
use Rattle.netkat.proofs.operations.netkat_check.Goals as goal

pub refused-requires : goal.refused-requires
refused-requires c =
    let s = c.args.term.now in
    subst (Narrow Any) (sym c.in-Err.ensures) (check_narrow s (bytes_each s (λ i. c.type_inv.term i)))
