-- `bytes::desugar` meets its contract.
use Rattle.expr.proofs.SubstituteSteps.{form_decodes}
use Rattle.desugar.proofs.BytesSteps.{allowed}
use native.Mathlib.Omega.{arith}
use Rattle.desugar.proofs.bytes.desugar.Goals as goal

pub write_desugared-requires : goal.write_desugared-requires
write_desugared-requires c =
    record {
      form = form_decodes {s = c.args.term.now} {t = c.in_ok-form.field-0} c.in_ok-form.ensures;
      limits = allowed (λ e. omega arith) (omega arith);
      room = c.if-work-units.false;
    }
