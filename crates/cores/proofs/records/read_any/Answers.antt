-- `cores::records::read_any` meets its contract.
use mathlib.Core.Path.{sym, ◌∙◌}
use Rattle.cores.proofs.CoreRecords.{any_found}
use Rattle.cores.proofs.records.read_any.Goals as goal

pub returns : goal.returns
returns c = any_found c.args.s.now (sym c.is_term_kind.ensures ∙ c.if-is_term_kind.false) c.type_inv.s c.in_ok-head.ensures
