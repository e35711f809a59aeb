-- `cores::records::read_short` meets its contract. Written out, so that a wrong program is refused by the fact that differs.
use mathlib.Core.Path.{◌≡◌, sym, ◌∙◌}
use native.Mathlib.Omega.{arith}
use Prim.Native.Nat.{◌+◌}
use lib.ListN.{get_or}
use Rattle.std.proofs.Common.{rules}
use Rattle.expr.specs.Kinds.{kind_number}
use Rattle.cores.proofs.CoreRecords.{atom_at}
use Rattle.cores.proofs.records.read_short.Goals as goal

pub returns : goal.returns
returns c =
    let s = c.args.s.now in
    let at = c.args.at in
    let kind : kind_number c.in_ok-ok-2.field-0 ≡ get_or s (at + 1) 0 = search rules in
    atom_at s at (omega (arith, c.if-s-at-lt7.false)) c.in_ok-ok-2.field-0 kind c.type_inv.s c.from_le_bytes-field.ensures (sym c.is_atom.ensures ∙ c.if-not-is_atom.false)
