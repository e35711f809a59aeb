-- `core_bytes::fits` meets its contract.
use mathlib.Core.Path.{◌∙◌, ap, sym}
use Prim.Native.Nat.{◌*◌, ◌/◌}
use native.Mathlib.Omega.{arith}
use borrow.Author.Tests.{le-leb}
use lib.ListN.{length}
use Rattle.expr.specs.Form.{encode_core}
use Rattle.desugar.proofs.RecordBytes.{records_short, slice_bytes}
use Rattle.desugar.proofs.core_bytes.fits.Goals as goal

pub returns-then-core-room : goal.returns-then-core-room
returns-then-core-room c =
    let a = c.args in
    let n = length a.core.now / 3 in
    λ core is.
    le-leb (7 * n) a.room c.if-core-room.true
    ∙ sym (le-leb (length (encode_core core)) a.room (omega (arith, c.if-core-room.true, records_short a.core.now 0 n, ap length (slice_bytes core is))))
