-- `core_bytes::core_length` meets its contract.
use mathlib.Core.Path.{◌≡◌, ap, ◌∙◌}
use Prim.Native.Nat.{◌/◌}
use native.Mathlib.Omega.{arith}
use lib.ListN.{length}
use Rattle.desugar.specs.CoreBytes.{records_bytes}
use Rattle.desugar.proofs.RecordBytes.{slice_bytes}
use Rattle.desugar.proofs.core_bytes.core_length.Goals as goal

pub returns : goal.returns
returns c =
    let xs = c.args.core.now in
    let all : c.loop-j.j ≡ length xs / 3 = omega arith in
    λ core is. c.loop-j.invariant ∙ ap (λ n. length (records_bytes xs 0 n)) all ∙ ap length (slice_bytes core is)
