-- `core_bytes::write_number` meets its contract.
use Prim.Native.Nat.{◌%◌, ◌+◌}
use native.Mathlib.Omega.{arith}
use lib.ListN.{length-set}
use Rattle.desugar.proofs.RecordBytes.{number_step}
use Rattle.desugar.proofs.core_bytes.write_number.Goals as goal

pub loop-i-preserved : goal.loop-i-preserved
loop-i-preserved g c =
    let l = c.loop-i in
    (omega (arith, length-set l.out (c.args.to + l.i) (l.rest % 256)), number_step g.row.N l.i l.rest l.out c.args.to (omega arith) l.invariant.1)
