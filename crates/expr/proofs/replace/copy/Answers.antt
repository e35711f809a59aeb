-- `replace::copy` meets its contract.
use native.Mathlib.Numerals.{add-one}
use native.Mathlib.Omega.{arith}
use lib.ListN.{length-set}
use lib.Seq.{paste-suc}
use Rattle.expr.proofs.replace.copy.Goals as goal

pub loop-i-preserved : goal.loop-i-preserved
loop-i-preserved c =
    let a = c.args in
    let l = c.loop-i in (
      simp length-set l.invariant.0,
      rw (l.invariant.1, add-one l.i) (paste-suc a.out.now a.at a.from.now l.i 0 (omega (arith, c.loop-i-test.true)) (omega (arith, l.invariant.2, c.loop-i-test.true))),
      l.invariant.2,
    )
