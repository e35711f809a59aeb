-- `Reader::number` meets its contract. The loop's invariant: the bytes behind spell the value.
use Rattle.expr.proofs.Numbers.{Spelled}
use Rattle.expr.proofs.reader.Reader.number.Given as goal

abbrev pub invariant-loop-i : goal.invariant-loop-i
invariant-loop-i g l = Spelled g.row.N l.at l.i l.s l.value
