-- `Kind::allows` meets its contract, by the test over all kinds and maps.
use native.Mathlib.Omega.{arith}
use Rattle.expr.specs.Kinds.{kind_number}
use Rattle.expr.proofs.ForeignBits.{covered_is}
use Rattle.expr.proofs.KindNumbers.{kind_small}
use Rattle.expr.proofs.kind.Kind.allows.Goals as goal

pub returns : goal.returns
returns c = rw c.map-own.ensures (covered_is (kind_number c.args.self) c.args.map (kind_small c.args.self) (omega arith))
