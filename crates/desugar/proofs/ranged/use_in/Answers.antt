-- `ranged::use_in` meets its contract.
use mathlib.Core.Path.{refl}
use Rattle.desugar.proofs.LeafSteps.{use_found, whole}
use Rattle.desugar.proofs.ranged.use_in.Goals as goal

pub invariant_of-result : goal.invariant_of-result
invariant_of-result c =
    let a = c.args in
    record { first = whole a.s.now a.head.a.at a.head.a.bits c.requires.2; second = whole a.s.now a.head.b.at a.head.b.bits c.requires.3 }

pub returns : goal.returns
returns c = use_found c.args.s.now c.args.head _ refl refl refl refl refl refl refl
