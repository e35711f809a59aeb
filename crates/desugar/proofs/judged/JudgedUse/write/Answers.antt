-- `desugar::judged::JudgedUse::write` meets its contract.
use mathlib.Core.Path.{refl}
use native.Mathlib.Omega.{arith}
use Rattle.expr.specs.Terms.{Assign, Intersect, Sequence, Test}
use Rattle.desugar.proofs.RangedCores.{assigns_on, tests_on, stored_leaf}
use Rattle.desugar.proofs.judged.JudgedUse.write.Goals as goal

pub write_literal-requires : goal.write_literal-requires
write_literal-requires c = omega (arith, (assigns_on c.args.self refl c.args.self.fields.start c.in-VarAssign.is).count, c.requires)

pub write_literal-requires-in-VarTest : goal.write_literal-requires-in-VarTest
write_literal-requires-in-VarTest c = omega (arith, (tests_on c.args.self refl c.args.self.fields.start c.in-VarTest.is).count, c.requires)

pub returns-in-VarAssign : goal.returns-in-VarAssign
returns-in-VarAssign c =
    let a = c.args in
    stored_leaf (assigns_on a.self refl a.self.fields.start c.in-VarAssign.is) a.work.now _ a.top
    (c.write_literal.ensures Sequence Assign (record { operator_is = refl; atom_is = λ s b. refl }))

pub returns-in-VarTest : goal.returns-in-VarTest
returns-in-VarTest c =
    let a = c.args in
    stored_leaf (tests_on a.self refl a.self.fields.start c.in-VarTest.is) a.work.now _ a.top
    (c.write_literal-in-VarTest.ensures Intersect Test (record { operator_is = refl; atom_is = λ s b. refl }))
