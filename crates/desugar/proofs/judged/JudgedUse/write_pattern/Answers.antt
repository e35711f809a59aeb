-- `desugar::judged::JudgedUse::write_pattern` meets its contract: one law of cores for each pattern.
use mathlib.Core.Path.{refl}
use native.Mathlib.Omega.{arith}
use Rattle.expr.specs.Terms.{Intersect, Test}
use Rattle.desugar.proofs.RangedCores.{cidr_on, wildcard_on, values_on, exact_on, stored_leaf}
use Rattle.desugar.proofs.judged.JudgedUse.write_pattern.Goals as goal

pub write_chain-requires : goal.write_chain-requires
write_chain-requires c =
    let j = c.args.self in
    omega (arith, (cidr_on j c.count-n.ensures c.requires.0 j.fields.start c.in-Cidr.is).count, c.requires.1)

pub write-requires : goal.write-requires
write-requires c =
    let j = c.args.self in
    record {
      room = omega (arith, (wildcard_on j c.count-n.ensures c.requires.0 j.fields.start c.in-Wildcard.is).count, c.requires.1);
      fields = omega (arith, j.ordered, c.count-n.ensures);
    }

pub write-requires-in-IpRange : goal.write-requires-in-IpRange
write-requires-in-IpRange c =
    let j = c.args.self in
    record {
      room = omega (arith, (values_on j c.count-n.ensures c.requires.0 j.fields.start c.in-IpRange.is).count, c.requires.1);
      fields = omega (arith, j.ordered, c.count-n.ensures);
    }

pub write_literal-requires : goal.write_literal-requires
write_literal-requires c =
    let j = c.args.self in
    omega (arith, (exact_on j refl c.requires.0 j.fields.start c.in-Exact.is).count, c.requires.1)

pub returns-in-Cidr : goal.returns-in-Cidr
returns-in-Cidr c =
    let a = c.args in
    stored_leaf (cidr_on a.self c.count-n.ensures c.requires.0 a.self.fields.start c.in-Cidr.is) a.work.now _ a.top
    (c.write_chain.ensures Intersect Test (record { operator_is = refl; atom_is = λ s b. refl }))

pub returns-in-Wildcard : goal.returns-in-Wildcard
returns-in-Wildcard c =
    let a = c.args in
    stored_leaf (wildcard_on a.self c.count-n.ensures c.requires.0 a.self.fields.start c.in-Wildcard.is) a.work.now _ a.top c.write.ensures

pub returns-in-IpRange : goal.returns-in-IpRange
returns-in-IpRange c =
    let a = c.args in
    stored_leaf (values_on a.self c.count-n.ensures c.requires.0 a.self.fields.start c.in-IpRange.is) a.work.now _ a.top c.write-in-IpRange.ensures

pub returns-in-Exact : goal.returns-in-Exact
returns-in-Exact c =
    let a = c.args in
    stored_leaf (exact_on a.self refl c.requires.0 a.self.fields.start c.in-Exact.is) a.work.now _ a.top
    (c.write_literal.ensures Intersect Test (record { operator_is = refl; atom_is = λ s b. refl }))
