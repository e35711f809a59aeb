-- `desugar::judged::JudgedUse::pattern_size` meets its contract: one law of cores for each pattern.
use mathlib.Core.Path.{◌∙◌, ap}
use native.Mathlib.Omega.{arith}
use Rattle.desugar.specs.Costs.{chain_size}
use Rattle.desugar.specs.RangedWords.{record_in}
use Rattle.desugar.proofs.Masked.{clear_most}
use Rattle.desugar.proofs.RangedCores.{cidr_on, wildcard_on, values_on, exact_on, counted}
use Rattle.desugar.proofs.judged.JudgedUse.pattern_size.Goals as goal

pub chain_size-requires-in-Wildcard : goal.chain_size-requires-in-Wildcard
chain_size-requires-in-Wildcard c =
    let h = record_in c.args.self.used in
    omega (arith, c.count.ensures, clear_most h.lit_b c.count-n.result, c.count-n.ensures)

pub returns-in-Cidr : goal.returns-in-Cidr
returns-in-Cidr c = λ start. counted (cidr_on c.args.self c.count-n.ensures c.requires start c.in-Cidr.is) _ c.chain_size-in-Cidr.ensures

pub returns-in-Wildcard : goal.returns-in-Wildcard
returns-in-Wildcard c = λ start.
    counted (wildcard_on c.args.self c.count-n.ensures c.requires start c.in-Wildcard.is) _ (c.chain_size-in-Wildcard.ensures ∙ ap chain_size c.count.ensures)

pub returns-in-IpRange : goal.returns-in-IpRange
returns-in-IpRange c = λ start. counted (values_on c.args.self c.count-n.ensures c.requires start c.in-IpRange.is) _ c.size.ensures

pub returns-in-Exact : goal.returns-in-Exact
returns-in-Exact c = λ start. counted (exact_on c.args.self c.count-n.ensures c.requires start c.in-Exact.is) _ c.chain_size.ensures
