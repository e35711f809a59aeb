-- `desugar::judged::JudgedUse::size` meets its contract.
use mathlib.Core.Path.{◌∙◌, ap, sym}
use Prim.Native.Nat.{◌-◌}
use Rattle.expr.specs.Terms.{Use, size}
use Rattle.desugar.specs.Costs.{chain_size}
use Rattle.desugar.specs.Leaves.{use_core}
use Rattle.desugar.specs.WalkWords.{where_of}
use Rattle.desugar.specs.RangedWords.{record_in}
use Rattle.desugar.proofs.LeafKinds.{matches_outside, literal_kind, no_literal}
use Rattle.desugar.proofs.RangedCores.{literal_size}
use Rattle.desugar.proofs.judged.JudgedUse.size.Goals as goal

pub returns-in-VarAssign : goal.returns-in-VarAssign
returns-in-VarAssign c =
    let j = c.args.self in
    let h = record_in j.used in
    let n = j.fields.end - j.fields.start in
    λ start. c.chain_size.ensures ∙ ap chain_size c.count.ensures ∙ sym (literal_size h (where_of h) n j.kept start (literal_kind j.used.kind c.in-VarAssign.is).0 (literal_kind j.used.kind c.in-VarAssign.is).1)

pub returns-in_default : goal.returns-in_default
returns-in_default c =
    let j = c.args.self in
    let h = record_in j.used in
    let n = j.fields.end - j.fields.start in
    let d = c.in_default in
    let other = no_literal j.used.kind d.not-VarAssign d.not-VarTest d.not-BitRangeAssign d.not-BitRangeTest in
    λ start. c.pattern_size.ensures start ∙ ap (λ (u : Use). size (use_core u start n)) (sym (matches_outside h other))
