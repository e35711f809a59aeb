-- `cores::widen` meets its contract. Written out, so that a wrong program is refused by the answer that differs.
use mathlib.Core.Path.{◌≡◌, ap, ◌∙◌}
use Rattle.std.specs.Prelude.{Err}
use Rattle.std.proofs.Common.{rules}
use Rattle.expr.specs.Answers.{answered, refuse}
use Rattle.cores.specs.Results.{widened}
use Rattle.cores.proofs.widen.Goals as goal

pub returns-in_default : goal.returns-in_default
returns-in_default c =
    let a = c.args in
    let due : refuse 25 a.place ≡ widened (answered a.fields) a.kind a.field a.place = search rules in
    ap (λ r. answered (Err r)) c.at.ensures ∙ due
