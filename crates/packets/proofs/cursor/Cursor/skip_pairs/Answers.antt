-- `packets::cursor::Cursor::skip_pairs` meets its contract.
use mathlib.Core.Path.{refl}
use Rattle.packets.specs.Results.{none_read}
use Rattle.packets.proofs.PassLaws.{pair_start, pair_next}
use Rattle.packets.proofs.cursor.Cursor.skip_pairs.Goals as goal

pub returns-in_default : goal.returns-in_default
returns-in_default c = record { same = refl; skims = λ skip h. none_read }

pub loop-place-init : goal.loop-place-init
loop-place-init c = pair_start c.args.self.bytes.now c.args.self.at c.args.self.place c.in-Ok.most c.args.self.inside c.args.self.low

pub loop-place-preserved : goal.loop-place-preserved
loop-place-preserved c = pair_next c.loop-place.invariant c.loop-place-test.true c.in-Some.ensures c.max-most.ensures
