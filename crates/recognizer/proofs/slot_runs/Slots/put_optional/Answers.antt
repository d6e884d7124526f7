-- `recognizer::slot_runs::Slots::put_optional` meets its contract.
use mathlib.Core.Path.{sym}
use native.Mathlib.Omega.{arith}
use Rattle.recognizer.proofs.slot_runs.SpeltLaws.{part_none, part_some, appended_text}
use Rattle.recognizer.proofs.slot_runs.Slots.put_optional.Goals as goal

pub returns-then-p-eq0 : goal.returns-then-p-eq0
returns-then-p-eq0 c =
    λ bytes i. appended_text (c.put_absent.ensures bytes) (sym (part_none bytes c.args.p c.if-p-eq0.true))

pub returns-else-p-eq0 : goal.returns-else-p-eq0
returns-else-p-eq0 c =
    λ bytes i.
    appended_text (c.put_part.ensures bytes i) (sym (part_some bytes c.args.p i (omega (arith, c.if-p-eq0.false))))
