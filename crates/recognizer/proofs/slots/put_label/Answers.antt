-- `recognizer::slots::put_label` meets its contract.
use Rattle.std.specs.Prelude.{None}
use mathlib.Core.Path.{sym}
use Rattle.lists.proofs.Tests.{choose_off}
use Rattle.recognizer.proofs.slot_runs.SpeltLaws.{appended_text, optional_on}
use Rattle.recognizer.specs.slots.ShapedTexts.{bytes_of}
use Rattle.recognizer.proofs.slots.put_label.Goals as goal

pub returns-then-s : goal.returns-then-s
returns-then-s c =
    let p = c.part_at-label.ensures in
    appended_text (c.put_optional.ensures (bytes_of c.args.shaped) p.inside)
    (optional_on None p.text c.if-s.true)

pub returns-else-s : goal.returns-else-s
returns-else-s c = appended_text (c.put_absent.ensures (bytes_of c.args.shaped)) (sym (choose_off _ _ _ c.if-s.false))
