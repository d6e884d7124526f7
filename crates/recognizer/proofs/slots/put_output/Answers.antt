-- `recognizer::slots::put_output` meets its contract.
use Rattle.std.specs.Prelude.{None}
use mathlib.Core.Path.{refl, sym, ap}
use native.Mathlib.Omega.{arith}
use Rattle.lists.proofs.Tests.{choose_off}
use Rattle.recognizer.specs.slot_runs.Spelt.{HasRoom}
use Rattle.recognizer.proofs.slot_runs.ValueTexts.{value_texts}
use Rattle.recognizer.proofs.slot_runs.SpeltLaws.{appended_then, appended_as, optional_on, room_next}
use Rattle.recognizer.specs.slots.ShapedTexts.{bytes_of}
use Rattle.recognizer.proofs.slots.put_output.Goals as goal
use Rattle.recognizer.proofs.slots.put_output.Goals.{After-put_name}

-- the room behind the name
room-behind : (c : After-put_name) → HasRoom c.put_name.new.out 2
room-behind c = room_next c.requires.0 c.put_name.ensures refl (omega arith)

pub put_values-requires : goal.put_values-requires
put_values-requires c = (room-behind (goal.at.put_values-requires c).After-put_name, c.part_at-p.ensures.inside)

pub returns-then-s : goal.returns-then-s
returns-then-s c =
    let e = rw c.saturating_sub.ensures at c.part_at-p.ensures.text in
    appended_then c.put_name.ensures
    (appended_as c.put_values.ensures (ap value_texts (optional_on None e c.if-s.true)))

pub put_no_values-requires : goal.put_no_values-requires
put_no_values-requires c = room-behind (goal.at.put_no_values-requires c).After-put_name

pub returns-else-s : goal.returns-else-s
returns-else-s c =
    appended_then c.put_name.ensures
    (appended_as (c.put_no_values.ensures (bytes_of c.args.shaped)) (ap value_texts (sym (choose_off _ _ None c.if-s.false))))
