-- `recognizer::slots::put_rule` meets its contract.
use Prim.Native.Nat.{◌+◌}
use native.Mathlib.Omega.{arith}
use Rattle.lists.proofs.RunLaws.{length_run}
use Rattle.recognizer.specs.slot_runs.Spelt.{HasRoom}
use Rattle.recognizer.proofs.slot_runs.SpeltLaws.{appended_then, room_next, room_less}
use Rattle.recognizer.proofs.slots.put_rule.Goals as goal
use Rattle.recognizer.proofs.slots.put_rule.Goals.{After-put_row}

-- the room behind the input entries
room-behind : (c : After-put_row) → let s = c.args.shaped.shape in HasRoom c.put_row.new.out (s.outputs + s.notes.count)
room-behind c = room_next c.requires.0 c.put_row.ensures (length_run _ _ _) (omega arith)

pub put_row-requires-2 : goal.put_row-requires-2
put_row-requires-2 c =
    (c.args.shaped.few, room_less (room-behind (goal.at.put_row-requires-2 c).After-put_row) (omega arith), omega (arith, c.args.shaped.fits.columns))

pub overflow_add-s-2 : goal.overflow_add-s-2
overflow_add-s-2 c =
    let f = c.args.shaped.fits in
    omega (arith, c.requires.1, f.notes, f.height, c.args.shaped.sheet.plane.fits.rows)

pub put_notes-requires : goal.put_notes-requires
put_notes-requires c =
    room_next (room-behind (goal.at.put_notes-requires c).After-put_row) c.put_row-2.ensures (length_run _ _ _) (omega arith)

pub returns : goal.returns
returns c =
    appended_then c.put_row.ensures (appended_then c.put_row-2.ensures c.put_notes.ensures)
