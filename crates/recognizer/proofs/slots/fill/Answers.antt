-- `recognizer::slots::fill` meets its contract.
use mathlib.Core.Path.{refl, sym}
use native.Mathlib.Omega.{arith}
use Rattle.lists.proofs.RunLaws.{length_run}
use Rattle.clauses.specs.Spelled.{spelled}
use Rattle.recognizer.specs.slot_runs.Spelt.{HasRoom}
use Rattle.recognizer.proofs.slots.ShapeRoom.{from_inputs, from_outputs, from_notes, for_rules, room-all}
use Rattle.recognizer.proofs.slot_runs.SpeltLaws.{spelt_in, appended_then, room_next, room_less, join-length}
use Rattle.std.proofs.Common.{rules}
use Rattle.recognizer.proofs.slots.fill.Goals as goal
use Rattle.recognizer.proofs.slots.fill.Goals.{After-put_inputs, After-put_label, After-put_notes, After-put_outputs}

-- the room that is left behind each
behind-label : (c : After-put_label) → HasRoom c.put_label.new.out (from_inputs c.args.shape c.args.rules)
behind-label c = room_next (room-all c.requires.1 c.args.sheet.plane.fits.rows c.requires.2) c.put_label.ensures refl (omega arith)

behind-inputs : (c : After-put_inputs) → HasRoom c.put_label.new.out (from_inputs c.args.shape c.args.rules)
    → HasRoom c.put_inputs.new.out (from_outputs c.args.shape c.args.rules)
behind-inputs c r = room_next r c.put_inputs.ensures (join-length _ 0 _ 2 (λ i. refl)) (omega arith)

behind-outputs : (c : After-put_outputs) → HasRoom c.put_inputs.new.out (from_outputs c.args.shape c.args.rules)
    → HasRoom c.put_outputs.new.out (from_notes c.args.shape c.args.rules)
behind-outputs c r = room_next r c.put_outputs.ensures (join-length _ 0 _ 3 (λ j. refl)) (omega arith)

behind-notes : (c : After-put_notes) → HasRoom c.put_outputs.new.out (from_notes c.args.shape c.args.rules)
    → HasRoom c.put_notes.new.out (for_rules c.args.shape c.args.rules)
behind-notes c r = room_next r c.put_notes.ensures (length_run _ _ _) (omega arith)

pub put_label-requires : goal.put_label-requires
put_label-requires c =
    room_less (room-all c.requires.1 c.args.sheet.plane.fits.rows c.requires.2) (omega arith)

pub put_inputs-requires : goal.put_inputs-requires
put_inputs-requires c = room_less (behind-label (goal.at.put_inputs-requires c).After-put_label) (omega arith)

pub put_outputs-requires : goal.put_outputs-requires
put_outputs-requires c =
    room_less (behind-inputs (goal.at.put_outputs-requires c).After-put_inputs (behind-label (goal.at.put_outputs-requires c).After-put_label)) (omega arith)

pub put_notes-requires : goal.put_notes-requires
put_notes-requires c =
    room_less (behind-outputs (goal.at.put_notes-requires c).After-put_outputs (behind-inputs (goal.at.put_notes-requires c).After-put_inputs (behind-label (goal.at.put_notes-requires c).After-put_label))) (omega arith)

pub put_rules-requires : goal.put_rules-requires
put_rules-requires c =
    behind-notes (goal.at.put_rules-requires c).After-put_notes (behind-outputs (goal.at.put_rules-requires c).After-put_outputs (behind-inputs (goal.at.put_rules-requires c).After-put_inputs (behind-label (goal.at.put_rules-requires c).After-put_label)))

pub returns : goal.returns
unfolding spelled
returns c =
    let all = appended_then c.put_label.ensures
    (appended_then c.put_inputs.ensures (appended_then c.put_outputs.ensures (appended_then c.put_notes.ensures c.put_rules.ensures))) in
    let same = sym all.same in
    spelt_in all (search rules)
