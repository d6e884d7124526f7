-- `record::writer::write_slots` meets its contract.
use Rattle.record.proofs.writer.WritingLaws.{slots-start, slot_ask, slot_left, slots_end}
use Rattle.record.proofs.writer.write_slots.Goals as goal

pub loop-slot-init : goal.loop-slot-init
loop-slot-init c = slots-start _ _ _ _ c.requires.fits

pub write_slot-offset-requires : goal.write_slot-offset-requires
write_slot-offset-requires c =
    let more = c.loop-slot-test.true in
    record { held = c.requires.held _ more; fits = slot_ask c.loop-slot.invariant more }

pub loop-slot-preserved : goal.loop-slot-preserved
loop-slot-preserved c =
    slot_left c.loop-slot.invariant c.loop-slot-test.true _ _ (c.write_slot-offset.ensures.end, c.write_slot-offset.ensures.out_after)

pub returns : goal.returns
returns c = slots_end c.loop-slot.invariant c.loop-slot-test.false
