-- `record::writer::write_slot` meets its contract.
use native.Mathlib.Omega.{arith}
use Rattle.record.proofs.writer.WritingLaws.{slot_plain}
use Rattle.record.proofs.writer.write_slot.Goals as goal

pub bounds-slots-at : goal.bounds-slots-at
bounds-slots-at c = omega (arith, c.requires.held.one, c.args.texts.parts.room)

pub write_values-requires : goal.write_values-requires
write_values-requires c = record { held = (c.requires.held, c.if-slots-at-gt-PART.true); fits = c.requires.fits }

pub returns-then-slots-at-gt-PART : goal.returns-then-slots-at-gt-PART
returns-then-slots-at-gt-PART c = record { end = c.write_values.ensures.value; out_after = c.write_values.ensures.out_after }

pub put_part-requires : goal.put_part-requires
put_part-requires c =
    let k = c.if-slots-at-gt-PART.false in
    record { plain = (c.requires.held.one, k); fits = rw (slot_plain _ _ _ k) c.requires.fits }

pub returns : goal.returns
returns c =
    let e = slot_plain c.args.texts.bytes.now c.args.texts.slots.now c.args.at.slot c.if-slots-at-gt-PART.false in
    record { end = rw e at c.put_part.ensures.value; out_after = rw e at c.put_part.ensures.out_after }
