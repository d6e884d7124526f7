use Rattle.record.proofs.writer.WritingLaws.{SlotsTo}
use Rattle.record.proofs.writer.write_slots.Given as goal

abbrev pub invariant-loop-slot : goal.invariant-loop-slot
invariant-loop-slot l =
    let t = l.texts in
    SlotsTo t.bytes.now t.slots.now t.count l.initial.out l.out l.slot l.offset
