-- `recognizer::records::write_table` meets its contract.
use mathlib.Core.Path.{refl, ◌∙◌}
use Rattle.record.specs.declared.Head.{Head}
use Rattle.recognizer.proofs.records.OutcomeLaws.{Heads, head_record, head_total, slots-held}
use Rattle.recognizer.proofs.records.write_table.Goals as goal
use Rattle.recognizer.proofs.records.write_table.Goals.{After-struct_known-4-1}

-- the header that was made
abbrev head : After-struct_known-4-1 → Head
head c =
    let t = c.args.t in
    record { policy = c.from.result; orientation = c.from-2.result; inputs = t.inputs; outputs = t.outputs; annotations = t.annotations; rules = t.rules }

heads : (c : After-struct_known-4-1) → Heads (head c) c.args.t
heads c = record { policy = c.from.ensures; orientation = c.from-2.ensures; inputs = refl; outputs = refl; annotations = refl; rules = refl }

pub write_record-requires : goal.write_record-requires
write_record-requires c =
    let p = c.requires in
    slots-held (head (goal.at.write_record-requires c).After-struct_known-4-1) p.0 p.1 (heads (goal.at.write_record-requires c).After-struct_known-4-1)

pub returns : goal.returns
returns c =
    let s = c.args in
    record { outcome = head_total s.bytes.now s.slots.now _ _ (heads (goal.at.returns c).After-struct_known-4-1) c.write_record.ensures.answer; out = c.write_record.ensures.written ∙ head_record s.bytes.now s.slots.now s.out.now (heads (goal.at.returns c).After-struct_known-4-1) }
