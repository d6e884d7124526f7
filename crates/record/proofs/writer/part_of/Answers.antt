-- `record::writer::part_of` meets its contract.
use native.Mathlib.Nat.{add-sub_cancel_left}
use Rattle.record.proofs.writer.part_of.Goals as goal

pub returns : goal.returns
returns c = simp add-sub_cancel_left
