-- What the inner functions of the crate ask of a slot: no caller needs this.
use Rattle.std.specs.Prelude.{ℕ, ◌+◌, ◌≤◌, ◌<◌, length}
use Rattle.record.specs.Slots.{offset_at, length_at}
use Rattle.record.specs.declared.record_texts.slotted.Slotted.{Slotted}

-- one of the slots, whose part lies in the bytes whatever its kind is
pub record SlotIn (t : Slotted) (i : ℕ) : Type 0 where
  pub one : i < t.count
  pub inside : offset_at t.slots.now i + length_at t.slots.now i ≤ length t.bytes.now
