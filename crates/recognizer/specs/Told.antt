-- What recognizing a plane answers, with the slices that hold its texts.
use Rattle.std.specs.Prelude.{List, ◌∷◌, ◌≡◌, ℕ, ◌+◌, ◌-◌, ◌*◌, ◌≤◌, ◌<◌, length, Ok, Err}
use Rattle.lists.specs.Answer.{◌>>=◌}
use Rattle.model.specs.Limits.{plane_rows, plane_size, text_bytes}
use Rattle.model.specs.Policies.{policy_number, orientation_number}
use Rattle.model.specs.Refusals.{Reading}
use Rattle.record.specs.Policy.{Text, Policy}
use Rattle.record.specs.Record.{Table, packed, slot_count, table_of}
use Rattle.record.specs.Slots.{offset_at, length_at, slot_limit}
use Rattle.record.specs.writer.SlotTexts.{texts_from}
use Rattle.recognizer.specs.declared.SlotTable.{SlotTable}

-- a policy's table, if it is not refused
abbrev pub table_read : Reading Policy → Reading Table
table_read m = do
  p ← m
  Ok (table_of p)

-- an answer's table: its numbers, and the texts of its slots behind a name
abbrev pub table_in : Text → Reading SlotTable → List ℕ → List ℕ → Reading Table
table_in name (Ok t) bytes d =
    Ok (record {
      policy = policy_number t.policy;
      orientation = orientation_number t.orientation;
      inputs = t.inputs;
      outputs = t.outputs;
      annotations = t.annotations;
      rules = t.rules;
      texts = name ∷ texts_from bytes d 1 (t.slots - 1);
    })
table_in name (Err r) bytes d = Err r

-- the slots of a table, the name's among them, and the bytes of their texts without the name
pub record TableHeld (t : SlotTable) (bytes d : List ℕ) : Type 0 where
  pub slots : t.slots ≡ slot_count t.inputs t.outputs t.annotations t.rules
  pub few : t.slots ≤ slot_limit
  pub rules : t.rules ≤ plane_rows
  pub total : t.bytes ≡ length (packed (texts_from bytes d 1 (t.slots - 1)))
  pub light : t.bytes ≤ t.slots * text_bytes
  pub inside : (i : ℕ) → 1 ≤ i → i < t.slots → offset_at d i + length_at d i ≤ length bytes

abbrev pub RecognizedHeld : Reading SlotTable → List ℕ → List ℕ → Type 0
RecognizedHeld (Ok t) bytes d = TableHeld t bytes d
RecognizedHeld (Err r) bytes d = Unit {0}

-- the slices that a plane is recognized with: its texts, and room for the upright sheet and the slots
pub record WorkRoom (bytes upright slots : List ℕ) : Type 0 where
  pub few : length bytes ≤ text_bytes
  pub sheet : plane_size ≤ length upright
  pub room : 3 * slot_limit ≤ length slots
