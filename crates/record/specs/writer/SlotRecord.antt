-- The record of a table whose texts stand in slots.
use Rattle.std.specs.Prelude.{List, ◌≡◌, ℕ, ◌+◌, ◌*◌, ◌≤◌, ◌<◌, ltb, length}
use Rattle.lists.specs.Choose.{choose}
use Rattle.lists.specs.Put.{put}
use Rattle.model.specs.Limits.{text_bytes}
use Rattle.record.specs.Record.{Table, packed, slot_count, total, encode}
use Rattle.record.specs.Slots.{offset_at, length_at, slot_limit}
use Rattle.record.specs.declared.Head.{Head}
use Rattle.record.specs.writer.SlotTexts.{texts_from}

-- the table of a header's numbers and of c slots
abbrev pub table_from : Head → List ℕ → List ℕ → ℕ → Table
table_from h bytes d c =
    record {
      policy = h.policy;
      orientation = h.orientation;
      inputs = h.inputs;
      outputs = h.outputs;
      annotations = h.annotations;
      rules = h.rules;
      texts = texts_from bytes d 0 c;
    }

-- a record slice afterwards: with the record in front, or as it was where it is too short
abbrev pub record_in : List ℕ → Table → List ℕ
record_in out t = choose (ltb (length out) (total t)) out (put out 0 (encode t))

-- c slots, as many as the header's numbers say, whose parts lie in at most 61,440 bytes, and the bytes of their texts
pub record SlotsHeld (h : Head) (bytes d : List ℕ) (c used : ℕ) : Type 0 where
  pub room : 3 * c ≤ length d
  pub few : c ≤ slot_limit
  pub counted : c ≡ slot_count h.inputs h.outputs h.annotations h.rules
  pub inside : (i : ℕ) → i < c → offset_at d i + length_at d i ≤ length bytes
  pub short : length bytes ≤ text_bytes
  pub total : used ≡ length (packed (texts_from bytes d 0 c))
