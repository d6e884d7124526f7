-- A table whose texts stand in slots, the name's among them.
use Rattle.std.specs.Prelude.{Bool, true, false, List, ◌∷◌, ◌≡◌, ℕ, ◌+◌, ◌-◌, ◌≤◌, ◌<◌, length, get_or, None, Some, Ok, Err}
use Rattle.lists.specs.Choose.{choose}
use Rattle.model.specs.Limits.{plane_rows, text_bytes}
use Rattle.model.specs.Policies.{policy_number, orientation_number}
use Rattle.model.specs.Refusals.{Reading}
use Rattle.record.specs.Policy.{Text}
use Rattle.record.specs.Record.{Table, packed, slot_count, bytes_of}
use Rattle.record.specs.Slots.{offset_at, length_at, slot_limit}
use Rattle.cells.specs.Spans as spans
use Rattle.record.specs.writer.SlotTexts.{slot_text, texts_from}
use Rattle.recognizer.specs.declared.SlotTable.{SlotTable}

-- the name's frame is the first region, where there is a name
abbrev pub name_of : Bool → (ℕ → List ℕ) → Text
name_of true text = Some (text 0)
name_of false text = None

-- an answer's table: its numbers, and the texts of all its slots
abbrev pub named_table : Reading SlotTable → List ℕ → List ℕ → Reading Table
named_table (Ok t) bytes d =
    Ok (record {
      policy = policy_number t.policy;
      orientation = orientation_number t.orientation;
      inputs = t.inputs;
      outputs = t.outputs;
      annotations = t.annotations;
      rules = t.rules;
      texts = texts_from bytes d 0 t.slots;
    })
named_table (Err r) bytes d = Err r

-- its slots lie in at most 61,440 bytes, and their texts have so many bytes
pub record NamedHeld (t : SlotTable) (bytes d : List ℕ) : Type 0 where
  pub short : length bytes ≤ text_bytes
  pub slots : t.slots ≡ slot_count t.inputs t.outputs t.annotations t.rules
  pub few : t.slots ≤ slot_limit
  pub rules : t.rules ≤ plane_rows
  pub total : t.bytes ≡ length (packed (texts_from bytes d 0 t.slots))
  pub inside : (i : ℕ) → i < t.slots → offset_at d i + length_at d i ≤ length bytes

abbrev pub AnswerHeld : Reading SlotTable → List ℕ → List ℕ → Type 0
AnswerHeld (Ok t) bytes d = NamedHeld t bytes d
AnswerHeld (Err r) bytes d = Unit {0}

-- where there is a name, there is a first text
abbrev pub NameIn : Bool → ℕ → Type 0
NameIn named count = named ≡ true → 0 < count

-- the name's slot is written: its text, its bytes, and nothing else changed
pub record NamePut (named : Bool) (ss d o : List ℕ) (size : ℕ) : Type 0 where
  pub text : (bytes : List ℕ) → slot_text bytes o 0 ≡ choose named (Some (spans.text_at bytes ss 0)) None
  pub bytes : size ≡ choose named (spans.length_at ss 0) 0
  pub inside : offset_at o 0 + length_at o 0 ≡ choose named (spans.offset_at ss 0 + spans.length_at ss 0) 0
  pub kept : (j : ℕ) → 3 ≤ j → get_or o j 0 ≡ get_or d j 0

-- a table t, and the same with its name
pub record Named (t r : SlotTable) (name : Text) (bytes d o : List ℕ) : Type 0 where
  pub same : r ≡ record { policy = t.policy; orientation = t.orientation; inputs = t.inputs; outputs = t.outputs; annotations = t.annotations; rules = t.rules; slots = t.slots; bytes = t.bytes + length (bytes_of name) }
  pub texts : texts_from bytes o 0 t.slots ≡ name ∷ texts_from bytes d 1 (t.slots - 1)
  pub held : NamedHeld r bytes o
