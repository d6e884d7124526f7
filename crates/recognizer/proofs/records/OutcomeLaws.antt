-- The outcome and the record of a table whose texts stand in slots.
use Rattle.std.specs.Prelude.{ℕ, Ok}
use mathlib.Core.List.{List}
use mathlib.Core.Path.{◌≡◌, ◌∙◌}
use Prim.Native.Nat.{ℕ, ◌*◌, ◌≤◌}
use native.Mathlib.Omega.{arith}
use lib.ListN.{length}
use Rattle.model.specs.Policies.{policy_number, orientation_number}
use Rattle.model.specs.Refusals.{Reading}
use Rattle.record.specs.Record.{Table, total}
use Rattle.record.specs.Slots.{slot_limit}
use Rattle.record.specs.Written.{begun_of}
use Rattle.record.specs.declared.Head.{Head}
use Rattle.recognizer.specs.declared.SlotTable.{SlotTable}
use Rattle.recognizer.specs.tables.NamedTable.{named_table, NamedHeld}
use Rattle.record.specs.writer.SlotRecord.{table_from, record_in, SlotsHeld}
use Rattle.recognizer.specs.records.Outcomes.{outcome_of, record_of}

-- a header with the numbers of a table
pub record Heads (x : Head) (t : SlotTable) : Type 0 where
  pub policy : x.policy ≡ policy_number t.policy
  pub orientation : x.orientation ≡ orientation_number t.orientation
  pub inputs : x.inputs ≡ t.inputs
  pub outputs : x.outputs ≡ t.outputs
  pub annotations : x.annotations ≡ t.annotations
  pub rules : x.rules ≡ t.rules

pub head_record : {t : SlotTable} {x : Head} (bytes d out : List ℕ) → Heads x t → record_in out (table_from x bytes d t.slots) ≡ record_of (named_table (Ok t) bytes d) out
head_record bytes d out e = rw (e.policy, e.orientation, e.inputs, e.outputs, e.annotations, e.rules)

pub head_total : {t : SlotTable} {x : Head} (bytes d : List ℕ) (n : ℕ) (b : Reading ℕ) → Heads x t → b ≡ begun_of n (total (table_from x bytes d t.slots))
    → b ≡ outcome_of (named_table (Ok t) bytes d) n
head_total {t} {x} bytes d n b e q = q ∙ rw (e.inputs, e.outputs, e.annotations, e.rules)

-- a reading's record under another name of the reading
pub read_as : {m n : Reading Table} {r : Reading ℕ} {o : List ℕ} (out : List ℕ) → m ≡ n → r ≡ outcome_of m (length out) → o ≡ record_of m out
    → (r ≡ outcome_of n (length out)) × (o ≡ record_of n out)
read_as out e a b = rw (← e) (a, b)

pub slots-held : {t : SlotTable} {bytes d : List ℕ} (x : Head) → NamedHeld t bytes d → 3 * slot_limit ≤ length d
    → Heads x t → SlotsHeld x bytes d t.slots t.bytes
slots-held x h r e =
    record {
      room = omega (arith, h.few);
      few = h.few;
      counted = rw (e.inputs, e.outputs, e.annotations, e.rules) h.slots;
      inside = h.inside;
      short = h.short;
      total = h.total;
    }
