-- The texts that the slots of a work slice name: kind 0 is absent, 1 a part of some bytes, 2 the allowed values of a part.
use Rattle.std.specs.Prelude.{List, ℕ, zero, suc, None, Some}
use Rattle.lists.specs.Run.{run}
use Rattle.record.specs.Policy.{Text}
use Rattle.record.specs.Slots.{kind_at, part_at}
use Rattle.values.specs.Values.{values_of}

-- the text of a kind, of a part
abbrev pub text_of_kind : ℕ → List ℕ → Text
text_of_kind zero t = None
text_of_kind (suc zero) t = Some t
text_of_kind (suc (suc k)) t = Some (values_of t).allowed

-- the text of slot i
unfoldable pub slot_text : List ℕ → List ℕ → ℕ → Text
slot_text bytes d i = text_of_kind (kind_at d i) (part_at bytes d i)

-- those of the n slots from i on
abbrev pub texts_from : List ℕ → List ℕ → ℕ → ℕ → List Text
texts_from bytes d i n = run (slot_text bytes d) i n
