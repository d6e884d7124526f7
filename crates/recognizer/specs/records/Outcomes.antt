-- What becomes of a table that is read or refused: document 01, "Table record" and number 27.
use Rattle.std.specs.Prelude.{List, ℕ, ltb, Ok, Err}
use Rattle.lists.specs.Choose.{choose}
use Rattle.model.specs.Refusals.{Reading}
use Rattle.model.specs.declared.Refusal.TheVariants.{OutputSliceShort}
use Rattle.record.specs.Record.{Table, total}
use Rattle.record.specs.writer.SlotRecord.{record_in}

-- the outcome with a record slice of n bytes: 27 is last, and tells the bytes needed
abbrev pub outcome_of : Reading Table → ℕ → Reading ℕ
outcome_of (Ok t) n = choose (ltb n (total t)) (Err (OutputSliceShort (total t))) (Ok (total t))
outcome_of (Err r) n = Err r

-- the record slice: the record and behind it what was there, or untouched
abbrev pub record_of : Reading Table → List ℕ → List ℕ
record_of (Ok t) out = record_in out t
record_of (Err r) out = out
