-- What an entry answers and leaves: document 01, "Refused sheets".
use Rattle.std.specs.Prelude.{List, map, ℕ, length, Ok, Err}
use Rattle.lists.specs.Zeros.{zeros}
use Rattle.model.specs.Refusals.{Reading}
use Rattle.record.specs.Policy.{Policy}
use Rattle.record.specs.Record.{Table}
use Rattle.recognizer.specs.Told.{table_read}
use Rattle.builder.specs.room.Room.{room_from}
use Rattle.recognizer.specs.records.Outcomes.{outcome_of, record_of}

-- how a call ends: its outcome, its work slices, and its record slice
pub record End : Type 0 where
  pub outcome : Reading ℕ
  pub works : List (List ℕ)
  pub out : List ℕ

-- the end of a call that reads a table: after 28 every slice is unchanged, after anything else the work slices are zero
abbrev pub end_by : Reading (Unit {0}) → Reading Table → List (List ℕ) → List ℕ → End
end_by (Ok u) m works out = record { outcome = outcome_of m (length out); works = map zeros works; out = record_of m out }
end_by (Err r) m works out = record { outcome = Err r; works = works; out = out }

-- the end of a call that reads a policy, with work slices of at least these constants
unfoldable pub end_of : List ℕ → Reading Policy → List (List ℕ) → List ℕ → End
end_of sizes m works out = end_by (room_from 0 (map length works) sizes) (table_read m) works out
