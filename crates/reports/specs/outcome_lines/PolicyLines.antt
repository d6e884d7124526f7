-- What is printed for a sheet or a lent plane: document 01, "Table record".
use Rattle.std.specs.Prelude.{List, ℕ, ltb, Ok, Err}
use Rattle.lists.specs.Choose.{choose}
use Rattle.model.specs.Refusals.{Reading, numbers}
use Rattle.model.specs.declared.Refusal.TheVariants.{OutputSliceShort}
use Rattle.record.specs.Policy.{Policy}
use Rattle.record.specs.Record.{total, table_of}
use Rattle.print.specs.Lines.{refused_line}
use Rattle.print.specs.listing.RecordLines.{line_room}
use Rattle.print.specs.listing.TableLines.{table_lines}

-- "Its record slice has 61,440 bytes"
abbrev pub record_bytes : ℕ
record_bytes = 61440

-- the lines that are printed for what a sheet or a plane states, with a record slice of n bytes: the record, or the refusal, 27 last
unfoldable pub policy_lines : ℕ → Reading Policy → List ℕ
policy_lines n (Ok p) = choose (ltb n (total (table_of p))) (refused_line (numbers (OutputSliceShort (total (table_of p))))) (table_lines (table_of p))
policy_lines n (Err r) = refused_line (numbers r)

-- room for them: a record's lines take more than a refusal's
abbrev pub report_bytes : ℕ
report_bytes = line_room record_bytes
