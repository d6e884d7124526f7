-- The lines of a table's record, from its numbers and texts.
use Rattle.std.specs.Prelude.{List, [], ◌∷◌, ◌++◌, ℕ, suc, ◌+◌, length, None, Some}
use Rattle.record.specs.Policy.{Text}
use Rattle.record.specs.Record.{Table, bytes_of, text_offset, slots_in, total}
use Rattle.print.specs.listing.RecordLines.{absent_line, present_line, count_lines, head_lines}

-- a text in slot i, at the running offset o
unfoldable pub text_line : ℕ → ℕ → Text → List ℕ
text_line i o None = absent_line i
text_line i o (Some t) = present_line i o (length t) t

-- texts from slot i and the running offset o on
unfoldable pub text_lines : ℕ → ℕ → List Text → List ℕ
text_lines i o [] = []
text_lines i o (t ∷ ts) = text_line i o t ++ text_lines (suc i) (o + length (bytes_of t)) ts

-- the numbers of a table, and its texts
unfoldable pub table_lines : Table → List ℕ
table_lines t =
    head_lines (total t) t.policy t.orientation (count_lines t.inputs t.outputs t.annotations t.rules)
    ++ text_lines 0 (text_offset (slots_in t)) t.texts
