-- The lines of document 01, "Table record", by computation.
use Rattle.std.specs.Prelude.{Some}
use mathlib.Core.Path.{◌≡◌, refl}
use mathlib.Core.List.{List, [], ◌∷◌, ◌++◌}
use Prim.Native.Char.{code}
use Prim.Native.Nat.{ℕ}
use Prim.Native.String.{String, [] as end, ◌∷◌ as ◌then◌}
use Rattle.print.specs.Decimal.{width_by}
use Rattle.print.specs.Lines.{line_feed, count_line}
use Rattle.record.specs.Compared.{word_at}
use Rattle.record.specs.Record.{words, packed, slots_of, encode, input_texts, output_texts, rule_texts, slot_texts, table_of}
use Rattle.record.proofs.Sample.{sample}
use Rattle.print.specs.listing.RecordLines.{absent_line, part_words, present_line, slot_line, slot_lines, count_lines, head_lines, record_lines}
use Rattle.print.specs.listing.TableLines.{text_line}

-- the bytes of an ASCII text
abbrev bytes_in : String → List ℕ
bytes_in end = []
bytes_in (c then s) = code c ∷ bytes_in s

-- texts, a line each
abbrev printed : List String → List ℕ
printed [] = []
printed (s ∷ l) = bytes_in s ++ (line_feed ∷ printed l)

pub sample_lines : record_lines (encode (table_of sample))
    ≡ printed (
    "bytes 130" ∷ "policy 0" ∷ "orientation 0" ∷ "inputs 1" ∷ "outputs 1" ∷ "annotations 0" ∷ "rules 1" ∷ "slot 0 absent" ∷ "slot 1 112 4 Fare" ∷ "slot 2 116 4 Zone"
    ∷ "slot 3 absent" ∷ "slot 4 120 4 Fare" ∷ "slot 5 absent" ∷ "slot 6 absent" ∷ "slot 7 124 3 \"A\"" ∷ "slot 8 127 3 120" ∷ [])
unfolding record_lines head_lines count_lines slot_lines slot_line absent_line present_line part_words count_line width_by word_at encode words slots_of packed slot_texts input_texts output_texts rule_texts
sample_lines = refl

-- a present empty text leaves the blank before it
pub empty_line : text_line 3 112 (Some []) ≡ printed ("slot 3 112 0 " ∷ [])
unfolding text_line present_line part_words width_by
empty_line = refl
