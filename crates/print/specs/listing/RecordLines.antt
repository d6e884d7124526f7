-- The lines of a record, from its bytes: document 01, "Table record".
use Rattle.std.specs.Prelude.{Bool, ◌&&◌, List, [], ◌∷◌, ◌++◌, ℕ, zero, suc, ◌+◌, ◌*◌, ◌≤◌, ◌<◌, eqb, length, take, drop}
use Rattle.lists.specs.Choose.{choose}
use Rattle.record.specs.Compared.{word_at}
use Rattle.record.specs.Record.{slot_offset, text_offset}
use Rattle.record.specs.Slots.{slot_limit}
use Rattle.print.specs.Decimal.{decimal}
use Rattle.print.specs.Lines.{blank, line_feed, count_line}

-- the slot count
abbrev pub slots_held : List ℕ → ℕ
slots_held r = word_at r 32

-- the offset, the length and the text of slot i
abbrev pub offset_of : List ℕ → ℕ → ℕ
offset_of r i = word_at r (slot_offset + 8 * i)

abbrev pub length_of : List ℕ → ℕ → ℕ
length_of r i = word_at r (slot_offset + 8 * i + 4)

abbrev pub text_of : List ℕ → ℕ → List ℕ
text_of r i = take (length_of r i) (drop (offset_of r i) r)

-- absent is 0, 0
abbrev pub is_absent : ℕ → ℕ → Bool
is_absent offset size = eqb offset 0 && eqb size 0

-- "slot "
abbrev pub slot_word : List ℕ
slot_word = 0x73 ∷ 0x6C ∷ 0x6F ∷ 0x74 ∷ 0x20 ∷ []

-- " absent" and a line feed
abbrev pub absent_word : List ℕ
absent_word = 0x20 ∷ 0x61 ∷ 0x62 ∷ 0x73 ∷ 0x65 ∷ 0x6E ∷ 0x74 ∷ line_feed ∷ []

-- slot I absent
unfoldable pub absent_line : ℕ → List ℕ
absent_line i = slot_word ++ (decimal i ++ absent_word)

-- OFFSET LENGTH TEXT, each behind a blank, and a line feed
unfoldable pub part_words : ℕ → ℕ → List ℕ → List ℕ
part_words offset size text =
    (blank ∷ decimal offset) ++ ((blank ∷ decimal size) ++ ((blank ∷ []) ++ (text ++ (line_feed ∷ []))))

-- slot I OFFSET LENGTH TEXT
unfoldable pub present_line : ℕ → ℕ → ℕ → List ℕ → List ℕ
present_line i offset size text = slot_word ++ (decimal i ++ part_words offset size text)

-- the line of slot i
unfoldable pub slot_line : List ℕ → ℕ → List ℕ
slot_line r i =
    choose (is_absent (offset_of r i) (length_of r i)) (absent_line i) (present_line i (offset_of r i) (length_of r i) (text_of r i))

-- the lines of n slots from i on
unfoldable pub slot_lines : List ℕ → ℕ → ℕ → List ℕ
slot_lines r i zero = []
slot_lines r i (suc n) = slot_line r i ++ slot_lines r (suc i) n

-- "bytes "
abbrev pub bytes_word : List ℕ
bytes_word = 0x62 ∷ 0x79 ∷ 0x74 ∷ 0x65 ∷ 0x73 ∷ 0x20 ∷ []

-- "policy "
abbrev pub policy_word : List ℕ
policy_word = 0x70 ∷ 0x6F ∷ 0x6C ∷ 0x69 ∷ 0x63 ∷ 0x79 ∷ 0x20 ∷ []

-- "orientation "
abbrev pub orientation_word : List ℕ
orientation_word = 0x6F ∷ 0x72 ∷ 0x69 ∷ 0x65 ∷ 0x6E ∷ 0x74 ∷ 0x61 ∷ 0x74 ∷ 0x69 ∷ 0x6F ∷ 0x6E ∷ 0x20 ∷ []

-- "inputs "
abbrev pub inputs_word : List ℕ
inputs_word = 0x69 ∷ 0x6E ∷ 0x70 ∷ 0x75 ∷ 0x74 ∷ 0x73 ∷ 0x20 ∷ []

-- "outputs "
abbrev pub outputs_word : List ℕ
outputs_word = 0x6F ∷ 0x75 ∷ 0x74 ∷ 0x70 ∷ 0x75 ∷ 0x74 ∷ 0x73 ∷ 0x20 ∷ []

-- "annotations "
abbrev pub annotations_word : List ℕ
annotations_word = 0x61 ∷ 0x6E ∷ 0x6E ∷ 0x6F ∷ 0x74 ∷ 0x61 ∷ 0x74 ∷ 0x69 ∷ 0x6F ∷ 0x6E ∷ 0x73 ∷ 0x20 ∷ []

-- "rules "
abbrev pub rules_word : List ℕ
rules_word = 0x72 ∷ 0x75 ∷ 0x6C ∷ 0x65 ∷ 0x73 ∷ 0x20 ∷ []

-- the counts of a table, a line each
unfoldable pub count_lines : ℕ → ℕ → ℕ → ℕ → List ℕ
count_lines inputs outputs annotations rules =
    count_line inputs_word inputs ++ (count_line outputs_word outputs ++ (count_line annotations_word annotations ++ count_line rules_word rules))

-- total bytes, policy and orientation in front of the lines of the counts
unfoldable pub head_lines : ℕ → ℕ → ℕ → List ℕ → List ℕ
head_lines total policy orientation counts =
    count_line bytes_word total ++ (count_line policy_word policy ++ (count_line orientation_word orientation ++ counts))

-- the counts among the words of a record
abbrev pub counts_read : List ℕ → List ℕ
counts_read r = count_lines (word_at r 12) (word_at r 16) (word_at r 20) (word_at r 24)

-- its first seven words
abbrev pub head_read : List ℕ → List ℕ
head_read r = head_lines (word_at r 0) (word_at r 4) (word_at r 8) (counts_read r)

-- the lines of a record: its numbers, and its slots in order
unfoldable pub record_lines : List ℕ → List ℕ
record_lines r = head_read r ++ slot_lines r 0 (slots_held r)

-- the lengths of n slots from i on, added up
unfoldable pub lengths : List ℕ → ℕ → ℕ → ℕ
lengths r i zero = 0
lengths r i (suc n) = length_of r i + lengths r (suc i) n

-- what reading a record's bytes asks of them
pub record Sound (r : List ℕ) : Type 0 where
  pub whole : text_offset (slots_held r) ≤ length r
  pub few : slots_held r ≤ slot_limit
  pub inside : (i : ℕ) → i < slots_held r → offset_of r i + length_of r i ≤ length r
  pub packed : lengths r 0 (slots_held r) ≤ length r

-- room for the four counts, and for all seven numbers, behind their words
abbrev pub count_room : ℕ
count_room = 117

abbrev pub head_room : ℕ
head_room = 205

-- room for the lines of a record in n bytes: the numbers, 69 for each of 4,160 slots, and the texts
abbrev pub line_room : ℕ → ℕ
line_room n = 287245 + n
