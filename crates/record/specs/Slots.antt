-- Slots in a work slice, three numbers each: kind, offset, length. Kind 0 is absent, 1 a part of the texts; the text of a slot of any other kind is written by the caller.
use Rattle.std.specs.Prelude.{List, ℕ, ◌+◌, ◌*◌, get_or, take, drop}

-- the kind, offset and length of slot i
abbrev pub kind_at : List ℕ → ℕ → ℕ
kind_at d i = get_or d (3 * i) 0

abbrev pub offset_at : List ℕ → ℕ → ℕ
offset_at d i = get_or d (3 * i + 1) 0

abbrev pub length_at : List ℕ → ℕ → ℕ
length_at d i = get_or d (3 * i + 2) 0

-- the part of the texts that slot i names
abbrev pub part_at : List ℕ → List ℕ → ℕ → List ℕ
part_at s d i = take (length_at d i) (drop (offset_at d i) s)

-- no sheet of 64 rows of 64 cells has more slots: 2 + 3 · 63 + 63 · 63
abbrev pub slot_limit : ℕ
slot_limit = 4160
