-- Texts written as slots, one behind the other.
use Rattle.std.specs.Prelude.{List, ◌≡◌, ℕ, ◌+◌, ◌*◌, ◌≤◌, ◌<◌, length, get_or, take, drop}
use Rattle.model.specs.Limits.{text_bytes}
use Rattle.record.specs.Policy.{Text}
use Rattle.record.specs.Record.{packed, bytes_of}
use Rattle.record.specs.Slots.{kind_at, offset_at, length_at, slot_limit}
use Rattle.record.specs.writer.SlotTexts.{text_of_kind, texts_from}
use Rattle.recognizer.specs.declared.slot_runs.Filled.{Filled}
use Rattle.recognizer.specs.declared.slot_runs.Part.{Part}
use Rattle.recognizer.specs.declared.slot_runs.Slots.{Slots}

-- a part of the bytes
abbrev pub part_of : List ℕ → Part → List ℕ
part_of bytes p = take p.size (drop p.offset bytes)

pub record PartIn (p : Part) (bytes : List ℕ) : Type 0 where
  pub inside : p.offset + p.size ≤ length bytes
  pub few : length bytes ≤ text_bytes

-- a slot of kind k names the part p of the bytes: its text is t, of n bytes
pub record Names (bytes : List ℕ) (k : ℕ) (p : Part) (n : ℕ) (t : Text) : Type 0 where
  pub text : text_of_kind k (part_of bytes p) ≡ t
  pub size : n ≡ length (bytes_of t)
  pub inside : p.offset + p.size ≤ length bytes
  pub short : n ≤ text_bytes

-- one slot's numbers are written, and nothing else changed
pub record SlotPut (d o : List ℕ) (at k a n : ℕ) : Type 0 where
  pub long : length o ≡ length d
  pub kind : kind_at o at ≡ k
  pub offset : offset_at o at ≡ a
  pub size : length_at o at ≡ n
  pub kept : (j : ℕ) → j < 3 * at → get_or o j 0 ≡ get_or d j 0
  pub behind : (j : ℕ) → 3 * at + 3 ≤ j → get_or o j 0 ≡ get_or d j 0

-- room for n slots more
pub record Room (from : Filled) (n : ℕ) (d : List ℕ) : Type 0 where
  pub slots : 3 * (from.slot + n) ≤ length d
  pub few : from.slot + n ≤ slot_limit
  pub light : from.bytes ≤ from.slot * text_bytes

-- the slots behind `from` and before `to` spell the texts ts, which take so many bytes more
pub record Spelt (bytes d o : List ℕ) (from to : Filled) (ts : List Text) : Type 0 where
  pub long : length o ≡ length d
  pub texts : texts_from bytes o from.slot (length ts) ≡ ts
  pub slots : to.slot ≡ from.slot + length ts
  pub total : to.bytes ≡ from.bytes + length (packed ts)
  pub light : from.bytes ≤ from.slot * text_bytes → to.bytes ≤ to.slot * text_bytes
  pub kept : (j : ℕ) → j < 3 * from.slot → get_or o j 0 ≡ get_or d j 0
  pub inside : (i : ℕ) → from.slot ≤ i → i < to.slot → offset_at o i + length_at o i ≤ length bytes

-- room for n slots more behind what is filled
abbrev pub HasRoom : Slots → ℕ → Type 0
HasRoom s n = Room s.filled n s.numbers.now

-- the texts ts are put behind what was filled, into the same slice
pub record Appended (bytes : List ℕ) (s t : Slots) (ts : List Text) : Type 0 where
  pub same : t.numbers.ghost_name ≡ s.numbers.ghost_name
  pub spelt : Spelt bytes s.numbers.now t.numbers.now s.filled t.filled ts
