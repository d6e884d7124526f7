-- What a record slice holds while a record is written to it, and what beginning a record answers.
use Rattle.std.specs.Prelude.{List, ℕ, ◌+◌, ◌*◌, ltb, length, take, Ok, Err}
use Rattle.lists.specs.Choose.{choose}
use Rattle.lists.specs.Put.{put}
use Rattle.model.specs.declared.Refusal.TheVariants.{OutputSliceShort}
use Rattle.model.specs.Refusals.{Reading}
use Rattle.record.specs.Policy.{Text}
use Rattle.record.specs.Record.{Table, words, head_words, slots_of, packed, slot_offset, text_offset, slots_in}

-- a slice of n bytes for a record of t: number 27 where it is too short
abbrev pub begun_of : ℕ → ℕ → Reading ℕ
begun_of n t = choose (ltb n t) (Err (OutputSliceShort t)) (Ok t)

-- the slice d afterwards: as it was, or with the ten words ws in front
abbrev pub headed : List ℕ → ℕ → List ℕ → List ℕ
headed d t ws = choose (ltb (length d) t) d (put d 0 (words ws))

-- d with the slots of ts from slot i on, and their bytes from the running offset o on
unfoldable pub with_texts : List ℕ → ℕ → ℕ → List Text → List ℕ
with_texts d i o ts = put (put d (slot_offset + 8 * i) (slots_of o ts)) o (packed ts)

-- d with a table's header and the slots and bytes of its first i texts
unfoldable pub written_to : List ℕ → Table → ℕ → List ℕ
written_to d t i = with_texts (put d 0 (words (head_words t))) 0 (text_offset (slots_in t)) (take i t.texts)
