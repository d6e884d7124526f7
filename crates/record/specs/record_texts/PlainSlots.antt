-- Plain slots of a work slice, which are absent or a part of the texts: their texts, and where they fit a record slice.
use Rattle.std.specs.Prelude.{List, ℕ, zero, suc, ◌+◌, ◌*◌, ◌^◌, ◌≤◌, ◌<◌, ◌≡◌, length, None, Some}
use Rattle.record.specs.Policy.{Text}
use Rattle.record.specs.Record.{packed, text_offset}
use Rattle.record.specs.Slots.{kind_at, offset_at, length_at, part_at, slot_limit}

-- the text of slot i, where it is absent or a part of the texts s
abbrev pub of_kind : ℕ → List ℕ → Text
of_kind zero b = None
of_kind (suc k) b = Some b

unfoldable pub text_at : List ℕ → List ℕ → ℕ → Text
text_at s d i = of_kind (kind_at d i) (part_at s d i)

-- c slots in a slice; each part lies within the texts
pub record Parts (s d : List ℕ) (c : ℕ) : Type 0 where
  pub room : 3 * c ≤ length d
  pub few : c ≤ slot_limit
  pub inside : (i : ℕ) → i < c → kind_at d i ≡ 1 → offset_at d i + length_at d i ≤ length s

-- the texts ts, from slot i of c on, fit a slice of n bytes from the offset o on, behind all slots
pub record Fits (ts : List Text) (c i o n : ℕ) : Type 0 where
  pub along : i ≤ c
  pub behind : text_offset c ≤ o
  pub room : o + length (packed ts) ≤ n
  pub small : o + length (packed ts) < 2 ^ 32
