-- What the functions that seek the end of a line answer.
use Rattle.std.specs.Prelude.{List, ◌≡◌, ℕ, ◌≤◌, ◌<◌, length, get_or, drop}
use Rattle.characters.specs.utf8.Utf8.{codes}
use Rattle.characters.specs.white_space.Lines.{after}

-- the bytes from one place up to another are ASCII from 0x20 on
pub record Plain (s : List ℕ) (at to : ℕ) : Type 0 where
  pub bytes : (p : ℕ) → at ≤ p → p < to → (0x20 ≤ get_or s p 0) × (get_or s p 0 ≤ 0x7F)

-- the line that is read from `from` on ends, and the next starts at `next`
pub record NextFrom (s : List ℕ) (from next : ℕ) : Type 0 where
  pub onward : codes (drop next s) ≡ after (codes (drop from s))
  pub inside : next ≤ length s
  pub along : from ≤ next
  pub further : from < length s → from < next
