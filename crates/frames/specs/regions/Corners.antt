-- The corners of a list of characters.
use Rattle.std.specs.Prelude.{Bool, true, false, List, ◌≡◌, ℕ, ◌≤◌, ◌<◌, get_or}
use Rattle.frames.specs.regions.Regions.{is_corner}

-- whether a corner stands at place i
abbrev pub corner_in : List ℕ → ℕ → Bool
corner_in d i = is_corner (get_or d i 0)

-- no corner stands from place i to place k
pub record Seeking (corner : ℕ → Bool) (size i k : ℕ) : Type 0 where
  pub from : i ≤ k
  pub to : k ≤ size
  pub clear : (j : ℕ) → i ≤ j → j < k → corner j ≡ false

-- k is the first place from place i on at which a corner stands, or `size` where none stands before it
pub record NextCorner (corner : ℕ → Bool) (size i k : ℕ) : Type 0 where
  pub from : i ≤ k
  pub to : k ≤ size
  pub clear : (j : ℕ) → i ≤ j → j < k → corner j ≡ false
  pub found : k < size → corner k ≡ true
