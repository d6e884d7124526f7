-- A plane with the texts of its regions in slices.
use Rattle.std.specs.Prelude.{List, ◌≡◌, ℕ, ◌+◌, ◌*◌, ◌≤◌, ◌<◌, length, get_or}
use Rattle.model.specs.declared.Cell.{Cell}
use Rattle.model.specs.declared.Cell.TheVariants.{Region}
use Rattle.cells.specs.Plane.{cell_at, PlaneFits}
use Rattle.cells.specs.Spans.{offset_at, length_at}

-- the plane of n rows fits its slice, its regions are among `count`, and their texts lie in the bytes
pub record Held (d : List ℕ) (n : ℕ) (bytes spans : List ℕ) (count : ℕ) : Type 0 where
  pub fits : PlaneFits d n
  pub regions : (row i r : ℕ) → row < n → i < get_or d row 0 → cell_at d row i ≡ Region r → r < count
  pub two_each : count * 2 ≤ length spans
  pub inside : (k : ℕ) → k < count → offset_at spans k + length_at spans k ≤ length bytes

-- the first `count` texts lie in the bytes
pub record TextsHeld (bytes spans : List ℕ) (count : ℕ) : Type 0 where
  pub two_each : count * 2 ≤ length spans
  pub inside : (k : ℕ) → k < count → offset_at spans k + length_at spans k ≤ length bytes

-- a cell that is a region has a number below n
abbrev pub Numbered : ℕ → Cell → Type 0
Numbered n c = (r : ℕ) → c ≡ Region r → r < n
