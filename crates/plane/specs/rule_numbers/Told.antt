-- What the functions of rule numbers answer, and the lines that they are handed.
use Rattle.std.specs.Prelude.{List, ◌≡◌, ℕ, ◌≤◌, ◌<◌, Some, Ok, Err}
use Rattle.model.specs.Limits.{plane_rows}
use Rattle.model.specs.Refusals.{Reading}
use Rattle.model.specs.declared.Cell.TheVariants.{Region}
use Rattle.plane.specs.rule_numbers.Line.{slot_of, OnPlane}
use Rattle.plane.specs.declared.rule_numbers.Line.{Line}

-- a line of n cells, whose regions are among `count`
pub record LineHeld (plane : List ℕ) (line : Line) (n count : ℕ) : Type 0 where
  pub room : OnPlane line
  pub few : n ≤ plane_rows
  pub regions : (k r : ℕ) → k < n → slot_of plane line k ≡ Some (Region r) → r < count

abbrev pub PlaceFits : Reading ℕ → ℕ → Type 0
PlaceFits (Ok k) n = k ≤ n
PlaceFits (Err r) n = Unit {0}
