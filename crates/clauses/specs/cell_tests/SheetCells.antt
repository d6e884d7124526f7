-- The cells of an upright sheet, as the clause rules read them: `recognize_horizontal_table` and plane.rs of the Rust.
use Rattle.std.specs.Prelude.{Bool, not, [], ℕ, ◌+◌, eqb, ltb, length, get_or, Ok, Err}
use Rattle.lists.specs.Answer.{◌>>=◌}
use Rattle.lists.specs.Choose.{choose, on_some}
use Rattle.model.specs.Cells.{region_of}
use Rattle.model.specs.Refusals.{Reading}
use Rattle.model.specs.declared.Cell.{Cell}
use Rattle.model.specs.declared.Cell.TheVariants.{Region}
use Rattle.model.specs.declared.Refusal.TheVariants.{CellOutOfRange, CellNotRegion}
use Rattle.cells.specs.Plane.{Plane}
use Rattle.clauses.specs.cell_tests.Readings.{every}

-- how many cells row y has
abbrev pub width_of : Plane → ℕ → ℕ
width_of P y = length (get_or P y [])

-- the cell in row y, column x; Region 0 stands for one that is not there
abbrev pub cell_in : Plane → ℕ → ℕ → Cell
cell_in P y x = get_or (get_or P y []) x (Region 0)

-- the region of the cell in row y, column x: 18 where there is no cell, 19 where it is no region
unfoldable pub region_at : Plane → ℕ → ℕ → Reading ℕ
region_at P y x =
    choose (ltb x (width_of P y)) (on_some (region_of (cell_in P y x)) Ok (Err (CellNotRegion y x))) (Err (CellOutOfRange y x))

-- in column x the cells of rows top and top + 1 are of one region (joined), or of two (not joined); the upper one is read first
unfoldable pub column_is : Bool → Plane → ℕ → ℕ → Reading Bool
column_is joined P top x = do
  a ← region_at P top x
  b ← region_at P (top + 1) x
  Ok (choose joined (eqb a b) (not (eqb a b)))

-- so in each of the n columns from x on
abbrev pub columns_are : Bool → Plane → ℕ → ℕ → ℕ → Reading Bool
columns_are joined P top x n = every (column_is joined P top) x n
