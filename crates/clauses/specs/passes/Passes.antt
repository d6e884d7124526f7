-- Cells of a sheet that are all regions: document 01, refusals 18 and 19 (cell out of range, not a region), in their order.
use Rattle.std.specs.Prelude.{ℕ, ◌-◌, length, Ok}
use Rattle.lists.specs.Answer.{◌>>◌}
use Rattle.model.specs.Refusals.{Reading}
use Rattle.cells.specs.Plane.{Plane}
use Rattle.clauses.specs.cell_tests.SheetCells.{region_at}
use Rattle.clauses.specs.passes.Readings.{pass}

module _ (P : Plane) where
  -- a cell is a region
  unfoldable pub fine : ℕ → ℕ → Reading (Unit {0})
  fine y x = do
    region_at P y x
    Ok tt

  -- so are the n cells of row y from column x on
  abbrev pub fine_row : ℕ → ℕ → ℕ → Reading (Unit {0})
  fine_row y x n = pass (fine y) x n

  -- and those of each row from y on
  abbrev pub fine_rows : ℕ → ℕ → ℕ → Reading (Unit {0})
  fine_rows y x n = pass (λ k. fine_row k x n) y (length P - y)
