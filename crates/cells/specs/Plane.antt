-- A plane, and the slice of numbers that holds one: 64 lengths of rows, then 64 places a row.
use Rattle.std.specs.Prelude.{List, ◌≡◌, ℕ, ◌+◌, ◌*◌, ◌≤◌, ◌<◌, length, get_or}
use Rattle.lists.specs.Run.{build}
use Rattle.model.specs.Cells.{cell_of}
use Rattle.model.specs.Limits.{plane_rows, plane_cells, plane_size}
use Rattle.model.specs.declared.Cell.{Cell}

-- rows of cells, which need not be equally long
abbrev pub Plane : Type 0
Plane = List (List Cell)

-- where the slice has cell i of a row
abbrev pub place_at : ℕ → ℕ → ℕ
place_at row i = plane_rows + row * plane_cells + i

abbrev pub cell_at : List ℕ → ℕ → ℕ → Cell
cell_at d row i = cell_of (get_or d (place_at row i) 0)

-- the first n cells of a row
unfoldable pub cells_in : List ℕ → ℕ → ℕ → List Cell
cells_in d row n = build n (cell_at d row)

-- a row, as long as its number says
abbrev pub row_in : List ℕ → ℕ → List Cell
row_in d row = cells_in d row (get_or d row 0)

-- the first n rows
unfoldable pub plane_in : List ℕ → ℕ → Plane
plane_in d n = build n (row_in d)

-- a slice that holds a plane of n rows
pub record PlaneFits (d : List ℕ) (n : ℕ) : Type 0 where
  pub room : plane_size ≤ length d
  pub rows : n ≤ plane_rows
  pub cells : (row : ℕ) → row < n → get_or d row 0 ≤ plane_cells

-- the slice d' has what d has before a row's places
pub record KeptBefore (d d' : List ℕ) (row : ℕ) : Type 0 where
  pub same : (j : ℕ) → j < place_at row 0 → get_or d' j 0 ≡ get_or d j 0

-- a plane with the texts of its regions
pub record TextPlane : Type 0 where
  pub plane : Plane
  pub texts : List (List ℕ)
