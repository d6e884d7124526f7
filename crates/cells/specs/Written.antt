-- A plane that is written row by row, as its writer shows it.
use Rattle.std.specs.Prelude.{List, [], ◌∷◌, ◌++◌, ◌≡◌, ℕ, ◌+◌, Ok, Err}
use Rattle.model.specs.Refusals.{Reading}
use Rattle.model.specs.declared.Cell.{Cell}
use Rattle.cells.specs.Plane.{Plane, cells_in, plane_in, KeptBefore}
use Rattle.cells.specs.declared.plane_writer.PlaneWriter.{PlaneWriter}

-- the rows that are ended
abbrev pub written : PlaneWriter → Plane
written w = plane_in w.cells.now w.rows

-- the first n cells of the row behind them
abbrev pub next_row : PlaneWriter → ℕ → List Cell
next_row w n = cells_in w.cells.now w.rows n

-- an answer's plane
abbrev pub plane_written : Reading (Unit {0}) → PlaneWriter → Reading Plane
plane_written (Ok u) w = Ok (written w)
plane_written (Err r) w = Err r

-- t writes into the slice that s writes into
abbrev pub SameSlice : PlaneWriter → PlaneWriter → Type 0
SameSlice s t = t.cells.ghost_name ≡ s.cells.ghost_name

-- t has the rows of s, in the same slice; only its next row may be another
pub record Kept (s t : PlaneWriter) : Type 0 where
  pub same : SameSlice s t
  pub rows : t.rows ≡ s.rows
  pub before : KeptBefore s.cells.now t.cells.now s.rows

-- t has one row more than s, in the same slice: the first n cells of the next row of s
pub record Ended (s t : PlaneWriter) (n : ℕ) : Type 0 where
  pub same : SameSlice s t
  pub rows : t.rows ≡ s.rows + 1
  pub plane : written t ≡ written s ++ (next_row s n ∷ [])

-- t has the rows of P, in the slice of s
pub record Holds (s t : PlaneWriter) (P : Plane) : Type 0 where
  pub same : SameSlice s t
  pub plane : written t ≡ P
