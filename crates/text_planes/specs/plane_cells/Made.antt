-- What the functions that add to a row answer, with the slice that holds it, or with the writer of its plane.
use Rattle.std.specs.Prelude.{List, ℕ, ◌≤◌, ◌<◌, Ok, Err}
use Rattle.model.specs.Limits.{plane_rows, plane_cells}
use Rattle.model.specs.Refusals.{Reading}
use Rattle.cells.specs.Plane.{cells_in}
use Rattle.cells.specs.declared.plane_writer.PlaneWriter.{PlaneWriter}
use Rattle.text_planes.specs.plane_cells.Row.{Row}
use Rattle.text_planes.specs.declared.plane_cells.RowSofar.{RowSofar}

-- the row so far, as row n of the slice
abbrev pub row_in : RowSofar → List ℕ → ℕ → Row
row_in s d n = record { cells = cells_in d n s.cells; output = s.doubles.output; annotation = s.doubles.annotation }

-- an answer's row
abbrev pub row_made_in : Reading RowSofar → List ℕ → ℕ → Reading Row
row_made_in (Ok s) d n = Ok (row_in s d n)
row_made_in (Err r) d n = Err r

-- the same behind the rows that are ended
abbrev pub row_of : RowSofar → PlaneWriter → Row
row_of s w = row_in s w.cells.now w.rows

abbrev pub row_made : Reading RowSofar → PlaneWriter → Reading Row
row_made m w = row_made_in m w.cells.now w.rows

-- the cells so far fit row n of the plane
pub record RowFit (s : RowSofar) (n : ℕ) : Type 0 where
  pub few : s.cells ≤ plane_cells
  pub low : 0 < s.cells → n < plane_rows

-- the same of an answer's row
abbrev pub RowFits : Reading RowSofar → ℕ → Type 0
RowFits (Ok s) n = RowFit s n
RowFits (Err r) n = Unit {0}
