-- What the functions that add to a plane answer, with its writer.
use Rattle.std.specs.Prelude.{ℕ, Ok, Err, Option}
use Rattle.lists.specs.Choose.{choose}
use Rattle.model.specs.Refusals.{Reading}
use Rattle.model.specs.declared.Cell.{Cell}
use Rattle.cells.specs.Written.{written}
use Rattle.cells.specs.declared.plane_writer.PlaneWriter.{PlaneWriter}
use Rattle.text_planes.specs.plane_cells.Row.{is_at}
use Rattle.text_planes.specs.plane_rows.Rows.{Rows}
use Rattle.text_planes.specs.declared.plane_rows.sofar.PlaneSofar.{PlaneSofar}

-- the rows that are ended, with what is known of them
abbrev pub rows_of : PlaneSofar → PlaneWriter → Rows
rows_of s w = record { plane = written w; width = s.width; output = s.doubles.output; annotation = s.doubles.annotation }

-- an answer's rows, which a line row more leaves as they are known
abbrev pub line_made : Reading (Unit {0}) → PlaneSofar → PlaneWriter → Reading Rows
line_made (Ok u) s w = Ok (rows_of s w)
line_made (Err r) s w = Err r

-- cell i of a line row: the cell at the double line of the outputs, the one at that of the annotations, or any other
abbrev pub line_cell : Cell → Cell → Cell → Option ℕ → Option ℕ → ℕ → Cell
line_cell o a plain output annotation i = choose (is_at output i) o (choose (is_at annotation i) a plain)
