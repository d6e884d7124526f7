-- A line of a plane in a slice: column 0, or a row; a cell that is not there is missing.
use Rattle.std.specs.Prelude.{List, ℕ, ◌<◌, ltb, get_or, Option, None, Some}
use Rattle.lists.specs.Choose.{choose}
use Rattle.lists.specs.Run.{build}
use Rattle.model.specs.Limits.{plane_rows}
use Rattle.model.specs.declared.Cell.{Cell}
use Rattle.cells.specs.Plane.{cell_at}
use Rattle.plane.specs.declared.rule_numbers.Line.{Line}
use Rattle.plane.specs.declared.rule_numbers.Line.TheVariants.{FirstColumn, Row}

-- the cell in row k of column 0, or in column k of a row
abbrev pub slot_of : List ℕ → Line → ℕ → Option Cell
slot_of d FirstColumn k = choose (ltb 0 (get_or d k 0)) (Some (cell_at d k 0)) None
slot_of d (Row row) k = choose (ltb k (get_or d row 0)) (Some (cell_at d row k)) None

-- the first n of them
unfoldable pub line_of : List ℕ → Line → ℕ → List (Option Cell)
line_of d line n = build n (slot_of d line)

-- a plane has room for the line
abbrev pub OnPlane : Line → Type 0
OnPlane FirstColumn = Unit {0}
OnPlane (Row row) = row < plane_rows
