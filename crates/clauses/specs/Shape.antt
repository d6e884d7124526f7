-- The clause rules apart: every refusal in its order, and where everything stands on the sheet. No reader has to believe this: it is
-- shown that with the texts it is `clauses_of`.
use Rattle.std.specs.Prelude.{Bool, not, ◌&&◌, ℕ, ◌+◌, ◌-◌, ltb, length, Option, None, Some, Ok}
use Rattle.lists.specs.Answer.{◌>>=◌, ◌>>◌}
use Rattle.lists.specs.Choose.{choose}
use Rattle.model.specs.Refusals.{Reading}
use Rattle.model.specs.declared.Cell.TheVariants.{MainDoubleCrossing, HorizontalDoubleCrossing}
use Rattle.model.specs.declared.Refusal.TheVariants.{PlaneMalformed, InvalidSize}
use Rattle.cells.specs.Plane.{Plane}
use Rattle.clauses.specs.cell_tests.Readings.{refuse}
use Rattle.clauses.specs.cell_tests.SheetCells.{width_of}
use Rattle.clauses.specs.allowed.Allowed.{allowed_of}
use Rattle.clauses.specs.passes.Passes.{fine_row, fine_rows}
use Rattle.clauses.specs.layouts.Layouts.{layout_of}
use Rattle.clauses.specs.Clauses.{main_of, outputs_end}
use Rattle.cells.specs.declared.place.Place.{Place}
use Rattle.cells.specs.Places.{place_of}
use Rattle.clauses.specs.Sizes.{differ}
use Rattle.clauses.specs.declared.Notes.{Notes}
use Rattle.clauses.specs.declared.Shape.{Shape}

-- of the thirteen checks these two can fail, with so many rows
unfoldable pub sizes_of : ℕ → ℕ → Shape → Reading (Unit {0})
sizes_of rows rules s = do
  refuse (differ (rows - (s.height + 1)) rules) (InvalidSize 8)
  refuse (ltb 0 s.notes.count && differ (rows - s.notes.row) rules) (InvalidSize 12)

module _ (P : Plane) where
  -- how many annotations there are, and the column and the row where their entries start
  unfoldable pub notes_at : Option Place → Reading Notes
  notes_at None = Ok (record { count = 0; col = 0; row = length P })
  notes_at (Some q) = do
    refuse (not (ltb q.col (width_of P 0))) PlaneMalformed
    fine_row P 0 (q.col + 1) (width_of P 0 - (q.col + 1))
    fine_rows P (q.row + 1) (q.col + 1) (width_of P 0 - (q.col + 1))
    Ok (record { count = width_of P 0 - (q.col + 1); col = q.col + 1; row = q.row + 1 })

  -- the cells of n inputs under h clause rows, with allowed values or without
  unfoldable pub inputs_fine : ℕ → ℕ → Bool → Reading (Unit {0})
  inputs_fine n h allowed = do
    fine_row P 0 0 n
    choose allowed (fine_row P (h - 1) 0 n) (Ok tt)
    fine_rows P (h + 1) 0 n

  -- n inputs and m outputs under h clause rows
  unfoldable pub clauses_at : ℕ → ℕ → ℕ → Option Place → Reading Shape
  clauses_at n m h notes = do
    allowed ← allowed_of P n m h
    inputs_fine n h allowed
    l ← layout_of P (n + 1) m h allowed
    fine_rows P (h + 1) (n + 1) m
    a ← notes_at notes
    Ok (record { inputs = n; outputs = m; height = h; allowed = allowed; layout = l; notes = a })

  unfoldable pub shape_of : Option Place → Option Place → Reading Shape
  shape_of main notes = do
    p ← main_of main
    refuse (not (ltb p.col (outputs_end P notes))) PlaneMalformed
    clauses_at p.col (outputs_end P notes - (p.col + 1)) p.row notes

  unfoldable pub checked_shape : ℕ → Reading Shape
  checked_shape rules = do
    s ← shape_of (place_of MainDoubleCrossing P) (place_of HorizontalDoubleCrossing P)
    sizes_of (length P) rules s
    Ok s
