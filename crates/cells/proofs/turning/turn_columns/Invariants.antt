use Prim.Native.Nat.{◌≤◌}
use Rattle.lists.specs.Run.{build}
use Rattle.model.specs.Cells.{turned_cell}
use Rattle.cells.specs.Plane.{cell_at}
use Rattle.cells.proofs.WriterLaws.{PlaneWritten}
use Rattle.cells.proofs.turning.turn_columns.Given as goal

abbrev pub invariant-loop-j : goal.invariant-loop-j
invariant-loop-j l =
    (l.j ≤ l.w) × PlaneWritten (λ k. build l.plane.rows (λ i. turned_cell (cell_at l.plane.cells.now i k))) l.initial.out l.out l.j
