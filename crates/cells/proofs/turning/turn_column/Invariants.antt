use Prim.Native.Nat.{◌≤◌}
use Rattle.model.specs.Cells.{turned_cell}
use Rattle.cells.specs.Plane.{cell_at}
use Rattle.cells.proofs.WriterLaws.{RowWritten}
use Rattle.cells.proofs.turning.turn_column.Given as goal

abbrev pub invariant-loop-i : goal.invariant-loop-i
invariant-loop-i l = (l.i ≤ l.plane.rows) × RowWritten (λ k. turned_cell (cell_at l.plane.cells.now k l.j)) l.initial.out l.out l.i
