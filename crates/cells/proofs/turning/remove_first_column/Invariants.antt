use Prim.Native.Nat.{◌≤◌}
use lib.ListN.{drop}
use Rattle.cells.specs.Plane.{row_in}
use Rattle.cells.proofs.WriterLaws.{PlaneWritten}
use Rattle.cells.proofs.turning.remove_first_column.Given as goal

abbrev pub invariant-loop-row : goal.invariant-loop-row
invariant-loop-row l = (l.row ≤ l.plane.rows) × PlaneWritten (λ k. drop 1 (row_in l.plane.cells.now k)) l.initial.out l.out l.row
