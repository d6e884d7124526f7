use Prim.Native.Nat.{◌+◌, ◌≤◌}
use Rattle.cells.specs.Plane.{cell_at}
use Rattle.cells.proofs.WriterLaws.{RowWritten}
use Rattle.cells.proofs.turning.copy_row.Given as goal

abbrev pub invariant-loop-i : goal.invariant-loop-i
invariant-loop-i l = (l.i ≤ l.n) × RowWritten (λ k. cell_at l.plane.cells.now l.row (k + 1)) l.initial.out l.out l.i
