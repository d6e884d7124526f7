use Prim.Native.Nat.{◌+◌, ◌≤◌}
use Rattle.cells.proofs.WriterLaws.{RowWritten}
use Rattle.plane.proofs.lent.KindLaws.{lent_cell}
use Rattle.plane.proofs.lent.load_row.Given as goal

abbrev pub invariant-loop-i : goal.invariant-loop-i
invariant-loop-i l = (l.i ≤ l.n) × RowWritten (λ k. lent_cell l.l.kinds.now l.l.regions.now (l.at + k)) l.initial.plane l.plane l.i
