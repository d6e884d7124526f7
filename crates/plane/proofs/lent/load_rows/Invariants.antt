use mathlib.Core.Path.{◌≡◌}
use Prim.Native.Nat.{◌≤◌}
use lib.ListN.{length}
use Rattle.cells.proofs.WriterLaws.{PlaneWritten}
use Rattle.plane.proofs.lent.SumLaws.{start_of}
use Rattle.plane.proofs.lent.CutLaws.{row_cells}
use Rattle.plane.proofs.lent.KindLaws.{lent_cell}
use Rattle.plane.proofs.lent.load_rows.Given as goal

abbrev pub invariant-loop-row : goal.invariant-loop-row
invariant-loop-row l = (l.row ≤ length l.l.rows.now) × (l.at ≡ start_of l.l.rows.now l.row) × PlaneWritten (row_cells l.l.rows.now (lent_cell l.l.kinds.now l.l.regions.now)) l.initial.plane l.plane l.row
