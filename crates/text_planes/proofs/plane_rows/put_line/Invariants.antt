use Prim.Native.Nat.{◌≤◌}
use Rattle.cells.proofs.WriterLaws.{RowWritten}
use Rattle.text_planes.specs.plane_rows.Made.{line_cell}
use Rattle.text_planes.proofs.plane_rows.put_line.Given as goal

abbrev pub invariant-loop-i : goal.invariant-loop-i
invariant-loop-i l = (l.i ≤ l.s.width) × RowWritten (line_cell l.l.output l.l.annotation l.l.plain l.s.doubles.output l.s.doubles.annotation) l.initial.plane l.plane l.i
