use Rattle.answers.proofs.plane_lines.PlaneLaws.{Rowing}
use Rattle.answers.proofs.plane_lines.put_plane.Given as goal

abbrev pub invariant-loop-row : goal.invariant-loop-row
invariant-loop-row g l = Rowing l.initial.out.items l.plane.cells.now l.plane.rows l.out.items l.row
