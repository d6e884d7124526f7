use Rattle.answers.proofs.plane_lines.PlaneLaws.{Celling}
use Rattle.answers.proofs.plane_lines.put_cells.Given as goal

abbrev pub invariant-loop-i : goal.invariant-loop-i
invariant-loop-i g l = Celling l.initial.out.items l.plane.cells.now l.row l.count l.out.items l.i
