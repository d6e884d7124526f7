use Rattle.cells.proofs.SpotLaws.{SoughtInRow}
use Rattle.cells.proofs.plane.Plane.spot_in_row.Given as goal

abbrev pub invariant-loop-x : goal.invariant-loop-x
invariant-loop-x l = SoughtInRow l.kind l.self.cells.now l.y l.x
