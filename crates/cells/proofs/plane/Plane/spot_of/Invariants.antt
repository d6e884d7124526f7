use Rattle.cells.proofs.SpotLaws.{SoughtInRows}
use Rattle.cells.proofs.plane.Plane.spot_of.Given as goal

abbrev pub invariant-loop-y : goal.invariant-loop-y
invariant-loop-y l = SoughtInRows l.kind l.self.cells.now l.self.rows l.y
