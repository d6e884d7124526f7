use Rattle.plane.proofs.rule_numbers.PlaceLaws.{Looked}
use Rattle.plane.proofs.rule_numbers.place_behind.Given as goal

abbrev pub invariant-loop-k : goal.invariant-loop-k
invariant-loop-k l = Looked l.plane.cells.now l.line l.n l.kind l.k
