use Rattle.clauses.proofs.allowed.MetLaws.{Looked}
use Rattle.clauses.proofs.allowed.is_among.Given as goal

abbrev pub invariant-loop-i : goal.invariant-loop-i
invariant-loop-i l = Looked l.plane.cells.now l.y l.x l.n l.a l.i
