use Rattle.cells.specs.Slices.{plane_of}
use Rattle.clauses.specs.allowed.Met.{met_above}
use Rattle.clauses.proofs.allowed.MetLaws.{Meeting}
use Rattle.clauses.proofs.allowed.row_apart.Given as goal

abbrev pub invariant-loop-i : goal.invariant-loop-i
invariant-loop-i l =
    let d = l.plane.cells.now in
    Meeting (plane_of l.plane) d l.y l.x l.n (met_above d l.y l.x l.n) l.i
