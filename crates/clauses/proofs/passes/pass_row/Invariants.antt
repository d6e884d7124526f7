use Prim.Native.Nat.{◌+◌}
use Rattle.cells.specs.Slices.{plane_of}
use Rattle.clauses.specs.passes.Passes.{fine}
use Rattle.clauses.proofs.passes.PassLaws.{Passed}
use Rattle.clauses.proofs.passes.pass_row.Given as goal

abbrev pub invariant-loop-i : goal.invariant-loop-i
invariant-loop-i l = Passed (fine (plane_of l.plane) l.y) l.x l.n (l.x + l.i)
