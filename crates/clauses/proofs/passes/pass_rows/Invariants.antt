use Prim.Native.Nat.{◌-◌}
use Rattle.cells.specs.Slices.{plane_of}
use Rattle.clauses.specs.passes.Passes.{fine_row}
use Rattle.clauses.proofs.passes.PassLaws.{Passed}
use Rattle.clauses.proofs.passes.pass_rows.Given as goal

abbrev pub invariant-loop-k : goal.invariant-loop-k
invariant-loop-k l = Passed (λ j. fine_row (plane_of l.plane) j l.x l.n) l.y (l.plane.rows - l.y) l.k
