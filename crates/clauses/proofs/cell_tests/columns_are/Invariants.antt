use Rattle.cells.specs.Slices.{plane_of}
use Rattle.clauses.specs.cell_tests.SheetCells.{column_is}
use Rattle.clauses.proofs.cell_tests.TestLaws.{Every}
use Rattle.clauses.proofs.cell_tests.columns_are.Given as goal

abbrev pub invariant-loop-i : goal.invariant-loop-i
invariant-loop-i l = Every (column_is l.joined (plane_of l.plane) l.top) l.x l.n l.i
