use lib.ListN.{length}
use Rattle.scan.specs.sheet_rows.Found.{rows_in}
use Rattle.scan.specs.Rows.{blank}
use Rattle.scan.proofs.Writing.{Writing}
use Rattle.scan.proofs.write_rows.Given as goal

abbrev pub invariant-loop-r : goal.invariant-loop-r
invariant-loop-r l =
    Writing (λ t. t) (rows_in l.s l.rows (length l.rows)) l.width l.initial.text l.text l.r × Writing blank (rows_in l.s l.rows (length l.rows)) l.width l.initial.body l.body l.r
