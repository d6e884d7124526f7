-- `clauses::cell_tests::column_is` meets its contract.
use Rattle.std.proofs.lemmas.Result.{err_from_is_err_and}
use Rattle.clauses.proofs.cell_tests.TestLaws.{column_upper, column_lower, column-same, column_other}
use Rattle.clauses.proofs.cell_tests.column_is.Goals as goal

pub returns-in_err-a : goal.returns-in_err-a
returns-in_err-a c =
    let p = err_from_is_err_and c.from_residual.result c.from_residual.ensures.1 in
    rw (p.1, p.2) (column_upper _ _ _ _ c.in_err-a.ensures)

pub returns-in_err-b : goal.returns-in_err-b
returns-in_err-b c =
    let p = err_from_is_err_and c.from_residual-in_err-b.result c.from_residual-in_err-b.ensures.1 in
    rw (p.1, p.2) (column_lower _ _ _ _ c.in_ok-a.ensures c.in_err-b.ensures)

pub returns-then-a-b : goal.returns-then-a-b
returns-then-a-b c = column-same _ _ _ _ c.in_ok-a.ensures c.in_ok-b.ensures c.if-a-b.true

pub returns : goal.returns
returns c = column_other _ _ _ _ c.in_ok-a.ensures c.in_ok-b.ensures c.if-a-b.false
