-- `clauses::layouts::lay_one` meets its contract.
use Rattle.std.proofs.lemmas.Result.{err_from_is_err_and}
use Rattle.clauses.proofs.passes.PassLaws.{fine-ok, fine_not}
use Rattle.clauses.proofs.layouts.LayoutLaws.{one_row, one_row_stop, two_rows, two_rows_stop, more_rows}
use Rattle.clauses.proofs.layouts.lay_one.Goals as goal

pub returns-then-h-eq1 : goal.returns-then-h-eq1
returns-then-h-eq1 c = one_row _ _ _ c.if-h-eq1.true (fine-ok _ _ _ c.in_ok-region_at.ensures)

pub returns-in_err-region_at : goal.returns-in_err-region_at
returns-in_err-region_at c =
    let p = err_from_is_err_and c.from_residual.result c.from_residual.ensures.1 in
    rw (p.1, p.2) (one_row_stop _ _ _ c.if-h-eq1.true (fine_not _ _ _ c.in_err-region_at.ensures))

pub returns-then-h-eq2 : goal.returns-then-h-eq2
returns-then-h-eq2 c = two_rows _ _ _ c.if-h-eq1.false c.if-h-eq2.true c.in_ok-labelled.ensures

pub returns-in_err-labelled : goal.returns-in_err-labelled
returns-in_err-labelled c =
    let p = err_from_is_err_and c.from_residual-in_err-labelled.result c.from_residual-in_err-labelled.ensures.1 in
    rw (p.1, p.2) (two_rows_stop _ _ _ c.if-h-eq1.false c.if-h-eq2.true c.in_err-labelled.ensures)

pub returns : goal.returns
returns c = more_rows _ _ _ c.if-h-eq1.false c.if-h-eq2.false
