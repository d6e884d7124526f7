-- `clauses::layouts::lay_labelled` meets its contract.
use Rattle.std.proofs.lemmas.Result.{err_from_is_err_and}
use Rattle.clauses.proofs.passes.PassLaws.{fine-ok, fine_not}
use Rattle.clauses.proofs.layouts.LayoutLaws.{read_if, read_not, label_stop, labelled_names, labelled_values, labelled_as}
use Rattle.clauses.proofs.layouts.lay_labelled.Goals as goal

pub returns-in_err-region_at : goal.returns-in_err-region_at
returns-in_err-region_at c =
    let p = err_from_is_err_and c.from_residual.result c.from_residual.ensures.1 in
    rw (p.1, p.2) (label_stop _ _ _ _ (fine_not _ _ _ c.in_err-region_at.ensures))

pub returns-in_err-pass_row : goal.returns-in_err-pass_row
returns-in_err-pass_row c =
    let p = err_from_is_err_and c.from_residual-in_err-pass_row.result c.from_residual-in_err-pass_row.ensures.1 in
    rw (p.1, p.2) (labelled_names _ _ _ _ (fine-ok _ _ _ c.in_ok-region_at.ensures) c.in_err-pass_row.ensures)

pub returns-in_err-pass_row-2 : goal.returns-in_err-pass_row-2
returns-in_err-pass_row-2 c =
    let p = err_from_is_err_and c.from_residual-in_err-pass_row-2.result c.from_residual-in_err-pass_row-2.ensures.1 in
    rw (p.1, p.2) (labelled_values _ _ _ _ (fine-ok _ _ _ c.in_ok-region_at.ensures) c.in_ok-pass_row.ensures (read_if _ c.if-valued.true c.in_err-pass_row-2.ensures))

pub returns-in_ok-pass_row-2 : goal.returns-in_ok-pass_row-2
returns-in_ok-pass_row-2 c =
    labelled_as _ _ _ _ (fine-ok _ _ _ c.in_ok-region_at.ensures) c.in_ok-pass_row.ensures (read_if _ c.if-valued.true c.in_ok-pass_row-2.ensures)

pub returns-else-valued : goal.returns-else-valued
returns-else-valued c =
    labelled_as _ _ _ _ (fine-ok _ _ _ c.in_ok-region_at.ensures) c.in_ok-pass_row.ensures (read_not _ c.if-valued.false)
