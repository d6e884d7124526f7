-- `clauses::layouts::lay_named` meets its contract.
use Rattle.std.proofs.lemmas.Result.{err_from_is_err_and}
use Rattle.clauses.proofs.layouts.LayoutLaws.{read_if, read_not, named_stop, named-values, named_as}
use Rattle.clauses.proofs.layouts.lay_named.Goals as goal

pub returns-in_err-pass_row : goal.returns-in_err-pass_row
returns-in_err-pass_row c =
    let p = err_from_is_err_and c.from_residual.result c.from_residual.ensures.1 in
    rw (p.1, p.2) (named_stop _ _ _ _ c.in_err-pass_row.ensures)

pub returns-in_err-pass_row-2 : goal.returns-in_err-pass_row-2
returns-in_err-pass_row-2 c =
    let p = err_from_is_err_and c.from_residual-in_err-pass_row-2.result c.from_residual-in_err-pass_row-2.ensures.1 in
    rw (p.1, p.2) (named-values _ _ _ _ c.in_ok-pass_row.ensures (read_if _ c.if-valued.true c.in_err-pass_row-2.ensures))

pub returns-in_ok-pass_row-2 : goal.returns-in_ok-pass_row-2
returns-in_ok-pass_row-2 c =
    named_as _ _ _ _ c.in_ok-pass_row.ensures (read_if _ c.if-valued.true c.in_ok-pass_row-2.ensures)

pub returns-else-valued : goal.returns-else-valued
returns-else-valued c = named_as _ _ _ _ c.in_ok-pass_row.ensures (read_not _ c.if-valued.false)
