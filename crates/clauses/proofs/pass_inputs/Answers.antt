-- `clauses::pass_inputs` meets its contract.
use mathlib.Core.Path.{◌∙◌}
use Rattle.std.proofs.lemmas.Result.{err_from_is_err_and}
use Rattle.clauses.proofs.layouts.LayoutLaws.{read_if, read_not}
use Rattle.clauses.proofs.ShapeLaws.{inputs_stop, inputs-values, inputs-rows}
use Rattle.clauses.proofs.pass_inputs.Goals as goal
use Rattle.clauses.proofs.pass_inputs.Goals.{then-values+in_ok-pass_row-2, else-values}

pub returns-in_err-pass_row : goal.returns-in_err-pass_row
returns-in_err-pass_row c =
    let p = err_from_is_err_and c.from_residual.result c.from_residual.ensures.1 in
    rw (p.1, p.2) (inputs_stop _ _ _ _ c.in_err-pass_row.ensures)

pub returns-in_err-pass_row-2 : goal.returns-in_err-pass_row-2
returns-in_err-pass_row-2 c =
    let p = err_from_is_err_and c.from_residual-in_err-pass_row-2.result c.from_residual-in_err-pass_row-2.ensures.1 in
    rw (p.1, p.2) (inputs-values _ _ _ _ c.in_ok-pass_row.ensures (read_if _ c.if-values.true c.in_err-pass_row-2.ensures))

pub returns : goal.returns
returns c =
    c.pass_rows.ensures ∙ inputs-rows _ _ _ _ c.in_ok-pass_row.ensures
    (elim c.if-values.branch [
      | then-values+in_ok-pass_row-2 w ↦ read_if _ w.if-values.true w.in_ok-pass_row-2.ensures
      | else-values w ↦ read_not _ w.if-values.false
    ])
