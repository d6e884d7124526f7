-- `cells::turning::upright` meets its contract.
use Rattle.std.proofs.Common.{rules}
use Rattle.std.proofs.lemmas.Result.{err_from_is_err_and}
use mathlib.Core.Path.{sym, ap, ◌∙◌}
use Rattle.cells.specs.Written.{plane_written}
use Rattle.cells.proofs.WriterLaws.{fits_at, read_at}
use Rattle.cells.proofs.turning.PivotLaws.{row-sheet, column-sheet}
use Rattle.cells.proofs.turning.upright.Goals as goal

pub returns-in-RulesAsRows : goal.returns-in-RulesAsRows
returns-in-RulesAsRows c =
    let w = c.remove_first_column.new.out in
    let same = sym c.remove_first_column.ensures.same in
    record { turned = read_at w (search rules) (row-sheet _ _ _ _ c.in-RulesAsRows.is c.remove_first_column.ensures.plane); fits = fits_at w (search rules) }

pub returns-in_ok-pivot-in-RulesAsColumns : goal.returns-in_ok-pivot-in-RulesAsColumns
returns-in_ok-pivot-in-RulesAsColumns c =
    let w = c.pivot.new.out in
    let same = sym c.pivot.ensures.same in
    let t = sym (ap (λ r. plane_written r w) c.in_ok-pivot-in-RulesAsColumns.was) ∙ c.pivot.ensures.turned in
    record { turned = read_at w (search rules) (column-sheet _ _ _ _ c.in-RulesAsColumns.is c.requires.1 t); fits = fits_at w (search rules) }

pub returns-in_err-pivot-in-RulesAsColumns : goal.returns-in_err-pivot-in-RulesAsColumns
returns-in_err-pivot-in-RulesAsColumns c =
    let p = err_from_is_err_and c.from_residual.result c.from_residual.ensures.1 in
    let t = sym (ap (λ r. plane_written r c.pivot.new.out) c.in_err-pivot-in-RulesAsColumns.was) ∙ c.pivot.ensures.turned in
    rw (p.1, p.2) (record { turned = column-sheet _ _ _ _ c.in-RulesAsColumns.is c.requires.1 t; fits = tt })
