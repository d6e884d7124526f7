-- `plane::upright_sheet` meets its contract.
use Rattle.std.proofs.lemmas.Result.{err_from_is_err_and}
use Rattle.plane.proofs.StatedLaws.{oriented_rows, not_oriented, not_upright, upright, upright-held}
use Rattle.plane.proofs.upright_sheet.Goals as goal

pub returns-in_err-o : goal.returns-in_err-o
returns-in_err-o c =
    let p = err_from_is_err_and c.from_residual.result c.from_residual.ensures.1 in
    rw (p.1, p.2) (record { sheet = not_oriented _ _ _ c.in_err-o.ensures; held = tt })

pub upright-requires : goal.upright-requires
upright-requires c = (c.requires, oriented_rows _ _ _ _ c.in_ok-o.ensures)

pub returns-in_err-rows : goal.returns-in_err-rows
returns-in_err-rows c =
    let p = err_from_is_err_and c.from_residual-in_err-rows.result c.from_residual-in_err-rows.ensures.1 in
    rw (p.1, p.2) (record { sheet = not_upright _ _ _ c.in_ok-o.ensures _ c.in_err-rows.ensures.turned; held = tt })

pub returns : goal.returns
returns c =
    record {
      sheet = upright _ _ _ c.in_ok-o.ensures _ c.in_ok-rows.ensures.turned;
      held = upright-held _ _ _ _ _ _ _ _ c.args.sheet.held c.in_ok-rows.ensures.turned c.in_ok-rows.ensures.fits;
    }
