-- `plane::lent_sheet` meets its contract.
use Rattle.plane.specs.lent.Lent.{lists_of}
use Rattle.std.proofs.lemmas.Result.{err_from_is_err_and}
use lib.ListN.{length}
use Rattle.cells.specs.Plane.{TextPlane, plane_in}
use Rattle.cells.specs.Spans.{texts_in}
use Rattle.plane.proofs.LentSheetLaws.{not_lent, lent_stated}
use Rattle.plane.proofs.lent_sheet.Goals as goal
use Rattle.plane.proofs.lent_sheet.Goals.{Start}

pub returns-in_err-rows : goal.returns-in_err-rows
returns-in_err-rows c =
    let p = err_from_is_err_and c.from_residual.result c.from_residual.ensures.1 in
    rw (p.1, p.2) (record { sheet = not_lent (lists_of c.args.l) _ c.in_err-rows.ensures.loaded; held = tt })

pub returns : goal.returns
returns c =
    let t : TextPlane = record { plane = plane_in c.load.new.plane c.in_ok-rows.rows; texts = texts_in c.args.l.bytes.now c.load.new.spans (length c.args.l.offsets.now) } in
    record { sheet = lent_stated (lists_of c.args.l) t c.in_ok-rows.ensures.loaded _ c.upright_sheet.ensures.sheet; held = c.upright_sheet.ensures.held }
