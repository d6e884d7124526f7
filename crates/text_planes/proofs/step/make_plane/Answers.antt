-- `text_planes::step::make_plane` meets its contract.
use Rattle.std.proofs.Common.{rules}
use Rattle.std.proofs.lemmas.Result.{err_from_is_err_and}
use mathlib.Core.Path.{sym, ap, ◌∙◌}
use Rattle.cells.specs.Written.{plane_written}
use Rattle.cells.proofs.WriterLaws.{fits_at, read_at}
use Rattle.lists.proofs.RunLaws.{length_run}
use Rattle.cells.specs.rects.Rects.{rect_at, rects_in}
use Rattle.text_planes.proofs.step.make_plane.Goals as goal

pub returns : goal.returns
returns c =
    let a = c.args in
    let w = c.add_grid_rows.new.plane in
    let same = sym c.add_grid_rows.ensures.same in
    let m = c.add_grid_rows.ensures.made (rects_in a.rects) (length_run (rect_at a.rects.numbers.now) 0 a.rects.count) c.number_frames.ensures in
    let t = sym (ap (λ r. plane_written r w) c.in_ok-add_grid_rows.was) ∙ m in
    record { made = read_at w (search rules) t; fits = fits_at w (search rules) }

pub returns-in_err-add_grid_rows : goal.returns-in_err-add_grid_rows
returns-in_err-add_grid_rows c =
    let a = c.args in
    let p = err_from_is_err_and c.from_residual.result c.from_residual.ensures.1 in
    let m = c.add_grid_rows.ensures.made (rects_in a.rects) (length_run (rect_at a.rects.numbers.now) 0 a.rects.count) c.number_frames.ensures in
    let t = sym (ap (λ r. plane_written r c.add_grid_rows.new.plane) c.in_err-add_grid_rows.was) ∙ m in
    rw (p.1, p.2) (record { made = t; fits = tt })
