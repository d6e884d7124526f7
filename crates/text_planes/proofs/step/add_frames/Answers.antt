-- `text_planes::step::add_frames` meets its contract.
use Rattle.std.proofs.lemmas.Result.{err_from_is_err_and}
use Rattle.std.specs.Prelude.{Ok}
use mathlib.Core.Path.{◌≡◌, ◌∙◌, subst}
use native.Mathlib.Omega.{arith}
use Rattle.model.specs.Layers.{picture_of}
use Rattle.model.specs.Refusals.{Reading}
use Rattle.text_planes.specs.plane_cells.Made.{RowFit, RowFits}
use Rattle.text_planes.specs.declared.plane_cells.RowSofar.{RowSofar}
use Rattle.text_planes.specs.step.Made.{frames_in}
use Rattle.text_planes.proofs.step.FramesLaws.{frames_out, no_frames, frames_added}
use Rattle.text_planes.proofs.step.add_frames.Goals as goal
use Rattle.text_planes.proofs.step.add_frames.Goals.{After-make_row}

-- the row's cells fit
fits : (m : After-make_row) {t : RowSofar} → m.make_row.result ≡ Ok t → RowFit t m.make_row.new.plane.rows
fits m z = subst (λ (r : Reading RowSofar). RowFits r m.make_row.new.plane.rows) z m.make_row.ensures.fits

pub make_row-requires : goal.make_row-requires
make_row-requires c = c.requires

pub returns-then-width-eq0 : goal.returns-then-width-eq0
returns-then-width-eq0 c =
    let a = c.args in
    let k = c.make_row.ensures.kept in
    record { made = λ rs n q. no_frames a.n.outline (frames_in c.args.n) rs (picture_of a.n.grid) a.n.grid.width a.y a.s a.plane.now _ _ (c.make_row.ensures.made rs n q) _ c.in_ok-t.was k c.if-width-eq0.true; same = k.same }

pub end_row-requires : goal.end_row-requires
end_row-requires c =
    let f = fits (goal.at.end_row-requires c).After-make_row c.in_ok-t.was in
    (f.low (omega (arith, c.if-width-eq0.false)), f.few)

pub returns : goal.returns
returns c =
    let a = c.args in
    let k = c.make_row.ensures.kept in
    record {
      made = λ rs n q. frames_added a.n.outline (frames_in c.args.n) rs (picture_of a.n.grid) a.n.grid.width a.y a.s a.plane.now _ _ (c.make_row.ensures.made rs n q) _ c.in_ok-t.was k c.if-width-eq0.false _ c.end_row.ensures;
      same = c.end_row.ensures.same ∙ k.same;
    }

pub returns-in_err-t : goal.returns-in_err-t
returns-in_err-t c =
    let p = err_from_is_err_and c.from_residual.result c.from_residual.ensures.1 in
    let a = c.args in
    rw (p.1, p.2) (record { made = λ rs n q. frames_out a.n.outline (frames_in c.args.n) rs (picture_of a.n.grid) a.n.grid.width a.y a.s a.plane.now c.make_row.new.plane _ (c.make_row.ensures.made rs n q) _ c.in_err-t.was; same = c.make_row.ensures.kept.same })
