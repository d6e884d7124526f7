-- `text_planes::step::add_grid_row` meets its contract.
use Rattle.std.specs.Prelude.{Ok}
use mathlib.Core.Path.{◌≡◌, sym, ap, ◌∙◌}
use borrow.Author.Tests.{eq-eqb, ne_eqb}
use Rattle.model.specs.Layers.{picture_of}
use Rattle.text_planes.specs.plane_rows.Made.{rows_of, line_made}
use Rattle.text_planes.specs.step.Made.{frames_in}
use Rattle.text_planes.proofs.step.RowsLaws.{main_line, line_below, lines_added}
use Rattle.text_planes.proofs.step.add_grid_row.Goals as goal
use Rattle.text_planes.proofs.step.add_grid_row.Goals.{After-add_frames, then-y-o+in_ok-add_line, else-y-o, then-is_at+in_ok-add_line-2, else-is_at}

-- the line row of the main crossing, or none
first : (c : After-add_frames) → Ok (rows_of c.args.s c.if-y-o.plane) ≡ main_line c.args.n.outline c.args.y c.args.s c.args.plane.now
first c =
    elim c.if-y-o.branch [
      | then-y-o+in_ok-add_line w ↦ rw (w.plane-is, eq-eqb _ _ w.if-y-o.true) (sym (ap (λ r. line_made r c.args.s w.add_line.new.plane) w.in_ok-add_line.was) ∙ w.add_line.ensures.made)
      | else-y-o w ↦ rw (w.plane-is, ne_eqb _ _ w.if-y-o.false)
    ]

-- that of the annotation crossing, or none
second : (c : After-add_frames) → Ok (rows_of c.args.s c.if-is_at.plane) ≡ line_below c.args.n.outline c.args.y c.args.s c.if-y-o.plane
second c =
    elim c.if-is_at.branch [
      | then-is_at+in_ok-add_line-2 w ↦ rw (w.plane-is, sym c.is_at.ensures ∙ w.if-is_at.true) (sym (ap (λ r. line_made r c.args.s w.add_line-then-is_at.new.plane) w.in_ok-add_line-2.was) ∙ w.add_line-then-is_at.ensures.made)
      | else-is_at w ↦ rw (w.plane-is, sym c.is_at.ensures ∙ w.if-is_at.false)
    ]

pub returns-clause-made : goal.returns-clause-made
returns-clause-made c =
    let a = c.args in
    λ rs n m. c.add_frames.ensures.made rs n m
    ∙ lines_added a.n.outline (frames_in c.args.n) rs (picture_of a.n.grid) a.n.grid.width a.y a.s a.plane.now c.if-y-o.plane (first c) c.if-is_at.plane (second c)
