-- `text_planes::plane_rows::add_line` meets its contract.
use mathlib.Core.Path.{refl, ◌∙◌}
use native.Mathlib.Omega.{arith}
use Rattle.text_planes.specs.plane_rows.Made.{line_cell}
use Rattle.text_planes.proofs.plane_rows.LineLaws.{line_over, line_added}
use Rattle.text_planes.proofs.plane_rows.add_line.Goals as goal

pub returns-then-plane-ge-PLANE_ROWS : goal.returns-then-plane-ge-PLANE_ROWS
returns-then-plane-ge-PLANE_ROWS c =
    let l = c.args.l in
    let s = c.args.s in
    record { made = line_over (line_cell l.output l.annotation l.plain s.doubles.output s.doubles.annotation) s c.args.plane.now c.if-plane-ge-PLANE_ROWS.true; same = refl }

pub put_line-requires : goal.put_line-requires
put_line-requires c = c.if-plane-ge-PLANE_ROWS.false

pub end_row-requires : goal.end_row-requires
end_row-requires c = (omega (arith, c.put_line.ensures.kept.rows, c.if-plane-ge-PLANE_ROWS.false), c.args.s.few)

pub returns : goal.returns
returns c =
    let l = c.args.l in
    let s = c.args.s in
    let k = c.put_line.ensures.kept in
    record {
      made = line_added (line_cell l.output l.annotation l.plain s.doubles.output s.doubles.annotation) s c.args.plane.now c.if-plane-ge-PLANE_ROWS.false _ _ k c.put_line.ensures.cells c.end_row.ensures;
      same = c.end_row.ensures.same ∙ k.same;
    }
