-- `text_planes::plane_cells::add_cells` meets its contract.
use mathlib.Core.Path.{◌≡◌, ap, ◌∙◌}
use mathlib.Core.Bool.{Bool}
use mathlib.Core.List.{[], ◌∷◌, ◌++◌}
use Prim.Native.Nat.{◌+◌}
use native.Mathlib.Omega.{arith}
use lib.Dec.{eqb}
use borrow.Author.Tests.{eq-eqb, ne_eqb}
use Rattle.lists.specs.Choose.{choose}
use Rattle.model.specs.declared.Cell.TheVariants.{VerticalOutputDoubleLine, VerticalAnnotationDoubleLine}
use Rattle.cells.specs.Plane.{cells_in}
use Rattle.text_planes.specs.plane_cells.Row.{is_at}
use Rattle.text_planes.proofs.plane_cells.CellLaws.{one_if, line_there, no_line, cells_over, cells_added}
use Rattle.text_planes.proofs.plane_cells.add_cells.Goals as goal
use Rattle.text_planes.proofs.plane_cells.add_cells.Goals.{After-from-2, Joined-is_annotation, then-is_output, else-is_output, then-is_annotation, else-is_annotation}

output_one : (c : After-from-2) → c.from.result ≡ choose (eqb c.args.x c.args.o.x) 1 0
output_one c = c.from.ensures ∙ one_if _

annotation_one : (c : After-from-2) → c.from-2.result ≡ choose (is_at c.args.o.right c.args.x) 1 0
annotation_one c = c.from-2.ensures ∙ one_if _ ∙ ap (λ (b : Bool). choose b 1 0) c.is_at-is_annotation.ensures

pub returns-then-b-ge-PLANE_CELLS-clause-made : goal.returns-then-b-ge-PLANE_CELLS-clause-made
returns-then-b-ge-PLANE_CELLS-clause-made c =
    let k = (goal.at.returns-then-b-ge-PLANE_CELLS-clause-made c).After-from-2 in
    cells_over c.args.o c.args.x c.args.region c.args.row c.args.s c.args.plane.now c.if-row-ge-PLANE_ROWS.false (omega (arith, output_one k, annotation_one k, c.if-b-ge-PLANE_CELLS.true))

output_line : (c : Joined-is_annotation) → cells_in c.if-is_output.plane c.args.row (c.args.s.cells + c.from.result)
    ≡ cells_in c.args.plane.now c.args.row c.args.s.cells ++ choose (eqb c.args.x c.args.o.x) (VerticalOutputDoubleLine ∷ []) []
output_line c =
    elim c.if-is_output.branch [
      | then-is_output w ↦ rw w.plane-is (line_there _ _ _ _ _ _ _ c.from.ensures (eq-eqb _ _ w.if-is_output.true) w.put_cell.ensures.cells)
      | else-is_output w ↦ rw w.plane-is (no_line _ _ _ _ _ _ c.from.ensures (ne_eqb _ _ w.if-is_output.false))
    ]

annotation_line : (c : Joined-is_annotation) → cells_in c.if-is_annotation.plane c.args.row (c.args.s.cells + c.from.result + c.from-2.result)
    ≡ cells_in c.if-is_output.plane c.args.row (c.args.s.cells + c.from.result) ++ choose c.is_at-is_annotation.result (VerticalAnnotationDoubleLine ∷ []) []
annotation_line c =
    elim c.if-is_annotation.branch [
      | then-is_annotation w ↦ rw w.plane-is (line_there _ _ _ _ _ _ _ c.from-2.ensures w.if-is_annotation.true w.put_cell-then-is_annotation.ensures.cells)
      | else-is_annotation w ↦ rw w.plane-is (no_line _ _ _ _ _ _ c.from-2.ensures w.if-is_annotation.false)
    ]

pub returns-clause-made : goal.returns-clause-made
returns-clause-made c =
    let k = (goal.at.returns-clause-made c).After-from-2 in
    let j = (goal.at.returns-clause-made c).Joined-is_annotation in
    cells_added c.args.o c.args.x c.args.region c.args.row c.args.s c.args.plane.now c.is_at-is_annotation.result c.is_at-is_annotation.ensures c.if-row-ge-PLANE_ROWS.false
    (omega (arith, c.if-b-ge-PLANE_CELLS.false, output_one k, annotation_one k)) (c.args.s.cells + c.from.result) (c.args.s.cells + c.from.result + c.from-2.result) _ _ _
    (output_line j) (annotation_line j) c.put_cell-2.ensures.cells c.column_of.ensures c.column_of-2.ensures
