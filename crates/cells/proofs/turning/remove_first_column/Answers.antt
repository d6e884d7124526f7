-- `cells::turning::remove_first_column` meets its contract.
use mathlib.Core.Path.{sym, ◌∙◌}
use native.Mathlib.Omega.{arith}
use Rattle.cells.proofs.WriterLaws.{plane-begun, plane-more, plane-full}
use Rattle.cells.proofs.turning.UprightLaws.{dropped}
use Rattle.cells.proofs.turning.remove_first_column.Goals as goal

pub loop-row-init : goal.loop-row-init
loop-row-init c = (omega arith, plane-begun _ _ c.requires)

pub copy_row-count-requires : goal.copy_row-count-requires
copy_row-count-requires c =
    let p = c.args.plane.fits in
    (omega (arith, c.loop-row.invariant.1.rows, c.loop-row-test.true, p.rows), c.loop-row-test.true)

pub end_row-requires : goal.end_row-requires
end_row-requires c =
    let p = c.args.plane.fits in
    let r = c.copy_row-count.ensures.kept.rows in (
      omega (arith, r, c.loop-row.invariant.1.rows, c.loop-row-test.true, p.rows),
      omega (arith, c.copy_row-count.ensures.count, p.cells _ c.loop-row-test.true),
    )

pub loop-row-preserved : goal.loop-row-preserved
loop-row-preserved c =
    (omega (arith, c.loop-row-test.true), plane-more c.loop-row.invariant.1 c.copy_row-count.ensures.kept c.copy_row-count.ensures.cells c.end_row.ensures)

pub returns : goal.returns
returns c =
    let i = c.loop-row.invariant in
    let f = plane-full i.1 c.args.plane.rows i.0 c.loop-row-test.false in
    record { same = f.same; plane = f.plane ∙ sym (dropped _ _) }
