-- `cells::turning::turn_column` meets its contract.
use mathlib.Core.Path.{sym, ap, ◌∙◌, subst}
use Rattle.model.specs.Cells.{turned_cell, Small}
use Rattle.model.proofs.CellLaws.{turned-small}
use Rattle.cells.proofs.WriterLaws.{row-begun, row-more, row-full}
use native.Mathlib.Omega.{arith}
use Rattle.cells.proofs.turning.turn_column.Goals as goal

pub loop-i-init : goal.loop-i-init
loop-i-init c = (omega arith, row-begun _ _)

pub cell-requires : goal.cell-requires
cell-requires c = let f = c.args.plane.fits in (omega (arith, c.loop-i-test.true, f.rows), c.requires.1)

pub put_cell-requires : goal.put_cell-requires
put_cell-requires c =
    let f = c.args.plane.fits in
    (omega (arith, c.loop-i.invariant.1.kept.rows, c.requires.0), omega (arith, c.loop-i-test.true, f.rows), subst Small (sym c.turned.ensures) (turned-small c.cell.result c.cell.ensures.small))

pub loop-i-preserved : goal.loop-i-preserved
loop-i-preserved c =
    (omega (arith, c.loop-i-test.true), row-more c.loop-i.invariant.1 (c.turned.ensures ∙ ap turned_cell c.cell.ensures.cell) c.put_cell.ensures.cells c.put_cell.ensures.kept)

pub returns : goal.returns
returns c =
    let f = row-full c.loop-i.invariant.1 c.args.plane.rows c.loop-i.invariant.0 c.loop-i-test.false in
    record { cells = f.cells; kept = f.kept }
