-- `text_planes::plane_rows::put_line` meets its contract.
use native.Mathlib.Omega.{arith}
use Rattle.cells.proofs.WriterLaws.{row-begun, row-more, row-full}
use Rattle.text_planes.proofs.plane_rows.put_line.Goals as goal

pub loop-i-init : goal.loop-i-init
loop-i-init c = (omega arith, row-begun _ _)

pub put_cell-requires : goal.put_cell-requires
put_cell-requires c =
    (omega (arith, c.loop-i.invariant.1.kept.rows, c.requires), omega (arith, c.loop-i-test.true, c.args.s.few), c.line_cell-c.ensures.small)

pub loop-i-preserved : goal.loop-i-preserved
loop-i-preserved c =
    (omega (arith, c.loop-i-test.true), row-more c.loop-i.invariant.1 c.line_cell-c.ensures.cell c.put_cell.ensures.cells c.put_cell.ensures.kept)

pub returns : goal.returns
returns c =
    let q = c.loop-i.invariant in
    let f = row-full q.1 c.args.s.width q.0 c.loop-i-test.false in
    record { cells = f.cells; kept = f.kept }
