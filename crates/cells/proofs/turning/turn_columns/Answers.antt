-- `cells::turning::turn_columns` meets its contract.
use native.Mathlib.Omega.{arith}
use Rattle.cells.proofs.WriterLaws.{plane-begun, plane-more, plane-full}
use Rattle.cells.proofs.turning.turn_columns.Goals as goal

pub loop-j-init : goal.loop-j-init
loop-j-init c = (omega arith, plane-begun _ _ c.requires.0)

pub turn_column-requires : goal.turn_column-requires
turn_column-requires c = (omega (arith, c.loop-j.invariant.1.rows, c.loop-j-test.true, c.requires.1), omega (arith, c.loop-j-test.true, c.requires.1))

pub end_row-requires : goal.end_row-requires
end_row-requires c =
    let p = c.args.plane.fits in
    let r = c.turn_column.ensures.kept.rows in
    (omega (arith, r, c.loop-j.invariant.1.rows, c.loop-j-test.true, c.requires.1), omega (arith, p.rows))

pub loop-j-preserved : goal.loop-j-preserved
loop-j-preserved c =
    (omega (arith, c.loop-j-test.true), plane-more c.loop-j.invariant.1 c.turn_column.ensures.kept c.turn_column.ensures.cells c.end_row.ensures)

pub returns : goal.returns
returns c =
    let i = c.loop-j.invariant in
    plane-full i.1 c.args.w i.0 c.loop-j-test.false
