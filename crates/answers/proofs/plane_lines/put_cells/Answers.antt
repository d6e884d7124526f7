-- `answers::plane_lines::put_cells` meets its contract.
use Rattle.print.proofs.WrittenLaws.{written_one, written_long}
use Rattle.answers.proofs.plane_lines.PlaneLaws.{celling_start, celling_more, celling_end}
use native.Mathlib.Omega.{arith}
use Rattle.answers.proofs.plane_lines.put_cells.Goals as goal

pub loop-i-init : goal.loop-i-init
loop-i-init g c = celling_start _ _ _ _

pub put_cell-requires : goal.put_cell-requires
put_cell-requires g c =
    let fits = c.args.plane.fits in
    let few = fits.cells c.args.row c.requires.1 in
    omega (arith, c.requires, fits.rows, few, c.width-count.ensures, written_long c.put_number.ensures, written_long c.loop-i.invariant.written, c.loop-i-test.true)

pub loop-i-preserved : goal.loop-i-preserved
loop-i-preserved g c = celling_more c.loop-i.invariant c.loop-i-test.true c.put_cell.ensures

pub push-requires : goal.push-requires
push-requires g c =
    let few = c.args.plane.fits.cells c.args.row c.requires.1 in
    omega (arith, c.requires, few, c.width-count.ensures, written_long c.put_number.ensures, written_long c.loop-i.invariant.written, c.loop-i.invariant.along)

pub returns : goal.returns
returns g c =
    let few = c.args.plane.fits.cells c.args.row c.requires.1 in
    celling_end c.loop-i.invariant (omega (arith, few, c.width-count.ensures)) c.loop-i-test.false c.width-count.ensures c.put_number.ensures (written_one c.push.ensures.items)
