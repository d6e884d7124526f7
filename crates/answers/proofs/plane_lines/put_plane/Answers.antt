-- `answers::plane_lines::put_plane` meets its contract.
use Rattle.print.proofs.WrittenLaws.{written_long}
use Rattle.answers.proofs.plane_lines.PlaneLaws.{rowing_start, rowing_more, rowing_end}
use native.Mathlib.Omega.{arith}
use Rattle.answers.proofs.plane_lines.put_plane.Goals as goal

pub loop-row-init : goal.loop-row-init
loop-row-init g c = rowing_start _ _ _

pub put_cells-requires : goal.put_cells-requires
put_cells-requires g c =
    omega (arith, c.requires, written_long c.put_count.ensures, written_long c.loop-row.invariant.written, c.loop-row-test.true, c.args.plane.fits.rows)

pub loop-row-preserved : goal.loop-row-preserved
loop-row-preserved g c = rowing_more c.loop-row.invariant c.loop-row-test.true c.put_cells.ensures

pub returns : goal.returns
returns g c = rowing_end c.loop-row.invariant c.args.plane.fits.rows c.loop-row-test.false c.put_count.ensures
