-- `cells::plane_writer::PlaneWriter::end_row` meets its contract.
use mathlib.Core.Path.{refl}
use Rattle.cells.proofs.PlaneLaws.{ended-rows}
use Rattle.cells.proofs.plane_writer.PlaneWriter.end_row.Goals as goal

pub returns : goal.returns
returns c =
    let w = c.args.self.now in
    record { same = refl; rows = refl; plane = ended-rows w.cells.now w.rows c.args.n w.fits c.requires.0 c.requires.1 }
