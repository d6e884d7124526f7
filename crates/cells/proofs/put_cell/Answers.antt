-- `cells::put_cell` meets its contract.
use Rattle.cells.proofs.PlaneLaws.{stored_cell}
use Rattle.cells.proofs.put_cell.Goals as goal

pub returns-clause-cells : goal.returns-clause-cells
returns-clause-cells c =
    stored_cell c.args.plane.now c.args.row c.args.i _ c.args.c c.number.ensures c.requires.0 c.requires.1 c.requires.2
