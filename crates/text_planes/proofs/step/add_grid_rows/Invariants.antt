use Rattle.cells.specs.Written.{written}
use Rattle.text_planes.proofs.step.RowsLaws.{Growing}
use Rattle.text_planes.proofs.step.add_grid_rows.Given as goal

abbrev pub invariant-loop-y : goal.invariant-loop-y
invariant-loop-y l = Growing l.n.outline l.n.grid.width l.n.grid.height l.n.count l.n.grid.codes.now l.n.found.now l.initial.plane l.plane l.y
    (record { plane = written l.plane; width = l.s.0; output = l.s.1.0.output; annotation = l.s.1.0.annotation })
