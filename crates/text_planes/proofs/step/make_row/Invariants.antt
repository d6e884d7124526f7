use Prim.Native.Nat.{◌-◌}
use Rattle.text_planes.proofs.step.RowLaws.{Filling}
use Rattle.text_planes.proofs.step.make_row.Given as goal

abbrev pub invariant-loop-x : goal.invariant-loop-x
invariant-loop-x l = Filling l.n.outline l.n.grid.width l.n.grid.height l.n.count l.n.grid.codes.now l.n.found.now l.y l.initial.plane l.initial.s l.plane l.x l.s

abbrev pub decreases-loop-x : goal.decreases-loop-x
decreases-loop-x l = l.n.grid.width - l.x
