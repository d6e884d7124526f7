use Rattle.lists.specs.Line.{store_at}
use Rattle.canvas.specs.grid_layer.Grid.{carried_code}
use Rattle.canvas.specs.grid_layer.Passes.{place_in}
use Rattle.canvas.proofs.thin_layer.Turning.{Turning}
use Rattle.canvas.proofs.grid_layer.carry_line.Given as goal

abbrev pub invariant-loop-k : goal.invariant-loop-k
invariant-loop-k l = Turning (store_at (place_in l.l) (carried_code l.d l.l.off l.l.count)) l.l.count l.initial.grid l.grid l.k
