use Rattle.lists.specs.Line.{placed}
use Rattle.canvas.specs.grid_layer.Passes.{line_carried}
use Rattle.canvas.proofs.thin_layer.Turning.{Turning}
use Rattle.canvas.proofs.grid_layer.carry_lines.Given as goal

abbrev pub invariant-loop-j : goal.invariant-loop-j
invariant-loop-j l = Turning (λ i. line_carried l.d l.l.off (placed l.l.base l.across l.l.stride i) l.l.count) l.m l.initial.grid l.grid l.j
