use mathlib.Core.Path.{◌≡◌}
use lib.ListN.{get_or}
use Rattle.canvas.specs.thin_layer.Thin.{thin_of}
use Rattle.canvas.proofs.thin_layer.ThinLaws.{thin_turn}
use Rattle.canvas.proofs.thin_layer.Turning.{Turning}
use Rattle.canvas.proofs.thin_layer.make_thin.Given as goal

abbrev pub invariant-loop-i : goal.invariant-loop-i
invariant-loop-i l = Turning (thin_turn l.text.codes.now) l.n l.initial.thins l.thins l.i × (get_or l.kept 1 0 ≡ thin_of (get_or l.kept 0 0))
