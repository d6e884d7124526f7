use mathlib.Core.Path.{◌≡◌}
use mathlib.Core.List.{◌++◌}
use lib.ListN.{length, take, drop}
use Rattle.canvas.proofs.grid_layer.copy_layer.Given as goal

abbrev pub invariant-loop-i : goal.invariant-loop-i
invariant-loop-i l = (length l.dst ≡ length l.initial.dst) × (l.dst ≡ take l.i l.src.codes.now ++ drop l.i l.initial.dst)
