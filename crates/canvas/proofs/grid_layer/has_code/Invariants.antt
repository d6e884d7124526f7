use mathlib.Core.Path.{◌≡◌}
use mathlib.Core.Bool.{false}
use Prim.Native.Nat.{◌+◌, ◌*◌, ◌≤◌}
use lib.Dec.{eqb}
use lib.ListN.{get_or}
use Rattle.lists.specs.OneOf.{any_at}
use Rattle.canvas.proofs.grid_layer.has_code.Given as goal

abbrev pub invariant-loop-k : goal.invariant-loop-k
invariant-loop-k l = (l.k ≤ l.l.count) × (any_at (λ j. eqb (get_or l.s (l.l.base + j * l.l.stride) 0) l.code) l.k ≡ false)
