use Prim.Native.Nat.{◌+◌}
use lib.ListN.{get_or}
use Rattle.lists.specs.Line.{store_at}
use Rattle.canvas.specs.body_layer.Body.{body_code, shaded_code}
use Rattle.canvas.proofs.thin_layer.Turning.{Turning}
use Rattle.canvas.proofs.body_layer.body_row.Given as goal

abbrev pub invariant-loop-k : goal.invariant-loop-k
invariant-loop-k l =
    Turning (store_at (λ i. l.base + i) (λ i. body_code l.top l.y (get_or l.thins (l.base + i) 0))) l.n l.initial.bodies l.bodies l.k
    × Turning (store_at (λ i. l.base + i) (λ i. shaded_code l.top l.y)) l.n l.initial.grid l.grid l.k
