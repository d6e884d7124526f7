use mathlib.Core.Path.{◌≡◌}
use mathlib.Core.Bool.{true}
use Prim.Native.Nat.{◌≤◌}
use lib.ListN.{length}
use Rattle.plane.specs.lent.LentPlane.{all_at}
use Rattle.plane.proofs.lent.KindLaws.{known_at}
use Rattle.plane.proofs.lent.cells_known.Given as goal

abbrev pub invariant-loop-k : goal.invariant-loop-k
invariant-loop-k l = (l.k ≤ length l.l.kinds.now) × (all_at (known_at (length l.l.offsets.now) l.l.kinds.now l.l.regions.now) l.k ≡ true)
