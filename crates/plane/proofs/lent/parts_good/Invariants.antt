use mathlib.Core.Path.{◌≡◌}
use mathlib.Core.Bool.{true}
use Prim.Native.Nat.{◌≤◌}
use lib.ListN.{length}
use Rattle.plane.specs.lent.LentPlane.{all_at}
use Rattle.plane.proofs.lent.TextLaws.{good_at}
use Rattle.plane.proofs.lent.parts_good.Given as goal

abbrev pub invariant-loop-k : goal.invariant-loop-k
invariant-loop-k l = (l.k ≤ length l.l.offsets.now) × (all_at (good_at l.l.offsets.now l.l.sizes.now l.l.bytes.now) l.k ≡ true)
