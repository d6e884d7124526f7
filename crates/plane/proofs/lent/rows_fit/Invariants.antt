use mathlib.Core.Path.{◌≡◌}
use mathlib.Core.Bool.{true}
use Prim.Native.Nat.{◌≤◌}
use lib.ListN.{length}
use Rattle.plane.specs.lent.LentPlane.{all_at}
use Rattle.plane.proofs.lent.LimitLaws.{short}
use Rattle.plane.proofs.lent.rows_fit.Given as goal

abbrev pub invariant-loop-i : goal.invariant-loop-i
invariant-loop-i l = (l.i ≤ length l.rows) × (all_at (short l.rows) l.i ≡ true)
