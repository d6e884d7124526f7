use Prim.Native.Nat.{◌+◌, ◌-◌}
use lib.ListN.{length}
use Rattle.values.proofs.search.Shifting.{left}
use Rattle.values.proofs.search.Building.{Building}
use Rattle.values.proofs.search.periods_of.Given as goal

abbrev pub invariant-loop-reach : goal.invariant-loop-reach
invariant-loop-reach l = Building l.p l.t.items l.e l.reach (length l.t.items) l.top

-- as in `find`, and one for each byte that no entry reaches yet
abbrev pub decreases-loop-reach : goal.decreases-loop-reach
decreases-loop-reach l = left l.p l.p l.e (l.reach - l.e) + (length l.p - l.top)
