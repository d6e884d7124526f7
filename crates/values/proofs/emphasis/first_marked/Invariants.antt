use Prim.Native.Nat.{◌-◌}
use lib.ListN.{length}
use Rattle.values.proofs.emphasis.Finding.{Finding}
use Rattle.values.proofs.emphasis.first_marked.Given as goal

abbrev pub invariant-loop-at : goal.invariant-loop-at
invariant-loop-at l = Finding l.s l.at

abbrev pub decreases-loop-at : goal.decreases-loop-at
decreases-loop-at l = length l.s - l.at
