use lib.ListN.{length}
use Rattle.values.proofs.search.Shifting.{Shifting}
use Rattle.values.proofs.search.shift_after.Given as goal

abbrev pub invariant-loop-i : goal.invariant-loop-i
invariant-loop-i l = Shifting l.t (length l.t) l.j l.i
