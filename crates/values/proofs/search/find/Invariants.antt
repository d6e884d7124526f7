use Rattle.values.proofs.search.Shifting.{left}
use Rattle.values.proofs.search.Searching.{Searching}
use Rattle.values.proofs.search.find.Given as goal

abbrev pub invariant-loop-i : goal.invariant-loop-i
invariant-loop-i l = Searching l.s l.text l.from l.i l.j

abbrev pub decreases-loop-i : goal.decreases-loop-i
decreases-loop-i l = left l.s l.text l.i l.j
