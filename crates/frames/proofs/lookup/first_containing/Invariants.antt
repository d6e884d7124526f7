-- The search has come to rect i.
use Rattle.frames.proofs.lookup.FirstLaws.{Searching}
use Rattle.frames.proofs.lookup.first_containing.Given as goal

abbrev pub invariant-loop-i : goal.invariant-loop-i
invariant-loop-i l = Searching l.frame l.run l.i
