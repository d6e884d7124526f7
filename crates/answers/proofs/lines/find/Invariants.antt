use Rattle.answers.proofs.lines.Finding.{Seeking}
use Rattle.answers.proofs.lines.find.Given as goal

abbrev pub invariant-loop-i : goal.invariant-loop-i
invariant-loop-i l = Seeking l.s l.at l.m l.i
