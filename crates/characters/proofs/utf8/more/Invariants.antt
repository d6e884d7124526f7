use Rattle.characters.proofs.utf8.MoreLaws.{Following}
use Rattle.characters.proofs.utf8.more.Given as goal

abbrev pub invariant-loop-k : goal.invariant-loop-k
invariant-loop-k l = Following l.s l.at l.lo l.hi l.code l.n l.left l.k l.read
