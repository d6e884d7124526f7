use Rattle.lists.proofs.Copying.{Copying}
use Rattle.lists.proofs.put_bytes.Given as goal

abbrev pub invariant-loop-j : goal.invariant-loop-j
invariant-loop-j l = Copying l.initial.out l.at l.text l.out l.j
