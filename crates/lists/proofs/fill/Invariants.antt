use Rattle.lists.proofs.Filling.{Filling}
use Rattle.lists.proofs.fill.Given as goal

abbrev pub invariant-loop-e : goal.invariant-loop-e
invariant-loop-e g l = Filling l.x l.initial.s l.s l.e-index
