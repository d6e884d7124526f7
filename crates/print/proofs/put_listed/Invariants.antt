use Rattle.print.proofs.WrittenLaws.{Listing}
use Rattle.print.proofs.put_listed.Given as goal

abbrev pub invariant-loop-b : goal.invariant-loop-b
invariant-loop-b g l = Listing l.initial.out.items l.text l.out.items l.b-index
