use Rattle.print.proofs.listing.LineLaws.{Listing}
use Rattle.print.proofs.listing.put_record.Given as goal

abbrev pub invariant-loop-i : goal.invariant-loop-i
invariant-loop-i g l = Listing l.initial.out.items l.bytes l.out.items l.i
