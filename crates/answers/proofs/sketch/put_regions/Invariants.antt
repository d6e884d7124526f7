use Rattle.answers.proofs.sketch.RegionLaws.{Listing}
use Rattle.answers.proofs.sketch.put_regions.Given as goal

abbrev pub invariant-loop-k : goal.invariant-loop-k
invariant-loop-k g l = Listing l.initial.out.items l.rects l.texts l.out.items l.k
