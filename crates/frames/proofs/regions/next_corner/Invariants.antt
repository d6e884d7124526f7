use lib.ListN.{length}
use Rattle.frames.specs.regions.Corners.{corner_in, Seeking}
use Rattle.frames.proofs.regions.next_corner.Given as goal

abbrev pub invariant-loop-k : goal.invariant-loop-k
invariant-loop-k l = Seeking (corner_in l.codes) (length l.codes) l.i l.k
