use Prim.Native.Nat.{◌-◌}
use lib.ListN.{length}
use Rattle.frames.specs.regions.Corners.{corner_in, Seeking}
use Rattle.frames.proofs.regions.skip_fours.Given as goal

abbrev pub invariant-loop-k : goal.invariant-loop-k
invariant-loop-k l = Seeking (corner_in l.codes) (length l.codes) l.i l.k

abbrev pub decreases-loop-k : goal.decreases-loop-k
decreases-loop-k l = length l.codes - l.k
