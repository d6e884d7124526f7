use Prim.Native.Nat.{◌-◌}
use lib.ListN.{length}
use Rattle.characters.proofs.white_space.TrimUtf8Laws.{Leading}
use Rattle.characters.proofs.white_space.utf8_start.Given as goal

abbrev pub invariant-loop-p : goal.invariant-loop-p
invariant-loop-p l = Leading l.s l.p

abbrev pub decreases-loop-p : goal.decreases-loop-p
decreases-loop-p l = length l.s - l.p
