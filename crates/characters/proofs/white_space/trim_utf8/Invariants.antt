use Prim.Native.Nat.{◌-◌}
use lib.ListN.{length}
use Rattle.characters.proofs.white_space.TrimUtf8Laws.{Trimming}
use Rattle.characters.proofs.white_space.trim_utf8.Given as goal

abbrev pub invariant-loop-p : goal.invariant-loop-p
invariant-loop-p l = Trimming l.s l.from l.p l.to

abbrev pub decreases-loop-p : goal.decreases-loop-p
decreases-loop-p l = length l.s - l.p
