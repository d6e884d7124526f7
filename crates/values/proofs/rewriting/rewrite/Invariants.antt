use Prim.Native.Nat.{◌-◌}
use lib.ListN.{length}
use Rattle.values.proofs.rewriting.Replacing.{Rewriting}
use Rattle.values.proofs.rewriting.rewrite.Given as goal

abbrev pub invariant-loop-i : goal.invariant-loop-i
invariant-loop-i l = Rewriting l.p.text.now l.q l.s l.initial.out l.out l.at l.i l.end

abbrev pub decreases-loop-i : goal.decreases-loop-i
decreases-loop-i l = length l.s - l.i
