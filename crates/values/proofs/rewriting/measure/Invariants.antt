use Prim.Native.Nat.{◌-◌}
use lib.ListN.{length}
use Rattle.values.proofs.rewriting.Replacing.{Measuring}
use Rattle.values.proofs.rewriting.measure.Given as goal

abbrev pub invariant-loop-i : goal.invariant-loop-i
invariant-loop-i l = Measuring l.p.text.now l.q l.s l.i l.size

abbrev pub decreases-loop-i : goal.decreases-loop-i
decreases-loop-i l = length l.s - l.i
