use Prim.Native.Nat.{◌-◌}
use lib.ListN.{length}
use Rattle.scan.proofs.line_checks.LinePassing.{Passing}
use Rattle.scan.proofs.line_checks.line_end.Given as goal

abbrev pub invariant-loop-p : goal.invariant-loop-p
invariant-loop-p l = Passing l.s l.from l.p

abbrev pub decreases-loop-p : goal.decreases-loop-p
decreases-loop-p l = length l.s - l.p
