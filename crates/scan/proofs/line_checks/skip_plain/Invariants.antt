use Prim.Native.Nat.{◌-◌, ◌≤◌}
use lib.ListN.{length}
use Rattle.scan.specs.line_checks.LineEnds.{Plain}
use Rattle.scan.proofs.line_checks.skip_plain.Given as goal

abbrev pub invariant-loop-p : goal.invariant-loop-p
invariant-loop-p l = (l.at ≤ l.p) × (l.p ≤ length l.s) × Plain l.s l.at l.p

abbrev pub decreases-loop-p : goal.decreases-loop-p
decreases-loop-p l = length l.s - l.p
