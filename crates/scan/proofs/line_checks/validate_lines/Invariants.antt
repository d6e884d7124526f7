use mathlib.Core.Path.{◌≡◌}
use Prim.Native.Nat.{◌-◌, ◌<◌}
use lib.ListN.{length}
use Rattle.characters.specs.utf8.Utf8.{SameCheck}
use Rattle.scan.proofs.line_checks.validate_lines.Given as goal

abbrev pub invariant-loop-at : goal.invariant-loop-at
invariant-loop-at l = SameCheck l.s l.from l.valid × (l.at < length l.s → l.valid ≡ l.at)

abbrev pub decreases-loop-at : goal.decreases-loop-at
decreases-loop-at l = length l.s - l.at
