-- The rects before `at` end at or above the row.
use Prim.Native.Nat.{◌≤◌}
use lib.ListN.{length}
use Rattle.frames.specs.lookup.Numbers.{Above}
use Rattle.frames.proofs.lookup.live.Given as goal

abbrev pub invariant-loop-at : goal.invariant-loop-at
invariant-loop-at l = (l.from ≤ l.at) × (l.at ≤ length l.run) × Above l.run l.at l.row
