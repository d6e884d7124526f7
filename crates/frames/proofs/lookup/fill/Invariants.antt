-- The rects before place i are those of the numbers, and the others are the old ones.
use Rattle.std.proofs.Common.{◌≡◌, ◌≤◌}
use Rattle.frames.proofs.lookup.FirstLaws.{filled}
use Rattle.frames.proofs.lookup.fill.Given as goal

abbrev pub invariant-loop-i : goal.invariant-loop-i
invariant-loop-i l = (l.i ≤ l.rects.count) × (l.run ≡ filled l.initial.run l.rects.numbers.now l.i)
