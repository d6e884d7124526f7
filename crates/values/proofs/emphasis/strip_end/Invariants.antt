use mathlib.Core.Path.{◌≡◌}
use lib.ListN.{length}
use Rattle.values.specs.emphasis.Emphasis.{strip_end}
use Rattle.values.proofs.emphasis.strip_end.Given as goal

abbrev pub invariant-loop-front : goal.invariant-loop-front
invariant-loop-front l = strip_end (length l.p) l.e l.p ≡ strip_end (length l.left) l.e l.left

abbrev pub decreases-loop-front : goal.decreases-loop-front
decreases-loop-front l = length l.left
