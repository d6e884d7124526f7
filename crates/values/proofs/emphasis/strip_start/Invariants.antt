use mathlib.Core.Path.{◌≡◌}
use lib.ListN.{length}
use Rattle.values.specs.emphasis.Emphasis.{strip_start}
use Rattle.values.proofs.emphasis.strip_start.Given as goal

abbrev pub invariant-loop-rest : goal.invariant-loop-rest
invariant-loop-rest l = strip_start 0 l.e l.p ≡ strip_start 0 l.e l.left

abbrev pub decreases-loop-rest : goal.decreases-loop-rest
decreases-loop-rest l = length l.left
