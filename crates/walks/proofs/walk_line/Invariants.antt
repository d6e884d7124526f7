use mathlib.Core.Path.{◌≡◌}
use mathlib.Core.List.{List}
use Prim.Native.Nat.{ℕ, ◌-◌, ◌≤◌}
use Rattle.walks.specs.Walk.{walk_from, walk_of}
use Rattle.walks.specs.Line.{place, line_of}
use Rattle.walks.specs.Sets.{Passes, Sought}
use Rattle.walks.proofs.walk_line.Given as goal

abbrev pub invariant-loop-k : goal.invariant-loop-k
invariant-loop-k l = (l.k ≤ l.count) × ((l.p ≡ place l.back l.at l.step l.k) × ((s a : List ℕ) → Sought l.c s a → (walk_from (line_of l.codes l.back l.at l.step) s a l.k (l.count - l.k) ≡ walk_of (line_of l.codes l.back l.at l.step) s a l.count) × Passes s a l.kept))
