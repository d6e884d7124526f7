use mathlib.Core.Path.{◌≡◌}
use Prim.Native.Nat.{◌-◌}
use Rattle.cells.specs.Slices.{plane_of}
use Rattle.cells.specs.turning.Upright.{wide}
use Rattle.cells.proofs.turning.UprightLaws.{wide_from}
use Rattle.cells.proofs.turning.is_wide.Given as goal

abbrev pub invariant-loop-row : goal.invariant-loop-row
invariant-loop-row l = wide_from l.w l.plane.cells.now l.row (l.plane.rows - l.row) ≡ wide l.w (plane_of l.plane)
