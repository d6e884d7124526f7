-- `frames::regions::regions` meets its contract.
use Rattle.frames.proofs.regions.RegionLaws.{too_many, within_all, within-out}
use native.Mathlib.Omega.{arith}
use Rattle.frames.proofs.regions.regions.Goals as goal

pub returns-then-count_corners-gt-REGIONS : goal.returns-then-count_corners-gt-REGIONS
returns-then-count_corners-gt-REGIONS c = too_many _ _ _ _ (omega (arith, c.count_corners.ensures, c.if-count_corners-gt-REGIONS.true))

pub returns-in-Ok : goal.returns-in-Ok
returns-in-Ok c = within_all _ _ _ _ _ (rw c.in-Ok.is at c.regions_within.ensures)

pub returns-else-count_corners-gt-REGIONS : goal.returns-else-count_corners-gt-REGIONS
returns-else-count_corners-gt-REGIONS c =
    within-out _ _ _ _ _ (omega (arith, c.count_corners.ensures, c.if-count_corners-gt-REGIONS.false)) (rw c.in-Err.is at c.regions_within.ensures)
