-- `frames::regions::count_corners` meets its contract.
use mathlib.Core.Path.{◌∙◌}
use Rattle.frames.proofs.regions.RegionLaws.{corners-counted}
use Rattle.frames.proofs.regions.count_corners.Goals as goal

pub returns : goal.returns
returns c = c.corners_in.ensures ∙ corners-counted _ _ _ c.args.layer.sized
