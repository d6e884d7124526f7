-- `plane::placement::holds` meets its contract.
use mathlib.Core.Path.{ap, ◌∙◌}
use Rattle.std.specs.Option.{is_some}
use Rattle.cells.specs.Slices.{plane_of}
use Rattle.plane.proofs.placement.HoldsLaws.{in_plane}
use Rattle.plane.proofs.placement.holds.Goals as goal

pub returns : goal.returns
returns c = c.is_some.ensures ∙ ap is_some c.spot_of.ensures.spot ∙ in_plane c.args.kind 0 (plane_of c.args.plane)
