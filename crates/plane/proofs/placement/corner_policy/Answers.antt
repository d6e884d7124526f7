-- `plane::placement::corner_policy` meets its contract.
use Rattle.std.specs.Prelude.{Ok}
use mathlib.Core.Path.{ap, ◌∙◌}
use Rattle.plane.proofs.rule_numbers.HeldLaws.{cell_numbered}
use Rattle.plane.proofs.placement.CornerLaws.{corner_cell, corner_missing}
use Rattle.plane.proofs.placement.corner_policy.Goals as goal

pub policy_in-requires : goal.policy_in-requires
policy_in-requires c =
    cell_numbered c.args.sheet.held c.args.row 0 _ c.requires c.in-Some.ensures

pub returns-in-Some : goal.returns-in-Some
returns-in-Some c = ap Ok c.policy_in.ensures ∙ corner_cell _ _ _ _ c.in-Some.ensures

pub returns-in-None : goal.returns-in-None
returns-in-None c = corner_missing _ _ _ c.in-None.ensures
