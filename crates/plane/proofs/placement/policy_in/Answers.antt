-- `plane::placement::policy_in` meets its contract.
use Rattle.cells.specs.Slices.{text_of}
use Rattle.plane.specs.hit_policies.Letters.{policy_of}
use Rattle.lists.proofs.OptionLaws.{on_mapped}
use Rattle.model.specs.Cells.{region_of}
use Rattle.plane.proofs.placement.policy_in.Goals as goal

pub returns : goal.returns
returns c =
    rw (on_mapped (text_of c.args.texts) policy_of (region_of c.args.c), ← c.in_ok-of.ensures) c.hit_policy.ensures

pub returns-in_err-of : goal.returns-in_err-of
returns-in_err-of c = rw (c.from_residual.ensures, on_mapped (text_of c.args.texts) policy_of (region_of c.args.c), ← c.in_err-of.ensures)
