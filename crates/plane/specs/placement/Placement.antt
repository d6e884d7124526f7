-- Where the hit policy stands in a plane: document 01, "Placement and upright sheet", and plane.rs of the Rust.
use Rattle.std.specs.Prelude.{List, ℕ, Option, None, Ok, Err}
use Rattle.lists.specs.Answer.{◌>>=◌}
use Rattle.lists.specs.Choose.{on_some}
use Rattle.model.specs.Cells.{region_of}
use Rattle.model.specs.Refusals.{Reading}
use Rattle.model.specs.declared.Cell.{Cell}
use Rattle.model.specs.declared.HitPolicy.{HitPolicy}
use Rattle.model.specs.declared.HitPolicyPlacement.{HitPolicyPlacement}
use Rattle.model.specs.declared.HitPolicyPlacement.TheVariants.{TopLeft, BottomLeft, NotPresent}
use Rattle.model.specs.declared.Refusal.TheVariants.{PlaneEmpty, PlaneMalformed}
use Rattle.plane.specs.hit_policies.Letters.{policy_of}
use Rattle.cells.specs.Plane.{Plane}
use Rattle.plane.specs.rule_numbers.Numbering.{first, last}

-- the first cell of a row: 10 where a row has none, 8 where there is no row
abbrev pub corner_of : Option (List Cell) → Reading Cell
corner_of row = on_some row (λ cells. on_some (first cells) Ok (Err PlaneMalformed)) (Err PlaneEmpty)

-- the text of each region, trimmed
module _ (text : ℕ → List ℕ) where
  abbrev pub policy_in : Cell → Option HitPolicy
  policy_in c = on_some (region_of c) (λ r. policy_of (text r)) None

  abbrev pub corner_policy : Option (List Cell) → Reading (Option HitPolicy)
  corner_policy row = do
    c ← corner_of row
    Ok (policy_in c)

  -- the policy in the last row's corner
  abbrev pub bottom_left : Plane → Reading HitPolicyPlacement
  bottom_left P = do
    p ← corner_policy (last P)
    Ok (on_some p BottomLeft NotPresent)

  -- in the first row's corner, or else there
  unfoldable pub placement_of : Plane → Reading HitPolicyPlacement
  placement_of P = do
    p ← corner_policy (first P)
    on_some p (λ h. Ok (TopLeft h)) (bottom_left P)
