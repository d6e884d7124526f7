-- The upright sheet that a plane states, with its hit policy and its rule count: document 01, "Placement and upright sheet".
use Rattle.std.specs.Prelude.{List, [], ◌∷◌, ℕ, Ok}
use Rattle.lists.specs.Answer.{◌>>=◌}
use Rattle.lists.specs.Choose.{on_some}
use Rattle.model.specs.Refusals.{Reading}
use Rattle.model.specs.declared.HitPolicy.{HitPolicy}
use Rattle.model.specs.declared.Orientation.{Orientation}
use Rattle.cells.specs.Plane.{Plane}
use Rattle.plane.specs.placement.Orientation.{oriented_of}
use Rattle.plane.specs.rule_numbers.Numbering.{last}
use Rattle.cells.specs.turning.Upright.{but_last, upright_of}

pub record Sheet : Type 0 where
  pub orientation : Orientation
  pub policy : HitPolicy
  pub rules : ℕ
  pub plane : Plane

-- what a plane states, with the texts of its regions, trimmed
unfoldable pub stated_sheet : (ℕ → List ℕ) → Plane → Reading Sheet
stated_sheet text P = do
  o ← oriented_of text P
  u ← upright_of o.orientation P
  Ok (record { orientation = o.orientation; policy = o.policy; rules = o.rules; plane = u })

-- "with its last row put before its first"
abbrev pub last_first : Plane → Plane
last_first P = on_some (last P) (λ r. r ∷ but_last P) []
