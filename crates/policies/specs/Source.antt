-- What states a policy: document 01, "The policy that a drawing states".
use Rattle.std.specs.Prelude.{List, ℕ}
use Rattle.model.specs.Refusals.{Reading}
use Rattle.record.specs.Policy.{Policy}
use Rattle.plane.specs.lent.LentPlane.{LentPlane}
use Rattle.policies.specs.DrawnPolicy.{drawn_policy}
use Rattle.policies.specs.LentPolicy.{lent_policy}

-- a drawing, by its bytes, or a lent plane
pub data Source : Type 0 where
  drawing : List ℕ → Source
  plane : LentPlane → Source

-- its policy; no walk finds a frame in it, and no record is looked at
abbrev pub stated_by : Source → Reading Policy
stated_by (drawing s) = drawn_policy s
stated_by (plane l) = lent_policy l
