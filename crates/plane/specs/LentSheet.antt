-- What a lent plane states before the clause rules, and the slices that reading it works with.
use Rattle.std.specs.Prelude.{List, [], ℕ, ◌≤◌, length, get_or}
use Rattle.lists.specs.Answer.{◌>>=◌}
use Rattle.model.specs.Limits.{plane_size}
use Rattle.model.specs.Refusals.{Reading}
use Rattle.plane.specs.lent.Held.{Room}
use Rattle.plane.specs.lent.LentPlane.{LentPlane, lent_of}
use Rattle.plane.specs.Sheet.{Sheet, stated_sheet}

-- its plane and texts, then its upright sheet
unfoldable pub lent_sheet : LentPlane → Reading Sheet
lent_sheet l = do
  t ← lent_of l
  stated_sheet (λ k. get_or t.texts k []) t.plane

-- the slices that are worked with
pub record WorkRoom (d spans out : List ℕ) : Type 0 where
  pub lent : Room d spans
  pub upright : plane_size ≤ length out
