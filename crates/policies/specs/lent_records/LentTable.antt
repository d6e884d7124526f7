-- The slices that the table of a lent plane is made in.
use Rattle.std.specs.Prelude.{List, ℕ, ◌*◌, ◌≤◌, length}
use Rattle.model.specs.Limits.{plane_size}
use Rattle.record.specs.Slots.{slot_limit}
use Rattle.plane.specs.lent.Held.{Room}

pub record LentRoom (d spans upright slots : List ℕ) : Type 0 where
  pub lent : Room d spans
  pub sheet : plane_size ≤ length upright
  pub room : 3 * slot_limit ≤ length slots
