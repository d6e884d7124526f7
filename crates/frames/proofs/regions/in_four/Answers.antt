-- `frames::regions::in_four` meets its contract.
use native.Mathlib.Nat.{add-zero}
use Rattle.lists.specs.OneOf.{any_at}
use Rattle.frames.proofs.regions.in_four.Goals as goal

pub returns : goal.returns
unfolding any_at
returns c = rw (c.is_corner-4.ensures, c.is_corner-3.ensures, c.is_corner-2.ensures, c.is_corner.ensures, add-zero)
