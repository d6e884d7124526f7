-- The lists of a lent plane in a text.
use Rattle.std.specs.Prelude.{None}
use mathlib.Core.List.{List, [], ◌∷◌}
use mathlib.Core.Path.{◌≡◌, refl}
use Prim.Native.Nat.{ℕ, ◌<◌}
use native.Mathlib.Omega.{arith}
use lib.ListN.{length}
use Rattle.plane.specs.lent.LentPlane.{LentPlane}
use Rattle.answers.specs.lent_lists.LentText.{ended}

-- something is left behind the last list
pub left_over : (s : List ℕ) (l : LentPlane) → 0 < length s → ended s l ≡ None
left_over [] l h = absurd (omega arith)
left_over (c ∷ s) l h = refl
