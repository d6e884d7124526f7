-- Laws of rectangles.
use mathlib.Core.Path.{◌≡◌}
use Prim.Native.Nat.{◌≤◌}
use lib.Dec.{leb}
use borrow.Author.Tests.{le-leb}
use Rattle.model.specs.Geometry.{contains_of}
use Rattle.model.specs.declared.Rect.{Rect}

-- the last test decides where the others hold
pub contains_last : (r f : Rect) → r.left ≤ f.left → r.top ≤ f.top → f.right ≤ r.right → leb f.bottom r.bottom ≡ contains_of r f
contains_last r f a b c = rw (le-leb r.left f.left a, le-leb r.top f.top b, le-leb f.right r.right c)
