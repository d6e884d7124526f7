-- A cursor and the walks that move it: document 01, "The cursor is lent and moved by each walk; a walk that fails leaves it unmoved".
use Rattle.std.specs.Prelude.{ℕ, ◌+◌, ◌-◌, ◌≤◌, ◌<◌, ◌^◌, Ok, Err}
use Rattle.model.specs.Refusals.{Reading}
use Rattle.model.specs.declared.Point.{Point}
use Rattle.walks.specs.declared.Direction.{Direction}
use Rattle.walks.specs.declared.Direction.TheVariants.{Right, Down, Left, Up}

abbrev pub point : ℕ → ℕ → Point
point x y = record { x = x; y = y }

-- the place k steps on
abbrev pub onward : Direction → Point → ℕ → Point
onward Right p k = point (p.x + k) p.y
onward Down p k = point p.x (p.y + k)
onward Left p k = point (p.x - k) p.y
onward Up p k = point p.x (p.y - k)

-- where a walk leaves the cursor: a refused one where it was
abbrev pub place_after : Direction → Point → Reading ℕ → Point
place_after d p (Ok k) = onward d p k
place_after d p (Err r) = p

-- k steps on is a place of numbers of 64 bits
abbrev pub Onward : Direction → ℕ → ℕ → ℕ → Type 0
Onward Right x y k = x + k < 2 ^ 64
Onward Down x y k = y + k < 2 ^ 64
Onward Left x y k = k ≤ x
Onward Up x y k = k ≤ y
