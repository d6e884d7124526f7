-- The place of a crossing, once its case is known.
use Rattle.std.specs.Prelude.{Option, None, Some}
use mathlib.Core.Path.{◌≡◌, refl}
use Prim.Native.Nat.{ℕ, ◌+◌, ◌-◌, ◌<◌}
use native.Mathlib.Omega.{arith}
use Rattle.cells.specs.declared.place.Place.{Place}
use Rattle.clauses.specs.Told.{SpotInColumn}

-- what is known of a place, once its case is known
pub spot_in_column : {s : Option Place} {p : Place} {rows : ℕ} → s ≡ Some p → p.row < rows → SpotInColumn s rows p.col
spot_in_column e h = rw e (h, refl)

pub nowhere_in_column : {s : Option Place} (rows c : ℕ) → s ≡ None → SpotInColumn s rows c
nowhere_in_column rows c e = rw e tt

-- column e, counted from the one behind column n
pub column-behind : (s : Option Place) (rows n e : ℕ) → n < e → SpotInColumn s rows e → SpotInColumn s rows (n + 1 + (e - (n + 1)))
column-behind s rows n e h p = let z : n + 1 + (e - (n + 1)) ≡ e = omega arith in rw z p
