-- Where a kind of cell stands in a plane: `recognize_horizontal_table` and plane.rs of the Rust.
use Rattle.std.specs.Prelude.{List, [], ◌∷◌, ℕ, suc, ◌<◌, Option, None, Some}
use Rattle.lists.specs.Choose.{choose}
use Rattle.model.specs.Cells.{same_kind}
use Rattle.model.specs.Limits.{plane_cells}
use Rattle.model.specs.declared.Cell.{Cell}
use Rattle.cells.specs.Plane.{Plane}
use Rattle.cells.specs.declared.place.Place.{Place}

unfoldable pub place_in_row : Cell → ℕ → ℕ → List Cell → Option Place
place_in_row k y x [] = None
place_in_row k y x (c ∷ r) = choose (same_kind k c) (Some (record { row = y; col = x })) (place_in_row k y (suc x) r)

abbrev pub or_else : {A : Type 0} → Option A → Option A → Option A
or_else None q = q
or_else (Some p) q = Some p

unfoldable pub place_from : Cell → ℕ → Plane → Option Place
place_from k y [] = None
place_from k y (r ∷ P) = or_else (place_in_row k y 0 r) (place_from k (suc y) P)

-- the first cell of a kind, row by row
abbrev pub place_of : Cell → Plane → Option Place
place_of k P = place_from k 0 P

-- a place of a plane of so many rows, at most 64 of them, and of 64 columns
abbrev pub SpotWithin : Option Place → ℕ → Type 0
SpotWithin (Some p) rows = (p.row < rows) × (p.col < plane_cells)
SpotWithin None rows = Unit {0}
