-- A cell of a kind stands in a plane where there is a first one.
use Rattle.std.specs.Prelude.{Option, None, Some}
use Rattle.std.specs.Option.{is_some}
use mathlib.Core.Path.{◌≡◌, refl, ap, ◌∙◌}
use mathlib.Core.Bool.{Bool, true, false, ◌||◌}
use mathlib.Core.List.{List, [], ◌∷◌}
use Prim.Native.Nat.{ℕ, suc}
use Rattle.lists.specs.Choose.{choose}
use Rattle.model.specs.Cells.{same_kind}
use Rattle.model.specs.declared.Cell.{Cell}
use Rattle.cells.specs.Places.{or_else, place_in_row, place_from}
use Rattle.cells.specs.Plane.{Plane}
use Rattle.cells.specs.declared.place.Place.{Place}
use Rattle.plane.specs.placement.Orientation.{holds_in, holds}

either : (p q : Option Place) → is_some (or_else p q) ≡ is_some p || is_some q
either None q = refl
either (Some p) q = refl

here : (t : Bool) (p : Place) (q : Option Place) → is_some (choose t (Some p) q) ≡ t || is_some q
here true p q = refl
here false p q = refl

in_row : (kind : Cell) (y x : ℕ) (r : List Cell) → is_some (place_in_row kind y x r) ≡ holds_in kind r
unfolding place_in_row holds_in
in_row kind y x [] = refl
in_row kind y x (c ∷ r) = here (same_kind kind c) _ (place_in_row kind y (suc x) r) ∙ ap (λ (b : Bool). same_kind kind c || b) (in_row kind y (suc x) r)

pub in_plane : (kind : Cell) (y : ℕ) (P : Plane) → is_some (place_from kind y P) ≡ holds kind P
unfolding place_from holds
in_plane kind y [] = refl
in_plane kind y (r ∷ P) = either (place_in_row kind y 0 r) (place_from kind (suc y) P) ∙ rw (in_row kind y 0 r, in_plane kind (suc y) P)
