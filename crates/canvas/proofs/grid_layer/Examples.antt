-- Examples of document 01, by computation.
use mathlib.Core.Path.{◌≡◌, refl}
use mathlib.Core.List.{List, [], ◌∷◌}
use Prim.Native.Nat.{ℕ, ◌/◌, ◌%◌}
use Rattle.lists.specs.OneOf.{any_at}
use Rattle.lists.specs.Picture.{pic, in_rect}
use Rattle.lists.specs.Run.{run, build}
use Rattle.model.specs.Box.{─, │, ┌, ┐, └, ┘, ├, ┤, ┬, ┴, ┼, blank}
use Rattle.canvas.specs.grid_layer.Grid.{carried_code, rows_carried, grid_picture}

-- a drawing of 5 columns, whose middle row stops half way
abbrev drawn : List ℕ
drawn =
    ┌ ∷ ─ ∷ ┬ ∷ ─ ∷ ┐
    ∷ │ ∷ blank ∷ │ ∷ blank ∷ │
    ∷ ├ ∷ ─ ∷ ┤ ∷ blank ∷ │
    ∷ │ ∷ blank ∷ │ ∷ blank ∷ │
    ∷ └ ∷ ─ ∷ ┴ ∷ ─ ∷ ┘ ∷ []

-- and as GRID, where it goes across
abbrev carried : List ℕ
carried =
    ┌ ∷ ─ ∷ ┬ ∷ ─ ∷ ┐
    ∷ │ ∷ blank ∷ │ ∷ blank ∷ │
    ∷ ├ ∷ ─ ∷ ┼ ∷ ─ ∷ ┤
    ∷ │ ∷ blank ∷ │ ∷ blank ∷ │
    ∷ └ ∷ ─ ∷ ┴ ∷ ─ ∷ ┘ ∷ []

pub middle_row : build 25 (λ i. grid_picture (record { left = 0; top = 0; right = 5; bottom = 5 }) (pic 5 drawn) (i % 5) (i / 5)) ≡ carried
unfolding run carried_code any_at in_rect
middle_row = refl

-- ├ at the canvas's side stays
pub tee_at_side : rows_carried (record { left = 0; top = 0; right = 2; bottom = 1 }) (pic 2 (├ ∷ ─ ∷ [])) 0 0 ≡ ├
unfolding carried_code any_at in_rect
tee_at_side = refl

-- and at the side of a body that starts further right it becomes ┼
pub tee_inside : rows_carried (record { left = 1; top = 0; right = 3; bottom = 1 }) (pic 3 (blank ∷ ├ ∷ ─ ∷ [])) 1 0 ≡ ┼
unfolding carried_code any_at in_rect
tee_inside = refl
