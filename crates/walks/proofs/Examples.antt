-- Frames by example.
use Rattle.std.specs.Prelude.{Ok, Err}
use mathlib.Core.Path.{◌≡◌, refl}
use mathlib.Core.List.{List, [], ◌∷◌}
use Prim.Native.Nat.{ℕ}
use Rattle.lists.specs.OneOf.{one_of}
use Rattle.lists.specs.Picture.{canvas, within}
use Rattle.model.specs.Box.{─, │, ┌, ┐, └, ┘, ├, ┤, ┬, ┴}
use Rattle.model.specs.declared.Refusal.TheVariants.{CharactersNotFound, CharacterNotAllowed, RectangleNotClosed}
use Rattle.walks.specs.Walk.{walk_from}
use Rattle.walks.specs.Frame.{frame_of, rect_of}
use Rattle.walks.specs.Kinds.{thin, grid}

-- ┌─┬┐
-- │ ├┤
-- └─┴┘
abbrev drawing : List ℕ
drawing = ┌ ∷ ─ ∷ ┬ ∷ ┐ ∷ │ ∷ 32 ∷ ├ ∷ ┤ ∷ └ ∷ ─ ∷ ┴ ∷ ┘ ∷ []

-- the left box has a ├ on its right side: a region, and no cell of the plane
left-region : frame_of thin (canvas 4 3 drawing) 4 3 0 0 ≡ Ok (rect_of 0 0 2 2)
unfolding frame_of walk_from one_of within
left-region = refl

left_cell : frame_of grid (canvas 4 3 drawing) 4 3 0 0 ≡ Err (CharacterNotAllowed ├)
unfolding frame_of walk_from one_of within
left_cell = refl

lower_right : frame_of thin (canvas 4 3 drawing) 4 3 2 1 ≡ Ok (rect_of 2 1 3 2)
unfolding frame_of walk_from one_of within
lower_right = refl

-- no box starts in the last column: the walk right has no character ahead
last-column : frame_of thin (canvas 4 3 drawing) 4 3 3 0 ≡ Err (CharactersNotFound ┐)
unfolding frame_of walk_from one_of within
last-column = refl

-- ┌─┐
-- │┌│
-- └┴┘
abbrev stair : List ℕ
stair = ┌ ∷ ─ ∷ ┐ ∷ │ ∷ ┌ ∷ │ ∷ └ ∷ ┴ ∷ ┘ ∷ []

-- the walks end at the inner corner
not_closed : frame_of thin (canvas 3 3 stair) 3 3 0 0 ≡ Err (RectangleNotClosed 1 1)
unfolding frame_of walk_from one_of within
not_closed = refl
