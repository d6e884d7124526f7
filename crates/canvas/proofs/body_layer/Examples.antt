-- Examples of document 01, by computation.
use mathlib.Core.Path.{◌≡◌, refl}
use Rattle.lists.specs.Picture.{Picture, in_rect}
use Rattle.model.specs.Box.{░}
use Rattle.model.specs.declared.Rect.{Rect}
use Rattle.canvas.specs.body_layer.Body.{body_code, body_picture}

-- above a body that starts in row 2, BODY has ░ in row 0, and row 1 stays
abbrev low : Rect
low = record { left = 0; top = 2; right = 3; bottom = 4 }

pub shaded_row : (T B : Picture) → body_picture low T B 1 0 ≡ ░
unfolding body_code in_rect
shaded_row T B = refl

pub kept_row : (T B : Picture) → body_picture low T B 1 1 ≡ B 1 1
unfolding body_code in_rect
kept_row T B = refl
