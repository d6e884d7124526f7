-- Rects in a slice: four numbers each.
use Rattle.std.specs.Prelude.{List, ℕ, ◌+◌, ◌*◌, ◌≤◌, ◌<◌, ◌^◌, get_or}
use Rattle.lists.specs.Run.{run}
use Rattle.model.specs.declared.Rect.{Rect}
use Rattle.cells.specs.declared.rects.list.Rects.{Rects}

abbrev pub rect_at : List ℕ → ℕ → Rect
rect_at d k = record { left = get_or d (k * 4) 0; top = get_or d (k * 4 + 1) 0; right = get_or d (k * 4 + 2) 0; bottom = get_or d (k * 4 + 3) 0 }

-- the first n rects
abbrev pub rects_of : List ℕ → ℕ → List Rect
rects_of d n = run (rect_at d) 0 n

-- the rects that a slice holds
abbrev pub rects_in : Rects → List Rect
rects_in r = rects_of r.numbers.now r.count

-- the numbers of a rect fit the slice's
pub record Small (r : Rect) : Type 0 where
  pub left : r.left < 2 ^ 32
  pub top : r.top < 2 ^ 32
  pub right : r.right < 2 ^ 32
  pub bottom : r.bottom < 2 ^ 32

-- a frame within w columns and h rows: it has a left and a right side, a top and a bottom
pub record RectIn (w h : ℕ) (r : Rect) : Type 0 where
  pub wide : r.left + 2 ≤ r.right
  pub columns : r.right ≤ w
  pub tall : r.top + 2 ≤ r.bottom
  pub rows : r.bottom ≤ h
