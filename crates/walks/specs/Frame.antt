-- Frames: by four walks, for the refusals, and by the characters on their sides, which is document 01's definition.
use Rattle.std.specs.Prelude.{true, ◌&&◌, List, ◌≡◌, ℕ, ◌+◌, ◌-◌, ◌<◌, eqb, Ok, Err}
use Rattle.lists.specs.Answer.{◌>>=◌}
use Rattle.lists.specs.Choose.{choose}
use Rattle.lists.specs.OneOf.{one_of}
use Rattle.lists.specs.Picture.{Picture}
use Rattle.model.specs.Refusals.{Reading}
use Rattle.model.specs.declared.Rect.{Rect}
use Rattle.model.specs.declared.Refusal.TheVariants.{RectangleNotClosed}
use Rattle.walks.specs.Walk.{go_of}
use Rattle.walks.specs.declared.Direction.TheVariants.{Right, Down, Left, Up}

-- the characters of a kind of frame: each corner's, and each side's
pub record Kind : Type 0 where
  pub top_right : List ℕ
  pub top : List ℕ
  pub bottom_right : List ℕ
  pub right : List ℕ
  pub bottom_left : List ℕ
  pub bottom : List ℕ
  pub top_left : List ℕ
  pub left : List ℕ

-- the rect of a frame whose top left corner is in column x of row y, and whose bottom right one in column bx of row by
abbrev pub rect_of : ℕ → ℕ → ℕ → ℕ → Rect
rect_of x y bx by = record { left = x; top = y; right = bx + 1; bottom = by + 1 }

-- four walks ended in column cx of row cy: they are closed where they began (5)
abbrev pub close_of : ℕ → ℕ → ℕ → ℕ → ℕ → ℕ → Reading Rect
close_of x y cx cy bx by = choose (eqb cx x && eqb cy y) (Ok (rect_of x y bx by)) (Err (RectangleNotClosed cx cy))

-- a way to find the frame of a kind that starts in column x of row y, in a picture of w columns and h rows
abbrev pub FrameFinder : Type 0
FrameFinder = Kind → Picture → ℕ → ℕ → ℕ → ℕ → Reading Rect

-- by walks: right, down, left and up from column x of row y, in a picture of w columns and h rows
unfoldable pub frame_of : Kind → Picture → ℕ → ℕ → ℕ → ℕ → Reading Rect
frame_of K p w h x y = do
  a ← go_of Right p w h x y K.top_right K.top
  b ← go_of Down p w h (x + a) y K.bottom_right K.right
  c ← go_of Left p w h (x + a) (y + b) K.bottom_left K.bottom
  d ← go_of Up p w h (x + a - c) (y + b) K.top_left K.left
  close_of x y (x + a - c) (y + b - d) (x + a) (y + b)

-- a frame by the characters that stand on it: no walk. Its bottom right corner is in column bx of row by
pub record Frame (K : Kind) (p : Picture) (w h x y bx by : ℕ) : Type 0 where
  pub wide : x < bx
  pub high : y < by
  pub column : bx < w
  pub row : by < h
  pub top_left : one_of (p x y) K.top_left ≡ true
  pub top_right : one_of (p bx y) K.top_right ≡ true
  pub bottom_right : one_of (p bx by) K.bottom_right ≡ true
  pub bottom_left : one_of (p x by) K.bottom_left ≡ true
  pub top : (i : ℕ) → x < i → i < bx → one_of (p i y) K.top ≡ true
  pub bottom : (i : ℕ) → x < i → i < bx → one_of (p i by) K.bottom ≡ true
  pub left : (j : ℕ) → y < j → j < by → one_of (p x j) K.left ≡ true
  pub right : (j : ℕ) → y < j → j < by → one_of (p bx j) K.right ≡ true

-- the frame that starts in column x of row y has the columns and rows of r
pub record Starts (K : Kind) (p : Picture) (w h x y : ℕ) (r : Rect) : Type 0 where
  pub bx : ℕ
  pub by : ℕ
  pub is : r ≡ rect_of x y bx by
  pub frame : Frame K p w h x y bx by

-- a place of a picture of w columns and h rows
pub record Place (w h x y : ℕ) : Type 0 where
  pub column : x < w
  pub row : y < h
