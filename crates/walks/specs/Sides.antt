-- A finder of frames by the characters on their sides, with no walk: document 01, "Regions and plane".
use Rattle.std.specs.Prelude.{Bool, true, ◌&&◌, ℕ, zero, suc, ◌-◌, ltb, Option, None, Some, Ok, Err}
use Rattle.lists.specs.Choose.{choose}
use Rattle.lists.specs.OneOf.{one_of}
use Rattle.lists.specs.Picture.{Picture}
use Rattle.model.specs.Refusals.{Reading}
use Rattle.model.specs.declared.Rect.{Rect}
use Rattle.model.specs.declared.Refusal.TheVariants.{RectangleNotClosed}
use Rattle.walks.specs.Frame.{FrameFinder, Kind, rect_of}

-- f holds at the n numbers from k on
unfoldable pub all_from : (ℕ → Bool) → ℕ → ℕ → Bool
all_from f k zero = true
all_from f k (suc n) = f k && all_from f (suc k) n

-- f holds at every number between a and b
abbrev pub between : (ℕ → Bool) → ℕ → ℕ → Bool
between f a b = all_from f (suc a) (b - suc a)

module _ (K : Kind) (p : Picture) (x y bx by : ℕ) where
  abbrev pub corners : Bool
  corners = (one_of (p x y) K.top_left && one_of (p bx y) K.top_right) && (one_of (p bx by) K.bottom_right && one_of (p x by) K.bottom_left)

  abbrev pub sides : Bool
  sides =
      (between (λ i. one_of (p i y) K.top) x bx && between (λ i. one_of (p i by) K.bottom) x bx)
      && (between (λ j. one_of (p x j) K.left) y by && between (λ j. one_of (p bx j) K.right) y by)

  -- whether a frame is drawn from column x of row y to column bx of row by
  unfoldable pub drawn : Bool
  drawn = (ltb x bx && ltb y by) && (corners && sides)

abbrev pub or_else : {A : Type 0} → Option A → Option A → Option A
or_else (Some a) b = Some a
or_else None b = b

-- the first of f k, f (k + 1), .., n of them
unfoldable pub first_of : {A : Type 0} → (ℕ → Option A) → ℕ → ℕ → Option A
first_of f k zero = None
first_of f k (suc n) = or_else (f k) (first_of f (suc k) n)

-- the frame that starts in column x of row y: every bottom right corner is tried
unfoldable pub frame_at : Kind → Picture → ℕ → ℕ → ℕ → ℕ → Option Rect
frame_at K p w h x y = first_of (λ bx. first_of (λ by. choose (drawn K p x y bx by) (Some (rect_of x y bx by)) None) 0 h) 0 w

abbrev pub given : ℕ → ℕ → Option Rect → Reading Rect
given x y (Some r) = Ok r
given x y None = Err (RectangleNotClosed x y)

-- the finder; where no frame starts, what is drawn is not closed
abbrev pub by_sides : FrameFinder
by_sides K p w h x y = given x y (frame_at K p w h x y)
