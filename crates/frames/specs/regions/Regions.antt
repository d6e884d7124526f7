-- The regions of a drawing: document 01, "Regions and plane".
use Rattle.std.specs.Prelude.{Bool, List, [], ◌∷◌, ◌++◌, ℕ, ◌*◌, ◌/◌, ◌%◌, ltb, length, Ok, Err}
use Rattle.lists.specs.Answer.{◌>>=◌, each, those}
use Rattle.lists.specs.Choose.{choose}
use Rattle.lists.specs.OneOf.{one_of}
use Rattle.lists.specs.Picture.{Picture, at}
use Rattle.model.specs.Limits.{region_count}
use Rattle.model.specs.Refusals.{Reading}
use Rattle.model.specs.declared.Rect.{Rect}
use Rattle.model.specs.declared.Refusal.TheVariants.{OverLimit}
use Rattle.walks.specs.Frame.{frame_of}
use Rattle.walks.specs.Kinds.{thin}

-- the frame that starts in a column and a row, or why there is none
abbrev pub Finder : Type 0
Finder = ℕ → ℕ → Reading Rect

-- ┌ ├ ┬ ┼
abbrev pub is_corner : ℕ → Bool
is_corner c = one_of c thin.top_left

-- the places of the top left corners, in row order
abbrev pub corners_of : Picture → ℕ → ℕ → List ℕ
corners_of p w h = those (λ i. is_corner (at p w i)) 0 (h * w)

-- one region more, whose top left corner stands at place i
abbrev pub add_region : Finder → ℕ → ℕ → List Rect → Reading (List Rect)
add_region find w i rs = do
  r ← find (i % w) (i / w)
  Ok (rs ++ (r ∷ []))

-- the frames of all corners, in row order. The corners are counted before any frame is looked for (7)
unfoldable pub regions_by : Finder → Picture → ℕ → ℕ → Reading (List Rect)
regions_by find p w h = choose (ltb region_count (length (corners_of p w h))) (Err OverLimit) (each (add_region find w) (corners_of p w h) [])

-- the regions by walks
abbrev pub regions_of : Picture → ℕ → ℕ → Reading (List Rect)
regions_of p w h = regions_by (frame_of thin p w h) p w h
