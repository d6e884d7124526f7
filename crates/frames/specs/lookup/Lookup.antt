-- The region of a frame: document 01, "Regions and plane".
use Rattle.std.specs.Prelude.{true, List, [], ◌∷◌, ◌≡◌, ℕ, suc, ◌/◌, ◌%◌, ◌<◌, length, get_or, Ok, Err}
use Rattle.lists.specs.Choose.{choose}
use Rattle.lists.specs.Picture.{Picture, at}
use Rattle.model.specs.Geometry.{contains_of}
use Rattle.model.specs.Refusals.{Reading}
use Rattle.model.specs.declared.Rect.{Rect}
use Rattle.model.specs.declared.Refusal.TheVariants.{RegionNotFound}
use Rattle.frames.specs.regions.Regions.{Finder, is_corner}

-- the first region in row order, from the i-th on, that contains a frame; where there is none, 6 with the frame's left and top
unfoldable pub region_from : Rect → ℕ → List Rect → Reading ℕ
region_from f i [] = Err (RegionNotFound f.left f.top)
region_from f i (r ∷ rs) = choose (contains_of r f) (Ok i) (region_from f (suc i) rs)

abbrev pub region_of : List Rect → Rect → Reading ℕ
region_of rs f = region_from f 0 rs

-- the number of the first rect that contains a frame, or how many there are
unfoldable pub first_of : List Rect → Rect → ℕ
first_of [] f = 0
first_of (r ∷ rs) f = choose (contains_of r f) 0 (suc (first_of rs f))

-- the same of a frame that was found; where none was, how many there are
abbrev pub first_in : List Rect → Reading Rect → ℕ
first_in rs (Ok f) = first_of rs f
first_in rs (Err r) = length rs

-- the same of the frame that starts in a column and a row
abbrev pub number_of : Finder → List Rect → ℕ → ℕ → ℕ
number_of find rs x y = first_in rs (find x y)

-- the numbers of the frames of a picture of w columns stand at their corners, of the first `size` places
abbrev pub Numbered : Finder → List Rect → Picture → ℕ → ℕ → List ℕ → Type 0
Numbered find rs p w size found = (i : ℕ) → i < size → is_corner (at p w i) ≡ true → get_or found i 0 ≡ number_of find rs (i % w) (i / w)
