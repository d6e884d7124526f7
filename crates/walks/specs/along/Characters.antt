-- What the walks along each kind of lines search for and go over: document 01, "Canvas" and "Regions and plane", and the Rust's
-- `recognize_body_rect` and `recognize_crossings`. The characters stand in the Rust's order.
use Rattle.std.specs.Prelude.{List, [], ◌∷◌, ℕ}
use Rattle.lists.specs.Picture.{Picture}
use Rattle.model.specs.Box.{═, ║, ╞, ╟, ╡, ╢, ╤, ╥, ╧, ╨, ╪, ╫, ╬}
use Rattle.model.specs.Refusals.{Reading}
use Rattle.walks.specs.Frame.{Kind}
use Rattle.walks.specs.Kinds.{thin, grid, name}
use Rattle.walks.specs.Walk.{go_of}
use Rattle.walks.specs.declared.Direction.{Direction}
use Rattle.walks.specs.declared.Direction.TheVariants.{Right, Down, Left, Up}
use Rattle.walks.specs.declared.along.Lines.{Lines}
use Rattle.walks.specs.declared.along.Lines.TheVariants.{Region, Rectangle, Name, Body, Crossing}

-- of four, that of a direction
abbrev pub toward : {A : Type 0} → Direction → A → A → A → A → A
toward Right right down left up = right
toward Down right down left up = down
toward Left right down left up = left
toward Up right down left up = up

-- a frame is walked right, down, left and up: the corner that ends each side, and the side
abbrev pub corner_of : Kind → Direction → List ℕ
corner_of K d = toward d K.top_right K.bottom_right K.bottom_left K.top_left

abbrev pub side_of : Kind → Direction → List ℕ
side_of K d = toward d K.top K.right K.bottom K.left

-- the characters that end a walk
abbrev pub searched_of : Lines → Direction → List ℕ
searched_of Region d = corner_of thin d
searched_of Rectangle d = corner_of grid d
searched_of Name d = corner_of name d
searched_of Body d = toward d (╡ ∷ []) (╨ ∷ []) (╞ ∷ []) (╥ ∷ [])
searched_of Crossing d = toward d (╬ ∷ []) (╬ ∷ []) (╬ ∷ []) (╬ ∷ [])

-- the characters that a walk goes over; none goes left or up to an annotation crossing
abbrev pub allowed_of : Lines → Direction → List ℕ
allowed_of Region d = side_of thin d
allowed_of Rectangle d = side_of grid d
allowed_of Name d = side_of name d
allowed_of Body d = toward d (═ ∷ ╪ ∷ ╧ ∷ ╤ ∷ ╬ ∷ []) (║ ∷ ╫ ∷ ╟ ∷ ╢ ∷ ╬ ∷ []) (═ ∷ ╪ ∷ ╧ ∷ ╤ ∷ []) (║ ∷ ╫ ∷ ╟ ∷ ╢ ∷ [])
allowed_of Crossing d = toward d (═ ∷ ╪ ∷ []) (║ ∷ ╫ ∷ []) (═ ∷ ╪ ∷ []) (║ ∷ ╫ ∷ [])

-- the kind of the frames that are drawn along lines
abbrev pub kind_of : Lines → Kind
kind_of lines =
    record {
      top_right = searched_of lines Right;
      top = allowed_of lines Right;
      bottom_right = searched_of lines Down;
      right = allowed_of lines Down;
      bottom_left = searched_of lines Left;
      bottom = allowed_of lines Left;
      top_left = searched_of lines Up;
      left = allowed_of lines Up;
    }

-- the walk along lines from column x of row y, in a picture of w columns and h rows
abbrev pub along_of : Lines → Direction → Picture → ℕ → ℕ → ℕ → ℕ → Reading ℕ
along_of lines d p w h x y = go_of d p w h x y (searched_of lines d) (allowed_of lines d)
