-- A layer as a picture: the character in column x of row y.
use Rattle.std.specs.Prelude.{Bool, ◌&&◌, List, ℕ, ◌+◌, ◌*◌, ◌/◌, ◌%◌, leb, ltb, get_or}
use Rattle.lists.specs.Choose.{choose}

-- the character of a column and a row
abbrev pub Picture : Type 0
Picture = ℕ → ℕ → ℕ

-- the picture that a list of rows of w characters shows
abbrev pub pic : ℕ → List ℕ → Picture
pic w s x y = get_or s (y * w + x) 0

-- a picture of w columns and h rows, 0 outside them
unfoldable pub within : ℕ → ℕ → Picture → Picture
within w h G x y = choose (ltb x w && ltb y h) (G x y) 0

-- the canvas of w columns and h rows that a list begins with
abbrev pub canvas : ℕ → ℕ → List ℕ → Picture
canvas w h s = within w h (pic w s)

-- in row order place i of w columns is column i % w of row i / w
abbrev pub at : Picture → ℕ → ℕ → ℕ
at p w i = p (i % w) (i / w)

-- column x and row y lie in the rect; right and bottom are exclusive
unfoldable pub in_rect : ℕ → ℕ → ℕ → ℕ → ℕ → ℕ → Bool
in_rect left top right bottom x y = (leb left x && ltb x right) && (leb top y && ltb y bottom)
