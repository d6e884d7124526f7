-- The rows of a sheet in a text of code points: document 01, "Canvas", and `Canvas::scan` of the Rust.
use Rattle.std.specs.Prelude.{Bool, List, [], ◌∷◌, ℕ, max, eqb, length, drop}
use Rattle.lists.specs.Choose.{choose}
use Rattle.model.specs.Box.{┌, ┘}
use Rattle.characters.specs.white_space.Lines.{lines, texts, first_of, last_of}
use Rattle.characters.specs.utf8.Utf8.{codes}

abbrev pub begins : List ℕ → Bool
begins t = eqb (first_of t) ┌

abbrev pub ends : List ℕ → Bool
ends t = eqb (last_of t) ┘

-- up to the first that ends with ┘, and that one
unfoldable pub up_to : List (List ℕ) → List (List ℕ)
up_to [] = []
up_to (t ∷ ts) = t ∷ choose (ends t) [] (up_to ts)

-- from the first that begins with ┌
unfoldable pub collect : List (List ℕ) → List (List ℕ)
collect [] = []
collect (t ∷ ts) = choose (begins t) (up_to (t ∷ ts)) (collect ts)

-- the rows of the first sheet in a text
abbrev pub rows : List ℕ → List (List ℕ)
rows s = collect (texts (lines s))

-- the rows of the sheet in the bytes from an index on
abbrev pub rows_at : List ℕ → ℕ → List (List ℕ)
rows_at s at = rows (codes (drop at s))

-- the longest row's length
unfoldable pub widest : List (List ℕ) → ℕ
widest [] = 0
widest (r ∷ rs) = max (length r) (widest rs)
