-- Where the first sheet of a text ends: behind its last line.
use Rattle.std.specs.Prelude.{List, [], ◌∷◌, ℕ, zero, suc}
use Rattle.lists.specs.Choose.{choose}
use Rattle.characters.specs.white_space.Lines.{lines, after}
use Rattle.characters.specs.white_space.Trim.{trim}
use Rattle.scan.specs.sheet_rows.Rows.{begins, ends}

-- the lines up to the first that ends with ┘, and that one
unfoldable pub lines_through : List (List ℕ) → ℕ
lines_through [] = 0
lines_through (l ∷ ls) = suc (choose (ends (trim l)) 0 (lines_through ls))

-- the lines before the first that begins with ┌, and those of its sheet
unfoldable pub lines_taken : List (List ℕ) → ℕ
lines_taken [] = 0
lines_taken (l ∷ ls) = choose (begins (trim l)) (lines_through (l ∷ ls)) (suc (lines_taken ls))

-- a text behind its first k lines
unfoldable pub behind : ℕ → List ℕ → List ℕ
behind zero s = s
behind (suc k) s = behind k (after s)

-- the text behind its first sheet
abbrev pub rest_of : List ℕ → List ℕ
rest_of s = behind (lines_taken (lines s)) s
