-- What is found out about the sheet in some bytes: where it starts, its size, and where its rows stand.
use Rattle.std.specs.Prelude.{List, ◌≡◌, ℕ, ◌≤◌, ◌<◌, length, get_or, drop}
use Rattle.lists.specs.Run.{build}
use Rattle.characters.specs.white_space.Lines.{lines, texts, codes_at}
use Rattle.characters.specs.utf8.Utf8.{codes}
use Rattle.scan.specs.declared.sheet_rows.Row.{Row}
use Rattle.scan.specs.sheet_rows.Rows.{rows_at, up_to, widest}
use Rattle.scan.specs.sheet_rows.Sheet.{lines_through, behind, rest_of}

-- the trimmed lines from a place of the bytes on, without blank ones
abbrev pub texts_at : List ℕ → ℕ → List (List ℕ)
texts_at s at = texts (lines (codes (drop at s)))

-- the text behind the sheet whose first line starts at a place of the bytes
abbrev pub rest_at : List ℕ → ℕ → List ℕ
rest_at s at = behind (lines_through (lines (codes (drop at s)))) (codes (drop at s))

-- the sheet in the bytes from `from` on starts at r, or r is the end
pub record StartAt (s : List ℕ) (from r : ℕ) : Type 0 where
  pub inside : r ≤ length s
  pub same : rows_at s from ≡ up_to (texts_at s r)
  pub rest : rest_of (codes (drop from s)) ≡ rest_at s r

-- the sheet that starts at a place has so many rows, the longest has so many code points, and the text behind it starts at `end`
pub record Measured (s : List ℕ) (at rows columns end : ℕ) : Type 0 where
  pub height : rows ≡ length (up_to (texts_at s at))
  pub width : columns ≡ widest (up_to (texts_at s at))
  pub inside : end ≤ length s
  pub rest : codes (drop end s) ≡ rest_at s at

-- what stands past the end of a list of rows
abbrev pub no_row : Row
no_row = record { from = 0; count = 0 }

-- the code points of row r of the bytes
abbrev pub row_in : List ℕ → List Row → ℕ → List ℕ
row_in s d r = codes_at s (get_or d r no_row).from (get_or d r no_row).count

-- the first n of these rows
abbrev pub rows_in : List ℕ → List Row → ℕ → List (List ℕ)
rows_in s d n = build n (row_in s d)

-- each of them has as many code points as is told
abbrev pub Counted : List ℕ → List Row → ℕ → Type 0
Counted s d n = (r : ℕ) → r < n → (get_or d r no_row).count ≡ length (row_in s d r)

-- they are the rows of the sheet that starts at a place
pub record Kept (s : List ℕ) (at : ℕ) (d : List Row) (n : ℕ) : Type 0 where
  pub same : rows_in s d n ≡ up_to (texts_at s at)
  pub counted : Counted s d n
