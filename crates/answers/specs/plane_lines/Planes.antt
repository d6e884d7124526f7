-- The lines of a plane: its count of rows, and the numbers of each row's cells; and of the upright sheet.
use Rattle.std.specs.Prelude.{List, [], ◌∷◌, ◌++◌, map, ℕ, length}
use Rattle.model.specs.Cells.{cell_number}
use Rattle.model.specs.declared.Cell.{Cell}
use Rattle.cells.specs.Plane.{Plane}
use Rattle.print.specs.Decimal.{listed}
use Rattle.print.specs.Lines.{line_feed, count_line, three_line}

-- "plane "
abbrev pub plane_word : List ℕ
plane_word = 0x70 ∷ 0x6C ∷ 0x61 ∷ 0x6E ∷ 0x65 ∷ 0x20 ∷ []

-- K c1 .. cK: a row's count of cells and their numbers
unfoldable pub cells_line : List Cell → List ℕ
cells_line r = listed (map cell_number r) ++ (line_feed ∷ [])

-- a line for each row
unfoldable pub cells_lines : Plane → List ℕ
cells_lines [] = []
cells_lines (r ∷ P) = cells_line r ++ cells_lines P

-- plane R, and R rows
unfoldable pub plane_lines : Plane → List ℕ
plane_lines P = count_line plane_word (length P) ++ cells_lines P

-- room for each row of at most 64 cells
abbrev pub cells_bytes : ℕ
cells_bytes = 1365

-- room for the plane of at most 64 rows
abbrev pub plane_bytes : ℕ
plane_bytes = 87387

-- "upright "
abbrev pub upright_word : List ℕ
upright_word = 0x75 ∷ 0x70 ∷ 0x72 ∷ 0x69 ∷ 0x67 ∷ 0x68 ∷ 0x74 ∷ 0x20 ∷ []

-- upright O P R, and the plane of the upright sheet
unfoldable pub upright_lines : ℕ → ℕ → ℕ → Plane → List ℕ
upright_lines orientation policy rules P = three_line upright_word orientation policy rules ++ plane_lines P

-- room for them
abbrev pub upright_bytes : ℕ
upright_bytes = 87458
