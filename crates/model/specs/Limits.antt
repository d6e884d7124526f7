-- The limits of document 01, each in one place.
use Rattle.std.specs.Prelude.{ℕ}

-- "At most 96 rows of 160 characters"
abbrev pub canvas_rows : ℕ
canvas_rows = 96

abbrev pub canvas_columns : ℕ
canvas_columns = 160

-- the characters of the largest canvas
abbrev pub canvas_size : ℕ
canvas_size = 15360

-- "at most 1,024"
abbrev pub region_count : ℕ
region_count = 1024

-- "All region texts together: at most 61,440 bytes"
abbrev pub text_bytes : ℕ
text_bytes = 61440

-- "at most 64 rows of 64 cells"
abbrev pub plane_rows : ℕ
plane_rows = 64

abbrev pub plane_cells : ℕ
plane_cells = 64

-- the numbers of a slice that holds a plane: a length and the cells of each row
abbrev pub plane_size : ℕ
plane_size = 4160
