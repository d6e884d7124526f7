-- The plane of a drawing, over a finder of frames: document 01, "Regions and plane", and `plane` of the Rust's canvas.
use Rattle.std.specs.Prelude.{true, List, [], ◌∷◌, ◌++◌, ℕ, eqb, length, Ok, None}
use Rattle.lists.specs.Answer.{◌>>=◌, each, those}
use Rattle.lists.specs.Choose.{choose}
use Rattle.lists.specs.Picture.{Picture}
use Rattle.model.specs.Refusals.{Reading}
use Rattle.model.specs.declared.Rect.{Rect}
use Rattle.cells.specs.Plane.{Plane}
use Rattle.frames.specs.lookup.Lookup.{region_of}
use Rattle.frames.specs.declared.outline.Outline.{Outline}
use Rattle.text_planes.specs.plane_cells.Row.{Row, is_at, fitting, with_cell}
use Rattle.text_planes.specs.plane_rows.Rows.{Rows, output_line, annotation_line, add_line}
use Rattle.frames.specs.regions.Regions.{Finder, is_corner}
use Rattle.walks.specs.Frame.{frame_of}
use Rattle.walks.specs.Kinds.{grid}

-- the columns of a row of GRID, from the left, in which a frame has to start
abbrev pub corners_in : Picture → ℕ → ℕ → List ℕ
corners_in p w y = those (λ x. is_corner (p x y)) 0 w

-- a row in which no frame starts is no row of the plane
abbrev pub add_row : Rows → Row → Reading Rows
add_row s r =
    choose (eqb (length r.cells) 0) (Ok s)
    (Ok (record { plane = s.plane ++ (r.cells ∷ []); width = length r.cells; output = r.output; annotation = r.annotation }))

module _ (o : Outline) where
  -- the frame in column x of row y is found, then its region, then its cells are added
  abbrev pub add_cell : Finder → List Rect → ℕ → ℕ → ℕ → Row → Reading Row
  add_cell find regions n y x s = do
    f ← find x y
    i ← region_of regions f
    fitting n (with_cell o x i s)

  -- row n of the plane, of the frames that start in row y
  abbrev pub row_by : Finder → List Rect → Picture → ℕ → ℕ → ℕ → Row → Reading Row
  row_by find regions p w n y s = each (add_cell find regions n y) (corners_in p w y) s

  abbrev pub add_frames : Finder → List Rect → Picture → ℕ → ℕ → Rows → Reading Rows
  add_frames find regions p w y s = do
    r ← row_by find regions p w (length s.plane) y (record { cells = []; output = s.output; annotation = s.annotation })
    add_row s r

  -- row y of GRID: the line rows that stand there, then the row of its frames
  abbrev pub add_grid_row : Finder → List Rect → Picture → ℕ → ℕ → Rows → Reading Rows
  add_grid_row find regions p w y s = do
    a ← choose (eqb y o.y) (add_line (output_line s.output s.annotation) s) (Ok s)
    b ← choose (is_at o.below y) (add_line (annotation_line a.output) a) (Ok a)
    add_frames find regions p w y b

-- no row yet
abbrev pub no_rows : Rows
no_rows = record { plane = []; width = 0; output = None; annotation = None }

abbrev pub rows_by : Finder → Outline → List Rect → Picture → ℕ → ℕ → Reading Rows
rows_by find o regions p w h = each (add_grid_row o find regions p w) (those (λ _. true) 0 h) no_rows

-- the plane of GRID: over its rows from the top
unfoldable pub plane_by : Finder → Outline → List Rect → Picture → ℕ → ℕ → Reading Plane
plane_by find o regions p w h = do
  s ← rows_by find o regions p w h
  Ok s.plane

-- the plane by walks
abbrev pub plane_of : Outline → List Rect → Picture → ℕ → ℕ → Reading Plane
plane_of o regions p w h = plane_by (frame_of grid p w h) o regions p w h
