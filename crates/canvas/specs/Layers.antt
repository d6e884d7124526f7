-- The layers of the rows of a sheet, as pictures: document 01, "Canvas".
use Rattle.std.specs.Prelude.{List, map, ℕ, length, Err}
use Rattle.lists.specs.Answer.{◌>>=◌}
use Rattle.lists.specs.Picture.{Picture, canvas}
use Rattle.model.specs.Refusals.{Reading}
use Rattle.model.specs.declared.Rect.{Rect}
use Rattle.model.specs.declared.Refusal.TheVariants.{InvalidUtf8}
use Rattle.canvas.specs.body_layer.Body.{body_picture}
use Rattle.canvas.specs.grid_layer.Grid.{grid_picture}
use Rattle.canvas.specs.thin_layer.Thin.{thin_picture}
use Rattle.frames.specs.outline.Outline.{outline_by}
use Rattle.frames.specs.declared.outline.Outline.{Outline}
use Rattle.scan.specs.sheet_rows.Rows.{rows_at, widest}
use Rattle.scan.specs.Canvas.{size_of}
use Rattle.scan.specs.Rows.{blank, flat}
use Rattle.characters.specs.utf8.Utf8.{checked, on_text}
use Rattle.walks.specs.Frame.{FrameFinder, frame_of}

-- TEXT: the rows, each filled to the longest
abbrev pub text_layer : List (List ℕ) → Picture
text_layer rs = canvas (widest rs) (length rs) (flat (widest rs) rs)

-- THIN: double lines as single ones
abbrev pub thin_layer : List (List ℕ) → Picture
thin_layer rs = thin_picture (widest rs) (length rs) (text_layer rs)

-- BODY: THIN without the name, over blanks
abbrev pub body_layer : List (List ℕ) → Rect → Picture
body_layer rs r = body_picture r (thin_layer rs) (canvas (widest rs) (length rs) (flat (widest rs) (map blank rs)))

-- GRID: the lines of BODY carried across
abbrev pub grid_layer : List (List ℕ) → Rect → Picture
grid_layer rs r = grid_picture r (body_layer rs r)

-- the outline of the table that some rows draw
unfoldable pub drawing_by : FrameFinder → List (List ℕ) → Reading Outline
drawing_by find rs = do
  size ← size_of rs
  outline_by find (text_layer rs) size.width size.height

-- the outline of the first sheet in some bytes: number 1 comes first, wherever the ill-formed bytes stand
unfoldable pub sheet_by : FrameFinder → List ℕ → Reading Outline
sheet_by find s = on_text (checked s) (λ at. Err (InvalidUtf8 at)) (drawing_by find (rows_at s 0))

-- the same by walks
abbrev pub drawing_of : List (List ℕ) → Reading Outline
drawing_of = drawing_by frame_of

abbrev pub sheet_of : List ℕ → Reading Outline
sheet_of = sheet_by frame_of
