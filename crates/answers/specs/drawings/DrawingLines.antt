-- The lines that the judge prints for the bytes of a sheet.
use Rattle.std.specs.Prelude.{List, ◌++◌, ℕ, length, Ok, Err}
use Rattle.lists.specs.Picture.{Picture}
use Rattle.model.specs.Refusals.{Reading, numbers}
use Rattle.cells.specs.Plane.{Plane}
use Rattle.frames.specs.declared.outline.Outline.{Outline}
use Rattle.scan.specs.sheet_rows.Rows.{rows_at, widest}
use Rattle.canvas.specs.Layers.{text_layer, thin_layer, body_layer, grid_layer, sheet_of}
use Rattle.text_planes.specs.RegionTexts.{Regions, region_texts_of}
use Rattle.text_planes.specs.step.PlaneStep.{plane_of}
use Rattle.print.specs.Lines.{refused_line}
use Rattle.answers.specs.sketch.Drawings.{layers_lines, counted_lines, name_line}
use Rattle.answers.specs.plane_lines.Planes.{plane_lines}

-- the plane, or why there is none
abbrev pub plane_printed : Reading Plane → List ℕ
plane_printed (Ok P) = plane_lines P
plane_printed (Err r) = refused_line (numbers r)

-- the regions, the name if there is one, and the plane of GRID; or why the regions cannot be read
abbrev pub regions_lines : Outline → Picture → ℕ → ℕ → Reading Regions → List ℕ
regions_lines o grid w h (Ok g) = counted_lines g.rects g.texts ++ (name_line o.named g.texts ++ plane_printed (plane_of o g.rects grid w h))
regions_lines o grid w h (Err r) = refused_line (numbers r)

-- room for them
abbrev pub regions_bytes : ℕ
regions_bytes = 297342

-- the layers, the regions and the plane of some rows whose outline is known; or why they have none
abbrev pub drawn_lines : List (List ℕ) → Reading Outline → List ℕ
drawn_lines rs (Ok o) =
    layers_lines (text_layer rs) (thin_layer rs) (body_layer rs o.body) (grid_layer rs o.body) (widest rs) (length rs)
    ++ regions_lines o (grid_layer rs o.body) (widest rs) (length rs) (region_texts_of (text_layer rs) (thin_layer rs) (widest rs) (length rs))
drawn_lines rs (Err r) = refused_line (numbers r)

-- the lines for the bytes of a sheet
unfoldable pub drawing_lines : List ℕ → List ℕ
drawing_lines s = drawn_lines (rows_at s 0) (sheet_of s)
