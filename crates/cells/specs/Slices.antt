-- A plane and the texts of its regions, as the slices that hold them show them.
use Rattle.std.specs.Prelude.{List, ℕ}
use Rattle.cells.specs.Plane.{plane_in}
use Rattle.cells.specs.Plane as cells
use Rattle.cells.specs.Spans.{text_in, texts_in}
use Rattle.cells.specs.declared.plane.Plane.{Plane}
use Rattle.cells.specs.declared.texts.Texts.{Texts}

-- the rows of a plane
abbrev pub plane_of : Plane → cells.Plane
plane_of p = plane_in p.cells.now p.rows

-- the text of each region
abbrev pub text_of : Texts → ℕ → List ℕ
text_of t = text_in t.bytes.now t.spans.now t.count

-- the texts, in order
abbrev pub texts_of : Texts → List (List ℕ)
texts_of t = texts_in t.bytes.now t.spans.now t.count
