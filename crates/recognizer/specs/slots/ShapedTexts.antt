-- What a sheet of a known shape spells.
use Rattle.std.specs.Prelude.{List, ℕ}
use Rattle.cells.specs.Plane.{Plane}
use Rattle.cells.specs.Slices.{plane_of, text_of}
use Rattle.clauses.specs.declared.Shape.{Shape}
use Rattle.recognizer.specs.declared.slots.shaped_sheet.ShapedSheet.{ShapedSheet}

-- the bytes that its texts are parts of
abbrev pub bytes_of : ShapedSheet → List ℕ
bytes_of f = f.sheet.texts.bytes.now

-- what a definition over texts, a plane and a shape says of it
abbrev pub on_sheet : {A : Type 0} → ((ℕ → List ℕ) → Plane → Shape → A) → ShapedSheet → A
on_sheet g f = g (text_of f.sheet.texts) (plane_of f.sheet.plane) f.shape
