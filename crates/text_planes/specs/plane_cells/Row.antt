-- A row of cells so far, and what each frame adds: document 01, "Regions and plane", and `plane` of the Rust's canvas.
use Rattle.std.specs.Prelude.{Bool, false, List, [], ◌∷◌, ◌++◌, ℕ, eqb, leb, ltb, length, Ok, Err, Option, Some, None}
use Rattle.lists.specs.Choose.{choose}
use Rattle.model.specs.Limits.{plane_rows, plane_cells}
use Rattle.model.specs.Refusals.{Reading}
use Rattle.model.specs.declared.Cell.{Cell}
use Rattle.model.specs.declared.Cell.TheVariants.{Region, VerticalOutputDoubleLine, VerticalAnnotationDoubleLine}
use Rattle.model.specs.declared.Refusal.TheVariants.{OverLimit}
use Rattle.frames.specs.declared.outline.Outline.{Outline}

abbrev pub is_at : Option ℕ → ℕ → Bool
is_at (Some i) x = eqb i x
is_at None x = false

-- a row of the plane so far, and in which columns the last row that had them has the double lines before outputs and annotations
pub record Row : Type 0 where
  pub cells : List Cell
  pub output : Option ℕ
  pub annotation : Option ℕ

-- row n of the plane: 7 past 64 rows, or past 64 cells
abbrev pub fitting : ℕ → Row → Reading Row
fitting n s = choose (leb plane_rows n) (Err OverLimit) (choose (ltb plane_cells (length s.cells)) (Err OverLimit) (Ok s))

module _ (o : Outline) where
  -- the double lines left of a frame in column x
  abbrev pub output_before : ℕ → List Cell
  output_before x = choose (eqb x o.x) (VerticalOutputDoubleLine ∷ []) []

  abbrev pub annotation_before : ℕ → List Cell
  annotation_before x = choose (is_at o.right x) (VerticalAnnotationDoubleLine ∷ []) []

  -- the row with the cell of a frame in column x, of region i, behind the double lines left of it
  abbrev pub with_cell : ℕ → ℕ → Row → Row
  with_cell x i s =
      record {
        cells = s.cells ++ (output_before x ++ (annotation_before x ++ (Region i ∷ [])));
        output = choose (eqb x o.x) (Some (length s.cells)) s.output;
        annotation = choose (is_at o.right x) (Some (length (s.cells ++ output_before x))) s.annotation;
      }
