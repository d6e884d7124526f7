-- The rows of a plane so far, and what each line adds: document 01, "Regions and plane", and `plane` of the Rust's canvas.
use Rattle.std.specs.Prelude.{[], ◌∷◌, ◌++◌, ℕ, leb, length, Ok, Err, Option}
use Rattle.lists.specs.Choose.{choose}
use Rattle.lists.specs.Run.{build}
use Rattle.model.specs.Limits.{plane_rows}
use Rattle.model.specs.Refusals.{Reading}
use Rattle.model.specs.declared.Cell.{Cell}
use Rattle.model.specs.declared.Cell.TheVariants.{HorizontalOutputDoubleLine, HorizontalAnnotationsDoubleLine, MainDoubleCrossing, HorizontalDoubleCrossing, VerticalDoubleCrossing}
use Rattle.model.specs.declared.Refusal.TheVariants.{OverLimit}
use Rattle.cells.specs.Plane.{Plane}
use Rattle.text_planes.specs.plane_cells.Row.{is_at}

-- the plane so far, with the length of its last row
pub record Rows : Type 0 where
  pub plane : Plane
  pub width : ℕ
  pub output : Option ℕ
  pub annotation : Option ℕ

-- cell i of the line row of the main crossing
abbrev pub output_line : Option ℕ → Option ℕ → ℕ → Cell
output_line output annotation i = choose (is_at output i) MainDoubleCrossing (choose (is_at annotation i) HorizontalDoubleCrossing HorizontalOutputDoubleLine)

-- cell i of the line row of the annotation crossing below it
abbrev pub annotation_line : Option ℕ → ℕ → Cell
annotation_line output i = choose (is_at output i) VerticalDoubleCrossing HorizontalAnnotationsDoubleLine

-- a line row, as long as the row above it: 7 past 64 rows
abbrev pub add_line : (ℕ → Cell) → Rows → Reading Rows
add_line line s =
    choose (leb plane_rows (length s.plane)) (Err OverLimit)
    (Ok (record { plane = s.plane ++ (build s.width line ∷ []); width = s.width; output = s.output; annotation = s.annotation }))
