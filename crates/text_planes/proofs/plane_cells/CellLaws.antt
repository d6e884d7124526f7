-- The cells of a frame: how many they are, and the row that has them.
use Rattle.std.specs.Prelude.{Ok, Err, Option, ℕ, Some}
use Rattle.std.specs.Int.{from_bool}
use mathlib.Core.Path.{◌≡◌, refl, sym, ap, ◌∙◌}
use mathlib.Core.Bool.{Bool, true, false}
use mathlib.Core.List.{List, [], ◌∷◌, ◌++◌, append_assoc, append-nil}
use Prim.Native.Nat.{ℕ, ◌+◌, ◌≤◌, ◌<◌}
use native.Mathlib.Nat.{add-zero}
use native.Mathlib.Omega.{arith}
use lib.Dec.{eqb}
use lib.ListN.{length, length-append}
use borrow.Author.Tests.{lt-ltb, le-ltb, lt-leb}
use Rattle.lists.specs.Choose.{choose}
use Rattle.model.specs.Limits.{plane_rows, plane_cells}
use Rattle.model.specs.declared.Cell.{Cell}
use Rattle.model.specs.declared.Cell.TheVariants.{Region, VerticalOutputDoubleLine, VerticalAnnotationDoubleLine}
use Rattle.model.specs.declared.Refusal.TheVariants.{OverLimit}
use Rattle.cells.specs.Plane.{cells_in}
use Rattle.cells.proofs.PlaneLaws.{length-cells}
use Rattle.frames.specs.declared.outline.Outline.{Outline}
use Rattle.text_planes.specs.plane_cells.Made.{row_in}
use Rattle.text_planes.specs.plane_cells.Row.{Row, is_at, fitting, output_before, annotation_before, with_cell}
use Rattle.text_planes.specs.declared.plane_cells.RowSofar.{RowSofar}

pub one_if : (t : Bool) → from_bool t ≡ choose t 1 0
one_if true = refl
one_if false = refl

-- a double line, or none
pub line_there : (d d' : List ℕ) (row i n : ℕ) (t : Bool) (c : Cell) → n ≡ from_bool t → t ≡ true → cells_in d' row (i + 1) ≡ cells_in d row i ++ (c ∷ [])
    → cells_in d' row (i + n) ≡ cells_in d row i ++ choose t (c ∷ []) []
line_there d d' row i n t c k e q = rw (k, e) q

pub no_line : (d : List ℕ) (row i n : ℕ) (t : Bool) (c : Cell) → n ≡ from_bool t → t ≡ false → cells_in d row (i + n) ≡ cells_in d row i ++ choose t (c ∷ []) []
no_line d row i n t c k e = rw (k, e, add-zero i, append-nil (cells_in d row i))

length-line : (t : Bool) (c : Cell) → length (choose t (c ∷ []) []) ≡ choose t 1 0
length-line true c = refl
length-line false c = refl

module _ (o : Outline) (x region row : ℕ) (s : RowSofar) (d : List ℕ) where
  abbrev is_output : Bool
  is_output = eqb x o.x

  abbrev is_annotation : Bool
  is_annotation = is_at o.right x

  -- the row with the frame's cells
  abbrev more : Row
  more = with_cell o x region (row_in s d row)

  -- and how many it has
  abbrev total : ℕ
  total = s.cells + choose is_output 1 0 + choose is_annotation 1 0 + 1

  abbrev cell : List Cell
  cell = Region region ∷ []

  length_more : length more.cells ≡ total
  length_more =
      omega (
        arith,
        length-cells d row s.cells,
        length-append (cells_in d row s.cells) (output_before o x ++ (annotation_before o x ++ cell)),
        length-append (output_before o x) (annotation_before o x ++ cell),
        length-append (annotation_before o x) cell,
        length-line is_output VerticalOutputDoubleLine,
        length-line is_annotation VerticalAnnotationDoubleLine,
      )

  pub cells_over : row < plane_rows → plane_cells < total → Err OverLimit ≡ fitting row more
  cells_over h g =
      let q : plane_cells < length more.cells = rw length_more g in
      rw (lt-leb plane_rows row h, lt-ltb plane_cells (length more.cells) q)

  cells_fit : row < plane_rows → total ≤ plane_cells → Ok more ≡ fitting row more
  cells_fit h g =
      let q : length more.cells ≤ plane_cells = rw length_more g in
      rw (lt-leb plane_rows row h, le-ltb plane_cells (length more.cells) q)

  -- the double lines and the cell were put one after the other
  pub cells_added : (u : Bool) → u ≡ is_annotation → row < plane_rows → total ≤ plane_cells → (a b : ℕ) (d1 d2 d3 : List ℕ) {output annotation : Option ℕ}
      → cells_in d1 row a ≡ cells_in d row s.cells ++ choose is_output (VerticalOutputDoubleLine ∷ []) []
      → cells_in d2 row b ≡ cells_in d1 row a ++ choose u (VerticalAnnotationDoubleLine ∷ []) []
      → cells_in d3 row (b + 1) ≡ cells_in d2 row b ++ cell
      → output ≡ choose is_output (Some s.cells) s.doubles.output → annotation ≡ choose u (Some a) s.doubles.annotation
      → Ok (row_in (record { cells = b + 1; doubles = record { output = output; annotation = annotation } }) d3 row) ≡ fitting row more
  cells_added u q h g a b d1 d2 d3 {output} {annotation} e1 e2 e3 m n =
      let la : length (cells_in d row s.cells) ≡ s.cells = length-cells d row s.cells in
      let lb : length (cells_in d row s.cells ++ output_before o x) ≡ a = ap length (sym e1) ∙ length-cells d1 row a in
      let cs : cells_in d3 row (b + 1) ≡ more.cells =
      e3 ∙ rw (e2, e1, q)
      (append_assoc (cells_in d row s.cells ++ output_before o x) (annotation_before o x) cell
      ∙ append_assoc (cells_in d row s.cells) (output_before o x) (annotation_before o x ++ cell)) in
      let mm : output ≡ more.output = rw la m in
      let nn : annotation ≡ more.annotation = rw (lb, ← q) n in
      ap Ok (rw (cs, mm, nn)) ∙ cells_fit h g
