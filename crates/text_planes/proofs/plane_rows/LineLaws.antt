-- A line row goes behind the rows so far.
use Rattle.std.specs.Prelude.{Ok, Err, Option}
use mathlib.Core.Path.{◌≡◌, ◌∙◌, fun_ext}
use mathlib.Core.List.{[], ◌∷◌, ◌++◌}
use Prim.Native.Nat.{ℕ, ◌≤◌, ◌<◌}
use borrow.Author.Tests.{lt-leb, le-leb}
use Rattle.lists.specs.Run.{build}
use Rattle.lists.proofs.Tests.{by_flag}
use Rattle.model.specs.Limits.{plane_rows}
use Rattle.model.specs.declared.Cell.{Cell}
use Rattle.model.specs.declared.Cell.TheVariants.{HorizontalAnnotationsDoubleLine, VerticalDoubleCrossing}
use Rattle.model.specs.declared.Refusal.TheVariants.{OverLimit}
use Rattle.cells.specs.Written.{written, next_row, Kept, Ended}
use Rattle.cells.specs.declared.plane_writer.PlaneWriter.{PlaneWriter}
use Rattle.cells.proofs.PlaneLaws.{length-plane}
use Rattle.cells.proofs.WriterLaws.{kept-written}
use Rattle.text_planes.specs.plane_cells.Row.{is_at}
use Rattle.text_planes.specs.plane_rows.Made.{rows_of, line_cell}
use Rattle.text_planes.specs.plane_rows.Rows.{annotation_line, add_line}
use Rattle.text_planes.specs.declared.plane_rows.sofar.PlaneSofar.{PlaneSofar}

module _ (line : ℕ → Cell) (s : PlaneSofar) (w : PlaneWriter) where
  pub line_over : plane_rows ≤ w.rows → Err OverLimit ≡ add_line line (rows_of s w)
  line_over h = rw (length-plane w.cells.now w.rows, le-leb plane_rows w.rows h)

  pub line_added : w.rows < plane_rows → (a b : PlaneWriter) → Kept w a → next_row a s.width ≡ build s.width line → Ended a b s.width
      → Ok (rows_of s b) ≡ add_line line (rows_of s w)
  line_added h a b k c e =
      let z : written b ≡ written w ++ (build s.width line ∷ []) = e.plane ∙ rw (kept-written k, c) in
      rw (length-plane w.cells.now w.rows, lt-leb plane_rows w.rows h, z)

-- below the annotation crossing a line row tells of the outputs alone
pub below_line : (output annotation : Option ℕ) → line_cell VerticalDoubleCrossing HorizontalAnnotationsDoubleLine HorizontalAnnotationsDoubleLine output annotation ≡ annotation_line output
below_line output annotation = fun_ext (λ i. by_flag (is_at annotation i) (λ e. rw e) (λ e. rw e))
