-- A row of frames goes behind the rows so far.
use Rattle.std.specs.Prelude.{Ok, Err}
use mathlib.Core.Path.{◌≡◌, sym, ap, ◌∙◌}
use mathlib.Core.List.{List, [], ◌∷◌, ◌++◌}
use Prim.Native.Nat.{ℕ}
use lib.ListN.{length}
use borrow.Author.Tests.{eq-eqb, ne_eqb}
use Rattle.lists.specs.Answer.{◌>>=◌}
use Rattle.lists.specs.Picture.{Picture}
use Rattle.model.specs.Refusals.{Reading}
use Rattle.model.specs.declared.Rect.{Rect}
use Rattle.model.specs.declared.Refusal.{Refusal}
use Rattle.cells.specs.Written.{written, next_row, Kept, Ended}
use Rattle.cells.specs.declared.plane_writer.PlaneWriter.{PlaneWriter}
use Rattle.cells.proofs.PlaneLaws.{length-cells, length-plane}
use Rattle.cells.proofs.WriterLaws.{kept-written}
use Rattle.frames.specs.declared.outline.Outline.{Outline}
use Rattle.frames.specs.regions.Regions.{Finder}
use Rattle.text_planes.specs.plane_cells.Made.{row_made}
use Rattle.text_planes.specs.plane_cells.Row.{Row}
use Rattle.text_planes.specs.declared.plane_cells.RowSofar.{RowSofar}
use Rattle.text_planes.specs.plane_rows.Made.{rows_of}
use Rattle.text_planes.specs.plane_rows.Rows.{Rows}
use Rattle.text_planes.specs.declared.plane_rows.sofar.PlaneSofar.{PlaneSofar}
use Rattle.text_planes.specs.step.PlaneStep.{row_by, add_row, add_frames}

-- the row of the frames, behind the rows so far
module _ (o : Outline) (find : Finder) (regions : List Rect) (p : Picture) (w y : ℕ) (s : PlaneSofar) (d d1 : PlaneWriter) (r : Reading RowSofar)
    (e : row_made r d1 ≡ row_by o find regions p w d.rows y (record { cells = []; output = s.doubles.output; annotation = s.doubles.annotation })) where
  abbrev whole : Reading Rows
  whole = add_frames o find regions p w y (rows_of s d)

  added : {m : (Reading RowSofar)} → r ≡ m → whole ≡ ◌>>=◌ (row_made m d1) (add_row (rows_of s d))
  added {m} z =
      rw (length-plane d.cells.now d.rows)
      (ap (λ (a : Reading Row). ◌>>=◌ a (add_row (rows_of s d))) (sym e ∙ ap (λ (a : Reading RowSofar). row_made a d1) z))

  pub frames_out : (f : Refusal) → r ≡ Err f → Err f ≡ whole
  frames_out f z = sym (added z)

  module _ (t : RowSofar) (z : r ≡ Ok t) (k : Kept d d1) where
    count : length (next_row d1 t.cells) ≡ t.cells
    count = length-cells d1.cells.now d1.rows t.cells

    pub no_frames : t.cells ≡ 0 → Ok (rows_of s d1) ≡ whole
    no_frames q = sym (added z ∙ rw (eq-eqb (length (next_row d1 t.cells)) 0 (count ∙ q), kept-written k))

    pub frames_added : (t.cells ≡ 0 → ⊥) → (d2 : PlaneWriter) → Ended d1 d2 t.cells
        → ◌≡◌ {A = Reading Rows} (Ok (record { plane = written d2; width = t.cells; output = t.doubles.output; annotation = t.doubles.annotation })) whole
    frames_added n d2 g =
        let v : written d2 ≡ written d ++ (next_row d1 t.cells ∷ []) = g.plane ∙ rw (kept-written k) in
        sym (added z ∙ rw (ne_eqb (length (next_row d1 t.cells)) 0 (λ q. n (sym count ∙ q)), count, v))
