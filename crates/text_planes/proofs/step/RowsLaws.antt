-- A row of GRID is added to the plane, and the rows of GRID one after the other.
use Rattle.std.specs.Prelude.{Ok, Err, None}
use mathlib.Core.Path.{◌≡◌, refl, sym, ap, ◌∙◌}
use mathlib.Core.Bool.{true}
use mathlib.Core.List.{List}
use Prim.Native.Nat.{ℕ, ◌+◌, ◌-◌, ◌≤◌, ◌<◌}
use native.Mathlib.Nat.{sub-zero}
use native.Mathlib.Omega.{arith}
use lib.Dec.{eqb}
use Rattle.lists.specs.Answer.{◌>>=◌, each, those}
use Rattle.lists.specs.Choose.{choose}
use Rattle.lists.specs.Picture.{Picture, canvas}
use Rattle.lists.specs.Run.{run}
use Rattle.lists.proofs.AnswerLaws.{turn_on, turn_out, turn_end}
use Rattle.model.specs.Limits.{plane_cells}
use Rattle.model.specs.Refusals.{Reading}
use Rattle.model.specs.declared.Rect.{Rect}
use Rattle.model.specs.declared.Cell.TheVariants.{HorizontalOutputDoubleLine, HorizontalAnnotationsDoubleLine, MainDoubleCrossing, HorizontalDoubleCrossing, VerticalDoubleCrossing}
use Rattle.model.specs.declared.Refusal.{Refusal}
use Rattle.cells.specs.Plane.{plane_in}
use Rattle.cells.specs.Written.{written, SameSlice}
use Rattle.cells.specs.declared.plane_writer.PlaneWriter.{PlaneWriter}
use Rattle.frames.specs.declared.outline.Outline.{Outline}
use Rattle.frames.specs.regions.Regions.{Finder}
use Rattle.walks.specs.Frame.{frame_of}
use Rattle.walks.specs.Kinds.{grid}
use Rattle.text_planes.specs.plane_cells.Row.{is_at}
use Rattle.text_planes.specs.plane_rows.Made.{rows_of, line_cell}
use Rattle.text_planes.proofs.plane_rows.LineLaws.{below_line}
use Rattle.text_planes.specs.plane_rows.Rows.{Rows, annotation_line, add_line}
use Rattle.text_planes.specs.declared.plane_rows.sofar.PlaneSofar.{PlaneSofar}
use Rattle.text_planes.specs.step.Made.{rows_made, Over}
use Rattle.text_planes.specs.step.PlaneStep.{add_frames, add_grid_row, rows_by, plane_by, plane_of}

-- the rows s of a writer with the line row of the main crossing, where it stands in row y, and with that of the annotation crossing
module _ (o : Outline) (y : ℕ) (s : PlaneSofar) (d : PlaneWriter) where
  abbrev pub main_line : Reading Rows
  main_line = choose (eqb y o.y) (add_line (line_cell MainDoubleCrossing HorizontalDoubleCrossing HorizontalOutputDoubleLine s.doubles.output s.doubles.annotation) (rows_of s d)) (Ok (rows_of s d))

  abbrev pub line_below : Reading Rows
  line_below =
      choose (is_at o.below y) (add_line (line_cell VerticalDoubleCrossing HorizontalAnnotationsDoubleLine HorizontalAnnotationsDoubleLine s.doubles.output s.doubles.annotation) (rows_of s d)) (Ok (rows_of s d))

-- row y of GRID: both line rows, and the row of its frames
module _ (o : Outline) (find : Finder) (regions : List Rect) (p : Picture) (w y : ℕ) (s : PlaneSofar) (d : PlaneWriter) where
  abbrev whole : Reading Rows
  whole = add_grid_row o find regions p w y (rows_of s d)

  abbrev behind : Rows → Reading Rows
  behind a = ◌>>=◌ (choose (is_at o.below y) (add_line (annotation_line a.output) a) (Ok a)) (add_frames o find regions p w y)

  module _ (d1 : PlaneWriter) (e : Ok (rows_of s d1) ≡ main_line o y s d) where
    pub lines_added : (d2 : PlaneWriter) → Ok (rows_of s d2) ≡ line_below o y s d1 → add_frames o find regions p w y (rows_of s d2) ≡ whole
    lines_added d2 q =
        ap (λ (a : Reading Rows). ◌>>=◌ a (add_frames o find regions p w y)) q ∙ rw (below_line s.doubles.output s.doubles.annotation) (ap (λ (a : Reading Rows). ◌>>=◌ a behind) e)

-- the rows of GRID above row y are added: the rows are a
pub record Growing (o : Outline) (w h count : ℕ) (l found : List ℕ) (d out : PlaneWriter) (y : ℕ) (a : Rows) : Type 0 where
  pub along : y ≤ h
  pub slice : SameSlice d out
  pub rows : a.plane ≡ written out
  pub few : a.width ≤ plane_cells
  pub same : Over w h count l found (λ rs.
      each (add_grid_row o (frame_of grid (canvas w h l) w h) rs (canvas w h l) w) (those (λ _. true) y (h - y)) a ≡ rows_by (frame_of grid (canvas w h l) w h) o rs (canvas w h l) w h)

pub growing_start : (o : Outline) (w h count : ℕ) (l found : List ℕ) (d : PlaneWriter) → d.rows ≡ 0
    → Growing o w h count l found d d 0 (record { plane = written d; width = 0; output = None; annotation = None })
unfolding plane_in run
growing_start o w h count l found d e =
    record {
      along = omega arith;
      slice = refl;
      rows = refl;
      few = omega arith;
      same = λ rs n m. rw (e, sub-zero h);
    }

module _ {o : Outline} {w h count : ℕ} {l found : List ℕ} {d out : PlaneWriter} {y : ℕ} {a : Rows} (q : Growing o w h count l found d out y a) where
  abbrev add : List Rect → ℕ → Rows → Reading Rows
  add rs = add_grid_row o (frame_of grid (canvas w h l) w h) rs (canvas w h l) w

  module _ (g : y < h) (r : Reading PlaneSofar) (b : PlaneWriter) (e : Over w h count l found (λ rs. rows_made r b ≡ add rs y a)) where
    pub growing_more : SameSlice out b → (t : PlaneSofar) → r ≡ Ok t → Growing o w h count l found d b (y + 1) (rows_of t b)
    growing_more k t z =
        record {
          along = omega arith;
          slice = k ∙ q.slice;
          rows = refl;
          few = t.few;
          same = λ rs n m.
              sym (turn_on (add rs) (λ _. true) y h a (rows_of t b) g (sym (e rs n m) ∙ ap (λ (a : Reading PlaneSofar). rows_made a b) z)) ∙ q.same rs n m;
        }

    pub growing_out : (f : Refusal) → r ≡ Err f → Over w h count l found (λ rs. Err f ≡ plane_of o rs (canvas w h l) w h)
    unfolding plane_by
    growing_out f z rs n m =
        let v : rows_by (frame_of grid (canvas w h l) w h) o rs (canvas w h l) w h ≡ Err f =
        sym (q.same rs n m) ∙ turn_out (add rs) (λ _. true) y h a f g (sym (e rs n m) ∙ ap (λ (a : Reading PlaneSofar). rows_made a b) z) in
        rw v

  pub growing_end : h ≤ y → Over w h count l found (λ rs. Ok (written out) ≡ plane_of o rs (canvas w h l) w h)
  unfolding plane_by
  growing_end g rs n m =
      let v : rows_by (frame_of grid (canvas w h l) w h) o rs (canvas w h l) w h ≡ Ok a = sym (q.same rs n m) ∙ turn_end (add rs) (λ _. true) y h a g in
      rw (v, q.rows)
