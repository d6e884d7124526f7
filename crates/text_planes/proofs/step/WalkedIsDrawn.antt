-- The plane that walks find is the one that is drawn: the theorem `walked_is_drawn`.
use Rattle.std.specs.Prelude.{Ok}
use mathlib.Core.Bool.{true}
use mathlib.Core.List.{List, []}
use mathlib.Core.Logic.{◌↔◌}
use mathlib.Core.Path.{◌≡◌}
use Prim.Native.Nat.{ℕ}
use lib.Dec.{eqb}
use lib.ListN.{length}
use Rattle.lists.specs.Answer.{◌>>=◌, those, Below}
use Rattle.lists.specs.Choose.{choose}
use Rattle.lists.specs.Picture.{Picture}
use Rattle.lists.proofs.AnswerLaws.{then_below, each_below}
use Rattle.model.specs.Refusals.{Reading}
use Rattle.model.specs.declared.Rect.{Rect}
use Rattle.cells.specs.Plane.{Plane}
use Rattle.frames.specs.declared.outline.Outline.{Outline}
use Rattle.frames.specs.regions.Regions.{Finder}
use Rattle.frames.specs.lookup.Lookup.{region_of}
use Rattle.walks.specs.Frame.{frame_of}
use Rattle.walks.specs.Kinds.{grid}
use Rattle.walks.specs.Sides.{by_sides}
use Rattle.walks.proofs.FrameLaws.{grid-sound}
use Rattle.walks.proofs.SidesLaws.{walks_sides, sides_walks}
use Rattle.text_planes.specs.plane_cells.Row.{Row, is_at, fitting, with_cell}
use Rattle.text_planes.specs.plane_rows.Rows.{Rows, output_line, annotation_line, add_line}
use Rattle.text_planes.specs.step.PlaneStep.{corners_in, add_cell, row_by, add_row, add_frames, add_grid_row, no_rows, rows_by, plane_by}

-- a finder that answers whatever another answers makes its plane
module _ (f f' : Finder) (b : (x y : ℕ) → Below (f x y) (f' x y)) (o : Outline) (regions : List Rect) (p : Picture) (w : ℕ) where
  cell_below : (n y x : ℕ) (s : Row) → Below (add_cell o f regions n y x s) (add_cell o f' regions n y x s)
  cell_below n y x s =
      let k : Rect → Reading Row = λ r. ◌>>=◌ (region_of regions r) (λ i. fitting n (with_cell o x i s)) in
      then_below (f x y) (f' x y) k k (b x y) (λ r a e. e)

  frames_below : (y : ℕ) (s : Rows) → Below (add_frames o f regions p w y s) (add_frames o f' regions p w y s)
  frames_below y s =
      let r : Row = record { cells = []; output = s.output; annotation = s.annotation } in
      then_below (row_by o f regions p w (length s.plane) y r) (row_by o f' regions p w (length s.plane) y r) (add_row s) (add_row s)
      (each_below (add_cell o f regions (length s.plane) y) (add_cell o f' regions (length s.plane) y) (cell_below (length s.plane) y) (corners_in p w y) r)
      (λ r a e. e)

  row_below : (y : ℕ) (s : Rows) → Below (add_grid_row o f regions p w y s) (add_grid_row o f' regions p w y s)
  row_below y s =
      let main : Reading Rows = choose (eqb y o.y) (add_line (output_line s.output s.annotation) s) (Ok s) in
      let below : Rows → Reading Rows = λ a. choose (is_at o.below y) (add_line (annotation_line a.output) a) (Ok a) in
      then_below main main (λ a. ◌>>=◌ (below a) (add_frames o f regions p w y)) (λ a. ◌>>=◌ (below a) (add_frames o f' regions p w y)) (λ a e. e)
      (λ a. then_below (below a) (below a) (add_frames o f regions p w y) (add_frames o f' regions p w y) (λ r e. e) (frames_below y))

  pub plane_below : (h : ℕ) → Below (plane_by f o regions p w h) (plane_by f' o regions p w h)
  unfolding plane_by
  plane_below h =
      then_below (rows_by f o regions p w h) (rows_by f' o regions p w h) (λ s. Ok s.plane) (λ s. Ok s.plane)
      (each_below (add_grid_row o f regions p w) (add_grid_row o f' regions p w) row_below (those (λ _. true) 0 h) no_rows) (λ s a e. e)

pub walked_is_drawn : (o : Outline) (regions : List Rect) (p : Picture) (w h : ℕ) (P : Plane)
    → (plane_by (frame_of grid p w h) o regions p w h ≡ Ok P) ↔ (plane_by (by_sides grid p w h) o regions p w h ≡ Ok P)
walked_is_drawn o regions p w h P = (
  plane_below (frame_of grid p w h) (by_sides grid p w h) (λ x y. walks_sides grid p w h x y grid-sound) o regions p w h P,
  plane_below (by_sides grid p w h) (frame_of grid p w h) (λ x y. sides_walks grid p w h x y grid-sound) o regions p w h P,
)
