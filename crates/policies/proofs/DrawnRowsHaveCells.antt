-- The plane of a drawing has rows, and each of them has cells: the theorems `drawn_has_rows` and `drawn_rows_have_cells`.
use Rattle.std.specs.Prelude.{Ok, Option, ℕ, Some, None}
use mathlib.Core.Path.{◌≡◌, refl, ap, ◌∙◌}
use mathlib.Core.Bool.{true}
use mathlib.Core.List.{List, map}
use Prim.Native.Nat.{ℕ, ◌<◌}
use native.Mathlib.Omega.{arith}
use lib.ListN.{length}
use borrow.Author.Tests.{eqb-true}
use Rattle.lists.specs.OneOf.{one_of}
use Rattle.lists.specs.Picture.{canvas}
use Rattle.lists.proofs.AllLaws.{All}
use Rattle.lists.proofs.PictureLaws.{within_in}
use Rattle.lists.proofs.Tests.{true_false}
use Rattle.model.specs.Box.{┬, ╥}
use Rattle.cells.specs.Plane.{TextPlane}
use Rattle.canvas.specs.thin_layer.Thin.{thin_of}
use Rattle.policies.proofs.TopSideLaws.{tee_in_grid}
use Rattle.frames.specs.declared.outline.Outline.{Outline}
use Rattle.frames.proofs.outline.EdgeLaws.{Edged, outline_edged}
use Rattle.frames.proofs.outline.InsideLaws.{Inside, outline_inside}
use Rattle.frames.specs.regions.Regions.{Finder, is_corner}
use Rattle.scan.specs.sheet_rows.Rows.{rows_at, widest}
use Rattle.scan.specs.Rows.{blank, flat}
use Rattle.text_planes.specs.plane_cells.Row.{is_at}
use Rattle.policies.proofs.PlaneHasRows.{plane_has_rows}
use Rattle.policies.proofs.RowsHaveCells.{HasCells, rows_have_cells}
use Rattle.walks.specs.Frame.{FrameFinder}
use Rattle.walks.specs.Kinds as kind
use Rattle.canvas.specs.Layers.{text_layer, thin_layer, grid_layer, sheet_by}
use Rattle.policies.specs.DrawnPolicy.{drawn_plane_by}
use Rattle.policies.proofs.DrawnWithin.{read_by}
use Rattle.policies.proofs.SheetDrawn.{sheet_outline}

-- ╥ is ┬ in THIN, and that is a corner
thin-edge : thin_of ╥ ≡ ┬
unfolding thin_of one_of
thin-edge = refl

tee_corner : (c : ℕ) → c ≡ ┬ → is_corner c ≡ true
unfolding one_of
tee_corner c e = rw e

module _ (find : FrameFinder) (s : List ℕ) (o : Outline) (e : sheet_by find s ≡ Ok o) where
  abbrev rs : List (List ℕ)
  rs = rows_at s 0

  inside : Inside (widest rs) (length rs) o
  inside = outline_inside find (text_layer rs) (widest rs) (length rs) o (sheet_outline find s o e)

  edged : Edged (text_layer rs) o
  edged = outline_edged find (text_layer rs) (widest rs) (length rs) o (sheet_outline find s o e)

  -- the ╥ above the main crossing is ┬ in THIN and in GRID, where it starts a frame
  thin_tee : thin_layer rs o.x o.body.top ≡ ┬
  thin_tee =
      within_in (widest rs) (length rs) (λ x y. thin_of (text_layer rs x y)) o.x o.body.top inside.column (omega (arith, inside.row, inside.body.top))
      ∙ ap thin_of edged.edge ∙ thin-edge

  grid-corner : is_corner (grid_layer rs o.body o.x o.body.top) ≡ true
  grid-corner =
      tee_corner (grid_layer rs o.body o.x o.body.top)
      (tee_in_grid o.body o.x (omega (arith, inside.body.left)) (omega (arith, inside.body.right)) (omega (arith, inside.body.top, inside.body.bottom))
      (thin_layer rs) (canvas (widest rs) (length rs) (flat (widest rs) (map blank rs))) thin_tee)

  crossing_below : (y : ℕ) (c : Option ℕ) → o.below ≡ c → is_at c y ≡ true → o.body.top < y
  crossing_below y (Some i) f h = omega (arith, eqb-true i y h, edged.below i f, inside.body.top)
  crossing_below y None f h = true_false h refl

  module _ (t : TextPlane) (f : drawn_plane_by find rs o ≡ Ok t) where
    abbrev frames : Finder
    frames = find kind.grid (grid_layer rs o.body) (widest rs) (length rs)

    pub drawn_has_rows : 0 < length t.plane
    drawn_has_rows =
        let q = read_by find rs o t f in
        plane_has_rows o frames q.0.rects (grid_layer rs o.body) (widest rs) (length rs) t.plane q.2 inside.row

    pub drawn_rows_have_cells : All HasCells t.plane
    drawn_rows_have_cells =
        let q = read_by find rs o t f in
        rows_have_cells o frames q.0.rects (grid_layer rs o.body) (widest rs) o.body.top o.x grid-corner inside.column inside.body.top
        (λ y h. crossing_below y o.below refl h) (length rs) t.plane q.2
