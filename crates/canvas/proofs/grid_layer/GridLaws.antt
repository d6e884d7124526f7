-- GRID: the rows of the body are carried across, then its columns, each pass an equation of pictures.
use mathlib.Core.Path.{◌≡◌, sym, ap, ◌∙◌}
use mathlib.Core.List.{List, ◌++◌}
use Prim.Native.Nat.{ℕ, ◌+◌, ◌-◌, ◌*◌, ◌≤◌, ◌<◌}
use native.Mathlib.Omega.{arith}
use lib.ListN.{length, take, drop}
use Rattle.lists.specs.Line.{placed}
use Rattle.lists.specs.Picture.{pic, canvas}
use Rattle.lists.proofs.PictureLaws.{within_in}
use Rattle.lists.proofs.RectLaws.{by_rows, by-columns}
use Rattle.model.specs.declared.Rect.{Rect}
use Rattle.canvas.specs.grid_layer.Grid.{across, down, carried_at, rows_carried, columns_carried, grid_picture}
use Rattle.canvas.specs.grid_layer.Passes.{line_carried, lines_carried}
use Rattle.canvas.specs.thin_layer.Sizes.{BodyIn}
use Rattle.canvas.specs.declared.grid_layer.Stroke.{Stroke}
use Rattle.canvas.proofs.body_layer.SizeLaws.{body-fits}
use Rattle.canvas.proofs.body_layer.CanvasLaws.{pass-is, copied_canvas}
use Rattle.canvas.proofs.grid_layer.CarryLaws.{carried_ext, line_law}

-- a line of the canvas, whose kth character stands in column u k of row v k
line-is : (w h : ℕ) (s : List ℕ) (d : Stroke) (off n : ℕ) (u v : ℕ → ℕ) → ((k : ℕ) → k < n → (u k < w) × (v k < h))
    → (k : ℕ) → k < n → carried_at d off n (λ i. pic w s (u i) (v i)) k ≡ carried_at d off n (λ i. canvas w h s (u i) (v i)) k
line-is w h s d off n u v f =
    carried_ext d off n (λ i. pic w s (u i) (v i)) (λ i. canvas w h s (u i) (v i)) (λ i a. sym (within_in w h (pic w s) (u i) (v i) (f i a).0 (f i a).1))

module _ (w h : ℕ) (r : Rect) (body : BodyIn w h r) where
  abbrev pub rows_pass : List ℕ → List ℕ
  rows_pass = lines_carried across r.left (placed (r.top * w + r.left) w 1) (r.bottom - r.top) (r.right - r.left)

  abbrev pub columns_pass : List ℕ → List ℕ
  columns_pass = lines_carried down 0 (placed (r.top * w + r.left) 1 w) (r.right - r.left) (r.bottom - r.top)

  module _ (s : List ℕ) (fits : h * w ≤ length s) where
    pub rows-canvas : canvas w h (rows_pass s) ≡ rows_carried r (canvas w h s)
    rows-canvas =
        pass-is w h r.left r.top r.right r.bottom body.within body.inside s (rows_pass s)
        (λ x y. carried_at across r.left (r.right - r.left) (λ k. pic w s (r.left + k) y) (x - r.left))
        (λ x y. carried_at across r.left (r.right - r.left) (λ k. canvas w h s (r.left + k) y) (x - r.left))
        (by_rows r.left r.top r.right r.bottom w s body.within (body-fits body (length s) fits)
        (λ j. line_carried across r.left (placed (r.top * w + r.left) w 1 j) (r.right - r.left)) (λ j. carried_at across r.left (r.right - r.left))
        (λ j. line_law across r.left (placed (r.top * w + r.left) w 1 j) (r.right - r.left)))
        (λ x y p q i j. line-is w h s across r.left (r.right - r.left) (λ k. r.left + k) (λ k. y) (λ k a. (omega arith, omega arith)) (x - r.left) (omega arith))

    pub columns-canvas : canvas w h (columns_pass s) ≡ columns_carried r (canvas w h s)
    columns-canvas =
        pass-is w h r.left r.top r.right r.bottom body.within body.inside s (columns_pass s)
        (λ x y. carried_at down 0 (r.bottom - r.top) (λ k. pic w s x (r.top + k)) (y - r.top))
        (λ x y. carried_at down 0 (r.bottom - r.top) (λ k. canvas w h s x (r.top + k)) (y - r.top))
        (by-columns r.left r.top r.right r.bottom w s body.within (body-fits body (length s) fits)
        (λ j. line_carried down 0 (placed (r.top * w + r.left) 1 w j) (r.bottom - r.top)) (λ j. carried_at down 0 (r.bottom - r.top))
        (λ j. line_law down 0 (placed (r.top * w + r.left) 1 w j) (r.bottom - r.top)))
        (λ x y p q i j. line-is w h s down 0 (r.bottom - r.top) (λ k. x) (λ k. r.top + k) (λ k a. (omega arith, omega arith)) (y - r.top) (omega arith))

  -- BODY is copied, then its rows and its columns are carried across
  pub grid-canvas : (bodies old s₁ s₂ s₃ : List ℕ) → h * w ≤ length bodies → h * w ≤ length s₁ → h * w ≤ length s₂
      → s₁ ≡ take (h * w) bodies ++ drop (h * w) old → s₂ ≡ rows_pass s₁ → s₃ ≡ columns_pass s₂
      → canvas w h s₃ ≡ grid_picture r (canvas w h bodies)
  grid-canvas bodies old s₁ s₂ s₃ f f₁ f₂ e₁ e₂ e₃ =
      let rows : canvas w h s₂ ≡ rows_carried r (canvas w h bodies) =
      ap (canvas w h) e₂ ∙ rows-canvas s₁ f₁ ∙ ap (rows_carried r) (copied_canvas w h bodies old s₁ f e₁) in
      ap (canvas w h) e₃ ∙ columns-canvas s₂ f₂ ∙ ap (columns_carried r) rows
