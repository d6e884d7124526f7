-- BODY and GRID after the BODY pass: each character of the body's columns becomes a new one, by its row, its place and what stood there.
use mathlib.Core.Path.{◌≡◌, sym, ap, subst, ◌∙◌, fun_ext}
use mathlib.Core.List.{List}
use Prim.Native.Nat.{ℕ, ◌+◌, ◌-◌, ◌*◌, ◌≤◌, ◌<◌}
use native.Mathlib.Nat.{sub-zero}
use native.Mathlib.Omega.{arith}
use lib.ListN.{length, get_or}
use Rattle.lists.specs.Choose.{choose}
use Rattle.lists.specs.Line.{store_at, placed}
use Rattle.lists.specs.Picture.{Picture, pic, canvas, in_rect}
use Rattle.lists.specs.Turns.{turns}
use Rattle.lists.proofs.LineLaws.{LineLaw, store_law}
use Rattle.lists.proofs.PictureLaws.{within_in}
use Rattle.lists.proofs.RectLaws.{by_rows}
use Rattle.model.specs.declared.Rect.{Rect}
use Rattle.canvas.specs.body_layer.Body.{body_code, shaded_code, body_picture, shaded_picture}
use Rattle.canvas.specs.thin_layer.Sizes.{BodyIn}
use Rattle.canvas.proofs.body_layer.SizeLaws.{body-fits}
use Rattle.canvas.proofs.body_layer.CanvasLaws.{pass-is}

-- row y of the pass: n characters from column l on become v of the row, the place and what stood there
abbrev pub row_turn : (ℕ → ℕ → ℕ → ℕ) → ℕ → ℕ → ℕ → ℕ → List ℕ → List ℕ
row_turn v w l n y = turns (store_at (λ k. y * w + l + k) (λ k. v y (y * w + l + k))) n

row_law : (v : ℕ → ℕ → ℕ → ℕ) (w l n y : ℕ) → LineLaw (row_turn v w l n y) (placed (0 * w + l) w 1 y) n (λ g k. v y (y * w + l + k) (g k))
row_law v w l n y =
    let e : (k : ℕ) → y * w + l + k ≡ placed (0 * w + l) w 1 y k = λ k. omega arith in
    subst (λ (at : ℕ → ℕ). LineLaw (row_turn v w l n y) at n (λ g k. v y (y * w + l + k) (g k))) (fun_ext e)
    (store_law (λ k. y * w + l + k) n (λ k. v y (y * w + l + k)))

module _ (w h : ℕ) (r : Rect) (body : BodyIn w h r) where
  -- any such pass, in the columns of the body and down to its bottom
  rows_are : (v : ℕ → ℕ → ℕ → ℕ) (u : Picture) (s out : List ℕ) → h * w ≤ length s
      → ((x y : ℕ) → x < w → y < h → v y (y * w + x) (pic w s x y) ≡ u x y)
      → out ≡ turns (row_turn v w r.left (r.right - r.left)) r.bottom s
      → canvas w h out ≡ (λ x y. choose (in_rect r.left 0 r.right r.bottom x y) (u x y) (canvas w h s x y))
  rows_are v u s out f a e =
      pass-is w h r.left 0 r.right r.bottom body.within body.inside s out
      (λ x y. v (y - 0) ((y - 0) * w + r.left + (x - r.left)) (pic w s (r.left + (x - r.left)) y)) u
      (λ x y p.
      ap (λ (o : List ℕ). pic w o x y) (e ∙ ap (λ (n : ℕ). turns (row_turn v w r.left (r.right - r.left)) n s) (sym (sub-zero r.bottom)))
      ∙ by_rows r.left 0 r.right r.bottom w s body.within (body-fits body (length s) f)
      (row_turn v w r.left (r.right - r.left)) (λ j g k. v j (j * w + r.left + k) (g k)) (row_law v w r.left (r.right - r.left)) x y p)
      (λ x y p q _ i.
      let g : r.left + (x - r.left) ≡ x = omega arith in
      let k : y * w + r.left + (x - r.left) ≡ y * w + x = omega arith in
      rw (sub-zero y, k, g) (a x y (omega arith) (omega arith)))

  pub body-canvas : (m s out : List ℕ) → h * w ≤ length s
      → out ≡ turns (row_turn (λ y p. body_code r.top y (get_or m p 0)) w r.left (r.right - r.left)) r.bottom s
      → canvas w h out ≡ body_picture r (canvas w h m) (canvas w h s)
  body-canvas m s out f e =
      rows_are (λ y p. body_code r.top y (get_or m p 0)) (λ x y. body_code r.top y (canvas w h m x y) (canvas w h s x y)) s out f
      (λ x y p q. rw (within_in w h (pic w m) x y p q, within_in w h (pic w s) x y p q)) e

  pub shaded_canvas : (s out : List ℕ) → h * w ≤ length s
      → out ≡ turns (row_turn (λ y p. shaded_code r.top y) w r.left (r.right - r.left)) r.bottom s
      → canvas w h out ≡ shaded_picture r (canvas w h s)
  shaded_canvas s out f e =
      rows_are (λ y p. shaded_code r.top y) (λ x y. shaded_code r.top y (canvas w h s x y)) s out f
      (λ x y p q. rw (within_in w h (pic w s) x y p q)) e
