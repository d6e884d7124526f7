-- A ┬ in the top row of the body stays in BODY and in GRID: the law `tee_in_grid`.
use mathlib.Core.Path.{◌≡◌, refl, ap, ◌∙◌}
use mathlib.Core.Bool.{Bool, true, false}
use Prim.Native.Nat.{ℕ, ◌+◌, ◌-◌, ◌≤◌, ◌<◌}
use native.Mathlib.Omega.{arith}
use lib.Dec.{eqb}
use borrow.Author.Tests.{le-ltb, eq-eqb}
use Rattle.lists.specs.Choose.{choose}
use Rattle.lists.specs.OneOf.{any_at}
use Rattle.lists.specs.Picture.{Picture, in_rect}
use Rattle.lists.proofs.RectLaws.{rect_is}
use Rattle.model.specs.Box.{┬}
use Rattle.model.specs.declared.Rect.{Rect}
use Rattle.canvas.specs.body_layer.Body.{top_of, body_code, body_picture}
use Rattle.canvas.specs.grid_layer.Grid.{across, down, carried_code, carried_at, rows_carried, columns_carried, grid_picture}
use Rattle.canvas.specs.declared.grid_layer.Stroke.{Stroke}

-- a character that is not changed where its line is carried across stays whether or not it is
stays : (d : Stroke) (off n : ℕ) (g : ℕ → ℕ) (k c : ℕ) → g k ≡ c → carried_code d off n k c ≡ c → carried_at d off n g k ≡ c
stays d off n g k c e f = go (any_at (λ i. eqb (g i) d.line) n)
  where
    go : (t : Bool) → choose t (carried_code d off n k (g k)) (g k) ≡ c
    go true = ap (carried_code d off n k) e ∙ f
    go false = e

-- ┬ is not, along a row, nor at the top of a column
row_stays : (off n k : ℕ) → carried_code across off n k ┬ ≡ ┬
unfolding carried_code
row_stays off n k = refl

column_stays : (n k : ℕ) → k ≡ 0 → carried_code down 0 n k ┬ ≡ ┬
unfolding carried_code
column_stays n k e = rw e

top-row : (top t b : ℕ) → body_code top top t b ≡ top_of t
unfolding body_code
top-row top t b = rw (le-ltb (top + 1) top (omega arith), eq-eqb top top refl)

module _ (r : Rect) (x : ℕ) (left : r.left ≤ x) (right : x < r.right) (tall : r.top < r.bottom) where
  in_body : in_rect r.left r.top r.right r.bottom x r.top ≡ true
  in_body = rect_is r.left r.top r.right r.bottom x r.top left right (omega arith) tall

  tee_in_body : (T B : Picture) → T x r.top ≡ ┬ → body_picture r T B x r.top ≡ ┬
  unfolding top_of
  tee_in_body T B e =
      rw (rect_is r.left 0 r.right r.bottom x r.top left right (omega arith) tall, top-row r.top (T x r.top) (B x r.top), e)

  tee_in_rows : (G : Picture) → G x r.top ≡ ┬ → rows_carried r G x r.top ≡ ┬
  tee_in_rows G e =
      let n = r.right - r.left in
      let k = x - r.left in
      let z : r.left + k ≡ x = omega arith in
      rw in_body (stays across r.left n (λ i. G (r.left + i) r.top) k ┬ (ap (λ (i : ℕ). G i r.top) z ∙ e) (row_stays r.left n k))

  tee_in_columns : (G : Picture) → G x r.top ≡ ┬ → columns_carried r G x r.top ≡ ┬
  tee_in_columns G e =
      let n = r.bottom - r.top in
      let k = r.top - r.top in
      let z : r.top + k ≡ r.top = omega arith in
      rw in_body (stays down 0 n (λ j. G x (r.top + j)) k ┬ (ap (λ (j : ℕ). G x j) z ∙ e) (column_stays n k (omega arith)))

  pub tee_in_grid : (T B : Picture) → T x r.top ≡ ┬ → grid_picture r (body_picture r T B) x r.top ≡ ┬
  tee_in_grid T B e = tee_in_columns (rows_carried r (body_picture r T B)) (tee_in_rows (body_picture r T B) (tee_in_body T B e))
