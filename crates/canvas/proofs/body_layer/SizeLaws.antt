-- Sizes: the body's rows, its corner and its lines lie in a list that holds the canvas.
use mathlib.Core.List.{List}
use Prim.Native.Nat.{ℕ, suc, ◌+◌, ◌-◌, ◌*◌, ◌≤◌, ◌<◌}
use native.Mathlib.Nat.{mul-le-mul_left, mul-le-mul_right, suc-mul}
use native.Mathlib.Omega.{arith}
use lib.ListN.{length}
use Rattle.lists.specs.Line.{placed}
use Rattle.lists.proofs.RectLaws.{rows_fit, columns_fit, corner-fits}
use Rattle.model.specs.declared.Rect.{Rect}
use Rattle.canvas.specs.thin_layer.Sizes.{BodyIn}

module _ {w h : ℕ} {r : Rect} (body : BodyIn w h r) where
  -- a canvas that has a body is not longer than it has places, in either direction
  pub sides_fit : (n : ℕ) → h * w ≤ n → (w ≤ n) × (h ≤ n)
  sides_fit n f =
      let a : 1 * w ≤ h * w = mul-le-mul_right w (omega (arith, body.tall, body.inside)) in
      let b : h * 1 ≤ h * w = mul-le-mul_left h (omega (arith, body.wide, body.within)) in
      (omega arith, omega arith)

  pub row_fits : (y n : ℕ) → y < r.bottom → h * w ≤ n → y * w + r.left + (r.right - r.left) ≤ n
  row_fits y n i f =
      let a : suc y * w ≤ h * w = mul-le-mul_right w (omega arith) in
      omega (arith, suc-mul y w)

  -- down to the body's bottom
  pub body-fits : (n : ℕ) → h * w ≤ n → r.bottom * w ≤ n
  body-fits n f = let m : r.bottom * w ≤ h * w = mul-le-mul_right w body.inside in omega arith

  pub corner_in_lem : (s : List ℕ) → h * w ≤ length s → r.top * w + r.left < length s
  corner_in_lem s f = corner-fits r.left r.top r.right r.bottom w s body.within (body-fits (length s) f) body.wide body.tall

  module _ (s : List ℕ) (fits : h * w ≤ length s) where
    pub rows_in_lem : (j k : ℕ) → j < r.bottom - r.top → k < r.right - r.left → placed (r.top * w + r.left) w 1 j k < length s
    rows_in_lem j k p q = rows_fit r.left r.top r.right r.bottom w s body.within (body-fits (length s) fits) j k p q

    pub columns_in : (j k : ℕ) → j < r.right - r.left → k < r.bottom - r.top → placed (r.top * w + r.left) 1 w j k < length s
    columns_in j k p q = columns_fit r.left r.top r.right r.bottom w s body.within (body-fits (length s) fits) j k p q
