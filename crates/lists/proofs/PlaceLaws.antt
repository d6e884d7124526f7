-- Laws of the places of a picture in row order.
use mathlib.Core.Path.{◌≡◌, ap, ◌∙◌}
use mathlib.Core.List.{List}
use Prim.Native.Nat.{ℕ, zero, suc, ◌*◌, ◌/◌, ◌%◌, ◌<◌}
use native.Mathlib.Nat.{mod-lt, div-add-mod', div-lt_iff_lt-mul, mul-zero}
use native.Mathlib.Omega.{arith}
use lib.ListN.{get_or}
use Rattle.lists.specs.Picture.{pic, canvas, at}
use Rattle.lists.proofs.PictureLaws.{within_in}

module _ (w h i : ℕ) (l : i < h * w) where
  pub columns : 0 < w
  columns = go w l
    where
      go : (w : ℕ) → i < h * w → 0 < w
      go zero l = absurd (omega (arith, mul-zero h))
      go (suc w) l = omega arith

  pub column_in : i % w < w
  column_in = mod-lt i columns

  pub row_in_lem : i / w < h
  row_in_lem = (div-lt_iff_lt-mul columns).1 l

  -- the character at a place of a canvas stands at that index of the list
  pub at-canvas : (s : List ℕ) → at (canvas w h s) w i ≡ get_or s i 0
  at-canvas s = within_in w h (pic w s) (i % w) (i / w) column_in row_in_lem ∙ ap (λ (n : ℕ). get_or s n 0) (div-add-mod' i w)
