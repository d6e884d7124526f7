-- A row of a picture, from one column up to another, as a part of the list that shows it.
use mathlib.Core.Path.{◌≡◌, sym, ap, ◌∙◌}
use mathlib.Core.List.{List}
use Prim.Native.Nat.{ℕ, suc, ◌+◌, ◌-◌, ◌*◌, ◌≤◌, ◌<◌}
use native.Mathlib.Nat.{mul-le-mul_right, suc-mul}
use native.Mathlib.Omega.{arith}
use lib.ListN.{length, get_or, take, drop, length-drop}
use lib.Seq.{length-take-le, get_or-take, get_or-drop}
use Rattle.lists.specs.Picture.{pic, canvas}
use Rattle.lists.specs.Run.{build}
use Rattle.lists.proofs.PictureLaws.{within_in}
use Rattle.lists.proofs.RunLaws.{build-same, build-get_or}

module _ (w h : ℕ) (s : List ℕ) (a e y : ℕ) (g : e ≤ w) (l : y < h) (n : h * w ≤ length s) where
  pub row_fits : y * w + e ≤ length s
  row_fits =
      let m : suc y * w ≤ h * w = mul-le-mul_right w l in
      omega (arith, suc-mul y w)

  pub row_part : take (e - a) (drop (y * w + a) s) ≡ build (e - a) (λ i. canvas w h s (a + i) y)
  row_part =
      let t : List ℕ = take (e - a) (drop (y * w + a) s) in
      let f = row_fits in
      let k : length t ≡ e - a = length-take-le (e - a) (drop (y * w + a) s) (omega (arith, length-drop (y * w + a) s)) in
      sym (build-get_or t 0) ∙ ap (λ (m : ℕ). build m (λ i. get_or t i 0)) k
      ∙ build-same (e - a) (λ i. get_or t i 0) (λ i. canvas w h s (a + i) y)
      (λ i b.
      let z : y * w + a + i ≡ y * w + (a + i) = omega arith in
      get_or-take (e - a) (drop (y * w + a) s) i 0 b ∙ get_or-drop (y * w + a) s i 0 ∙ ap (λ (m : ℕ). get_or s m 0) z
      ∙ sym (within_in w h (pic w s) (a + i) y (omega arith) l))
