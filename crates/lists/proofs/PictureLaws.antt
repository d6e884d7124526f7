-- Laws of pictures: two pictures are equal when they agree inside and are 0 outside.
use mathlib.Core.Path.{◌≡◌, sym, ap, ◌∙◌, fun_ext}
use Prim.Native.Nat.{ℕ, suc, ◌+◌, ◌*◌, ◌<◌, ◌≤◌}
use native.Mathlib.Nat.{mul-le-mul_right, suc-mul}
use native.Mathlib.Omega.{arith}
use lib.Dec.{ltb}
use borrow.Author.Tests.{ltb-true, ltb-false, lt-ltb}
use Rattle.lists.specs.Picture.{Picture, within}
use Rattle.lists.proofs.Tests.{by_flag}

module _ (w h : ℕ) where
  pub within_in : (G : Picture) (x y : ℕ) → x < w → y < h → within w h G x y ≡ G x y
  unfolding within
  within_in G x y p q = simp (lt-ltb x w p, lt-ltb y h q)

  pub within-out : (G : Picture) (x y : ℕ) → (x < w → y < h → ⊥) → within w h G x y ≡ 0
  unfolding within
  within-out G x y n =
      by_flag (ltb x w)
      (λ e. by_flag (ltb y h) (λ f. absurd (n (ltb-true x w e) (ltb-true y h f))) (λ f. rw (e, f)))
      (λ e. rw e)

  pub picture_is : (G H : Picture) → ((x y : ℕ) → x < w → y < h → G x y ≡ H x y) → ((x y : ℕ) → (x < w → y < h → ⊥) → H x y ≡ 0) → within w h G ≡ H
  picture_is G H a o =
      fun_ext (λ x. fun_ext (λ y.
      by_flag (ltb x w)
      (λ e.
      by_flag (ltb y h)
      (λ f. within_in G x y (ltb-true x w e) (ltb-true y h f) ∙ a x y (ltb-true x w e) (ltb-true y h f))
      (λ f. let n : x < w → y < h → ⊥ = λ p q. omega (arith, ltb-false y h f) in within-out G x y n ∙ sym (o x y n)))
      (λ e. let n : x < w → y < h → ⊥ = λ p q. omega (arith, ltb-false x w e) in within-out G x y n ∙ sym (o x y n))))

-- a row of a picture of b rows lies in its list
pub row_fits : (b w y n : ℕ) → y < b → b * w ≤ n → y * w + w ≤ n
row_fits b w y n g f =
    let m : suc y * w ≤ b * w = mul-le-mul_right w g in
    omega (arith, suc-mul y w)

-- so does a place
pub place-fits : (b w x y n : ℕ) → x < w → y < b → b * w ≤ n → y * w + x < n
place-fits b w x y n h g f = omega (arith, row_fits b w y n g f)

-- a place of a picture has one column and one row
pub euclid : (w x y u v : ℕ) → x < w → u < w → y * w + x ≡ v * w + u → (y ≡ v) × (x ≡ u)
euclid w x y u v h k e =
    by_flag (ltb y v)
    (λ f.
    let m : suc y * w ≤ v * w = mul-le-mul_right w (ltb-true y v f) in
    absurd (omega (arith, suc-mul y w)))
    (λ f.
    by_flag (ltb v y)
    (λ g.
    let m : suc v * w ≤ y * w = mul-le-mul_right w (ltb-true v y g) in
    absurd (omega (arith, suc-mul v w)))
    (λ g.
    let q : y ≡ v = omega (arith, ltb-false y v f, ltb-false v y g) in
    let r : y * w ≡ v * w = ap (λ (n : ℕ). n * w) q in
    (q, omega arith)))
