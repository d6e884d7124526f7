-- Rows and columns of a rect as lines: what a pass over them makes of the picture, for any law of a line.
use mathlib.Core.Path.{◌≡◌, sym, ap}
use mathlib.Core.Bool.{true, false}
use mathlib.Core.List.{List}
use Prim.Native.Nat.{ℕ, suc, ◌+◌, ◌-◌, ◌*◌, ◌<◌, ◌≤◌}
use native.Mathlib.Nat.{mul-le-mul_right, suc-mul, add-mul}
use native.Mathlib.Omega.{arith}
use lib.ListN.{length, get_or}
use borrow.Author.Tests.{leb-true, ltb-true, le-leb, lt-ltb}
use Rattle.lists.specs.Choose.{choose}
use Rattle.lists.specs.Turns.{turns}
use Rattle.lists.specs.Line.{placed}
use Rattle.lists.specs.Picture.{pic, in_rect}
use Rattle.lists.proofs.Tests.{both, true_false}
use Rattle.lists.proofs.LineLaws.{LineLaw, place_is}
use Rattle.lists.proofs.PictureLaws.{euclid}

pub rect_in : (l t r b x y : ℕ) → in_rect l t r b x y ≡ true → (l ≤ x) × ((x < r) × ((t ≤ y) × (y < b)))
unfolding in_rect
rect_in l t r b x y h =
    let p = both _ _ h in
    let q = both _ _ p.0 in
    let u = both _ _ p.1 in
    (leb-true l x q.0, (ltb-true x r q.1, (leb-true t y u.0, ltb-true y b u.1)))

pub rect_is : (l t r b x y : ℕ) → l ≤ x → x < r → t ≤ y → y < b → in_rect l t r b x y ≡ true
unfolding in_rect
rect_is l t r b x y p q u v = simp (le-leb l x p, lt-ltb x r q, le-leb t y u, lt-ltb y b v)

-- the rect fits rows of w characters and the list
module _ (l t r b w : ℕ) (s : List ℕ) (width : r ≤ w) (fits : b * w ≤ length s) where
  -- the place of column l + k in row t + j
  at : (j k : ℕ) → (t + j) * w + (l + k) ≡ t * w + l + j * w + k
  at j k = omega (arith, add-mul t j w)

  inside : (j k : ℕ) → j < b - t → k < r - l → t * w + l + j * w + k < length s
  inside j k h i =
      let m : suc (t + j) * w ≤ b * w = mul-le-mul_right w (omega arith) in
      omega (arith, suc-mul (t + j) w, at j k)

  same : (i j k n : ℕ) → j < r - l → n < r - l → t * w + l + i * w + j ≡ t * w + l + k * w + n → (i ≡ k) × (j ≡ n)
  same i j k n h g e = euclid w j i n k (omega arith) (omega arith) (omega arith)

  -- where a column and a row of the picture lie in the rect, and where not
  found : (x y : ℕ) → l ≤ x → t ≤ y → y * w + x ≡ t * w + l + (y - t) * w + (x - l)
  found x y h g =
      let p : t + (y - t) ≡ y = omega arith in
      let q : y * w ≡ (t + (y - t)) * w = ap (λ (n : ℕ). n * w) (sym p) in
      omega (arith, add-mul t (y - t) w)

  outside : (x y : ℕ) → x < w → in_rect l t r b x y ≡ false → (j k : ℕ) → j < b - t → k < r - l → y * w + x ≡ t * w + l + j * w + k → ⊥
  outside x y h f j k u v e =
      let q = euclid w x y (l + k) (t + j) h (omega arith) (omega (arith, at j k)) in
      true_false (rect_is l t r b x y (omega (arith, q.1)) (omega (arith, q.1)) (omega (arith, q.0)) (omega (arith, q.0))) f

  pub by_rows : (F : ℕ → List ℕ → List ℕ) (val : ℕ → (ℕ → ℕ) → ℕ → ℕ)
      → ((j : ℕ) → LineLaw (F j) (placed (t * w + l) w 1 j) (r - l) (val j))
      → (x y : ℕ) → x < w
      → pic w (turns F (b - t) s) x y ≡ choose (in_rect l t r b x y) (val (y - t) (λ k. pic w s (l + k) y) (x - l)) (pic w s x y)
  by_rows F val law x y h =
      place_is F (placed (t * w + l) w 1) (r - l) val law s (b - t)
      (λ i j k n p q u v e. same i j k n q v (omega arith))
      (λ j k p q. omega (arith, inside j k p q))
      (y * w + x) (y - t) (x - l) (λ k. pic w s (l + k) y) (in_rect l t r b x y)
      (λ f.
      let g = rect_in l t r b x y f in (
        omega (arith, g),
        (
          omega (arith, g),
          (
            omega (arith, found x y g.0 g.1.1.0),
            (λ i a. ap (λ (n : ℕ). get_or s n 0) (omega (arith, found (l + i) y (omega arith) g.1.1.0))),
          ),
        ),
      ))
      (λ f j k p q e. outside x y h f j k p q (omega arith))

  pub by-columns : (F : ℕ → List ℕ → List ℕ) (val : ℕ → (ℕ → ℕ) → ℕ → ℕ)
      → ((j : ℕ) → LineLaw (F j) (placed (t * w + l) 1 w j) (b - t) (val j))
      → (x y : ℕ) → x < w
      → pic w (turns F (r - l) s) x y ≡ choose (in_rect l t r b x y) (val (x - l) (λ k. pic w s x (t + k)) (y - t)) (pic w s x y)
  by-columns F val law x y h =
      place_is F (placed (t * w + l) 1 w) (b - t) val law s (r - l)
      (λ i j k n p q u v e. let z = same j i n k p u (omega arith) in (z.1, z.0))
      (λ j k p q. omega (arith, inside k j q p))
      (y * w + x) (x - l) (y - t) (λ k. pic w s x (t + k)) (in_rect l t r b x y)
      (λ f.
      let g = rect_in l t r b x y f in (
        omega (arith, g),
        (
          omega (arith, g),
          (
            omega (arith, found x y g.0 g.1.1.0),
            (λ i a. ap (λ (n : ℕ). get_or s n 0) (omega (arith, found x (t + i) g.0 (omega arith)))),
          ),
        ),
      ))
      (λ f j k p q e. outside x y h f k j q p (omega arith))

  pub corner-fits : l < r → t < b → t * w + l < length s
  corner-fits h g = omega (arith, inside 0 0 (omega arith) (omega arith))

  pub rows_fit : (j k : ℕ) → j < b - t → k < r - l → placed (t * w + l) w 1 j k < length s
  rows_fit j k p q = omega (arith, inside j k p q)

  pub columns_fit : (j k : ℕ) → j < r - l → k < b - t → placed (t * w + l) 1 w j k < length s
  columns_fit j k p q = omega (arith, inside k j q p)
