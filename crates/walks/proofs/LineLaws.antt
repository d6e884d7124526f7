-- Laws of the places on a line through a layer, and of the four directions.
use mathlib.Core.Path.{◌≡◌, sym, ap, ◌∙◌}
use mathlib.Core.Bool.{Bool, true, false}
use mathlib.Core.List.{List}
use Prim.Native.Nat.{ℕ, suc, ◌+◌, ◌-◌, ◌*◌, ◌≤◌, ◌<◌, ◌^◌}
use native.Mathlib.Nat.{suc-mul, add-mul, mul-le-mul_right}
use native.Mathlib.Numerals.{add-one}
use native.Mathlib.Omega.{arith}
use lib.ListN.{get_or}
use Rattle.lists.specs.Picture.{pic, canvas}
use Rattle.lists.proofs.PictureLaws.{within_in, place-fits}
use Rattle.walks.specs.Frame.{Place}
use Rattle.walks.specs.Line.{back_of, step_of, place, line_of, Reach, next_of, NextFits}
use Rattle.walks.specs.Walk.{walk_of, ray, ahead, go_of}
use Rattle.walks.specs.declared.Direction.{Direction}
use Rattle.walks.specs.declared.Direction.TheVariants.{Right, Down, Left, Up}
use Rattle.walks.proofs.WalkLaws.{walk_ext}

next_mul : (k step : ℕ) → (k + 1) * step ≡ k * step + step
next_mul k step = rw (add-one, suc-mul)

pub place_zero : (back : Bool) (at step : ℕ) → at ≡ place back at step 0
place_zero true at step = omega arith
place_zero false at step = omega arith

pub place-next : (back : Bool) (at step k : ℕ) → next_of back (place back at step k) step ≡ place back at step (k + 1)
place-next true at step k = omega (arith, next_mul k step)
place-next false at step k = omega (arith, next_mul k step)

pub reach_next : (back : Bool) (at step n len k : ℕ) → Reach back at step n len → k < n → len < 2 ^ 64 → NextFits back (place back at step k) step
reach_next true at step n len k r h f =
    let m : (k + 1) * step ≤ n * step = mul-le-mul_right step (omega arith) in
    omega (arith, next_mul k step)
reach_next false at step n len k r h f =
    let m : (k + 1) * step ≤ n * step = mul-le-mul_right step (omega arith) in
    omega (arith, next_mul k step)

pub reach_in : (back : Bool) (at step n len k : ℕ) → Reach back at step n len → k ≤ n → place back at step k < len
reach_in true at step n len k r h = omega arith
reach_in false at step n len k r h =
    let m : k * step ≤ n * step = mul-le-mul_right step h in
    omega arith

module _ (w h x y len : ℕ) (P : Place w h x y) (size : h * w ≤ len) where
  pub place_in : y * w + x < len
  place_in = place-fits h w x y len P.column P.row size

  row_end : y * w + w ≤ len
  row_end =
      let m : suc y * w ≤ h * w = mul-le-mul_right w P.row in
      omega (arith, suc-mul y w, size)

  pub dir_reach : (d : Direction) → Reach (back_of d) (y * w + x) (step_of d w) (ahead d w h x y) len
  dir_reach Right = omega (arith, row_end, P.column)
  dir_reach Down =
      let q : h ≡ h - 1 - y + (y + 1) = omega (arith, P.row) in
      let e : h * w ≡ (h - 1 - y) * w + (y * w + w) = ap (λ (n : ℕ). n * w) q ∙ add-mul (h - 1 - y) (y + 1) w ∙ rw next_mul in
      omega (arith, P.column, size)
  dir_reach Left = omega (arith, place_in)
  dir_reach Up = omega (arith, place_in)

module _ (w h x y : ℕ) (P : Place w h x y) where
  -- the character k steps away stands where the line has it
  dir_char : (d : Direction) (l : List ℕ) (k : ℕ) → k ≤ ahead d w h x y → line_of l (back_of d) (y * w + x) (step_of d w) k ≡ ray d (canvas w h l) x y k
  dir_char Right l k b =
      ap (λ (n : ℕ). get_or l n 0) (omega arith) ∙ sym (within_in w h (pic w l) (x + k) y (omega (arith, P.column)) P.row)
  dir_char Down l k b =
      ap (λ (n : ℕ). get_or l n 0) (omega (arith, add-mul y k w)) ∙ sym (within_in w h (pic w l) x (y + k) P.column (omega (arith, P.row)))
  dir_char Left l k b =
      ap (λ (n : ℕ). get_or l n 0) (omega arith) ∙ sym (within_in w h (pic w l) (x - k) y (omega (arith, P.column)) P.row)
  dir_char Up l k b =
      let q : y ≡ y - k + k = omega arith in
      let e : y * w ≡ (y - k) * w + k * w = ap (λ (n : ℕ). n * w) q ∙ add-mul (y - k) k w in
      ap (λ (n : ℕ). get_or l n 0) (omega arith) ∙ sym (within_in w h (pic w l) x (y - k) P.column (omega (arith, P.row)))

  pub dir_walk : (d : Direction) (l : List ℕ) (s a : List ℕ)
      → walk_of (line_of l (back_of d) (y * w + x) (step_of d w)) s a (ahead d w h x y) ≡ go_of d (canvas w h l) w h x y s a
  dir_walk d l s a = walk_ext _ _ s a 0 (ahead d w h x y) (λ j b. dir_char d l j (omega arith))
