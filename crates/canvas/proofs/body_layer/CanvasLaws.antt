-- What a pass leaves at each place, as one equation of pictures.
use mathlib.Core.Path.{◌≡◌, sym, ap, ◌∙◌}
use mathlib.Core.Bool.{false}
use mathlib.Core.List.{List, ◌++◌}
use Prim.Native.Nat.{ℕ, ◌+◌, ◌*◌, ◌≤◌, ◌<◌}
use native.Mathlib.Omega.{arith}
use lib.ListN.{length, take, drop, get_or-append}
use lib.Seq.{get_or-take, length-take-le}
use Rattle.lists.specs.Choose.{choose}
use Rattle.lists.specs.Picture.{Picture, pic, canvas, in_rect}
use Rattle.lists.proofs.PictureLaws.{within_in, within-out, picture_is, place-fits}
use Rattle.lists.proofs.RectLaws.{rect_in}
use Rattle.lists.proofs.Tests.{by_flag}

-- a pass that makes u of the characters of a rect
module _ (w h l t r b : ℕ) (wide : r ≤ w) (tall : b ≤ h) where
  out_of_rect : (x y : ℕ) → (x < w → y < h → ⊥) → in_rect l t r b x y ≡ false
  out_of_rect x y n =
      by_flag (in_rect l t r b x y)
      (λ e. let g = rect_in l t r b x y e in absurd (n (omega arith) (omega arith)))
      (λ e. e)

  pub pass-is : (s out : List ℕ) (u v : Picture)
      → ((x y : ℕ) → x < w → pic w out x y ≡ choose (in_rect l t r b x y) (u x y) (pic w s x y))
      → ((x y : ℕ) → l ≤ x → x < r → t ≤ y → y < b → u x y ≡ v x y)
      → canvas w h out ≡ (λ x y. choose (in_rect l t r b x y) (v x y) (canvas w h s x y))
  pass-is s out u v e a =
      picture_is w h (pic w out) (λ x y. choose (in_rect l t r b x y) (v x y) (canvas w h s x y))
      (λ x y p q.
      e x y p
      ∙ by_flag (in_rect l t r b x y)
      (λ f. let g = rect_in l t r b x y f in rw f (a x y g.0 g.1.0 g.1.1.0 g.1.1.1))
      (λ f. rw f (sym (within_in w h (pic w s) x y p q))))
      (λ x y n. rw (out_of_rect x y n) (within-out w h (pic w s) x y n))

-- a list that begins with another's canvas
pub copied_canvas : (w h : ℕ) (s d out : List ℕ) → h * w ≤ length s → out ≡ take (h * w) s ++ drop (h * w) d → canvas w h out ≡ canvas w h s
copied_canvas w h s d out f e =
    picture_is w h (pic w out) (canvas w h s)
    (λ x y p q.
    let i : y * w + x < h * w = place-fits h w x y (h * w) p q (omega arith) in
    let n : length (take (h * w) s) ≡ h * w = length-take-le (h * w) s f in
    ap (λ (l : List ℕ). pic w l x y) e
    ∙ get_or-append (take (h * w) s) (drop (h * w) d) 0 (y * w + x) (omega arith)
    ∙ get_or-take (h * w) s (y * w + x) 0 i
    ∙ sym (within_in w h (pic w s) x y p q))
    (λ x y n. within-out w h (pic w s) x y n)
