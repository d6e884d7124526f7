-- Laws of four walks of one cursor: around a frame, and to the sides of the body.
use Rattle.std.specs.Prelude.{Ok, Err, ℕ}
use mathlib.Core.Path.{◌≡◌, refl, sym, ap, ◌∙◌, subst}
use Prim.Native.Nat.{ℕ, ◌+◌, ◌-◌}
use Rattle.lists.specs.Answer.{◌>>=◌, ◌>>◌}
use Rattle.lists.specs.Picture.{Picture}
use Rattle.model.specs.Refusals.{Reading}
use Rattle.model.specs.declared.Point.{Point}
use Rattle.model.specs.declared.Rect.{Rect}
use Rattle.walks.specs.Frame.{Place, rect_of, close_of, frame_of}
use Rattle.walks.specs.Kinds.{thin, grid, name}
use Rattle.walks.specs.declared.Direction.TheVariants.{Right, Down, Left, Up}
use Rattle.walks.proofs.FrameLaws.{closed, stops_right, stops_down, stops_left, stops_up, walked}
use Rattle.walks.specs.along.Characters.{kind_of, along_of}
use Rattle.walks.specs.declared.along.Lines.{Lines}
use Rattle.walks.specs.declared.along.Lines.TheVariants.{Region, Rectangle, Name, Body}
use Rattle.walks.specs.cursors.Cursor.{point, place_after}
use Rattle.walks.proofs.cursors.CursorLaws.{Moves, came, stays}
use Rattle.frames.specs.Body.{body_of}

-- the last of four walks, or the first refusal
abbrev pub all_of : Reading ℕ → Reading ℕ → Reading ℕ → Reading ℕ → Reading ℕ
all_of a b c d = ◌>>◌ a (◌>>◌ b (◌>>◌ c d))

-- the rect from column x of row y to column bx of row by, where four walks ended in column cx of row cy
abbrev pub closed_of : ℕ → ℕ → ℕ → ℕ → ℕ → ℕ → Reading ℕ → Reading ℕ → Reading ℕ → Reading ℕ → Reading Rect
closed_of x y bx by cx cy a b c d = ◌>>◌ (all_of a b c d) (close_of x y cx cy bx by)

-- around a frame: the first refusal of the four walks, or whether the cursor is back
module _ (lines : Lines) (p : Picture) (w h x y : ℕ) where
  pub around : (n1 n2 n3 n4 : Reading ℕ) (a b c e : Point) → Moves lines p w h Right (point x y) a n1 → Moves lines p w h Down a b n2 → Moves lines p w h Left b c n3 → Moves lines p w h Up c e n4
      → closed_of x y b.x b.y e.x e.y n1 n2 n3 n4 ≡ frame_of (kind_of lines) p w h x y
  around (Err r) n2 n3 n4 a b c e m1 m2 m3 m4 = sym (stops_right (kind_of lines) p w h x y r (sym m1.1))
  around (Ok i) (Err r) n3 n4 a b c e m1 m2 m3 m4 =
      let m2' = subst (λ (z : Point). Moves lines p w h Down z b (Err r)) (came lines p w h Right (point x y) a (Ok i) m1) m2 in
      sym (stops_down (kind_of lines) p w h x y r i (sym m1.1) (sym m2'.1))
  around (Ok i) (Ok j) (Err r) n4 a b c e m1 m2 m3 m4 =
      let m2' = subst (λ (z : Point). Moves lines p w h Down z b (Ok j)) (came lines p w h Right (point x y) a (Ok i) m1) m2 in
      let m3' = subst (λ (z : Point). Moves lines p w h Left z c (Err r)) (came lines p w h Down _ b (Ok j) m2') m3 in
      sym (stops_left (kind_of lines) p w h x y r i (sym m1.1) j (sym m2'.1) (sym m3'.1))
  around (Ok i) (Ok j) (Ok k) (Err r) a b c e m1 m2 m3 m4 =
      let m2' = subst (λ (z : Point). Moves lines p w h Down z b (Ok j)) (came lines p w h Right (point x y) a (Ok i) m1) m2 in
      let m3' = subst (λ (z : Point). Moves lines p w h Left z c (Ok k)) (came lines p w h Down _ b (Ok j) m2') m3 in
      let m4' = subst (λ (z : Point). Moves lines p w h Up z e (Err r)) (came lines p w h Left _ c (Ok k) m3') m4 in
      sym (stops_up (kind_of lines) p w h x y r i (sym m1.1) j (sym m2'.1) k (sym m3'.1) (sym m4'.1))
  around (Ok i) (Ok j) (Ok k) (Ok l) a b c e m1 m2 m3 m4 =
      let m2' = subst (λ (z : Point). Moves lines p w h Down z b (Ok j)) (came lines p w h Right (point x y) a (Ok i) m1) m2 in
      let m3' = subst (λ (z : Point). Moves lines p w h Left z c (Ok k)) (came lines p w h Down _ b (Ok j) m2') m3 in
      let m4' = subst (λ (z : Point). Moves lines p w h Up z e (Ok l)) (came lines p w h Left _ c (Ok k) m3') m4 in
      (λ u. close_of x y (came lines p w h Up _ e (Ok l) m4' u).x (came lines p w h Up _ e (Ok l) m4' u).y (came lines p w h Down _ b (Ok j) m2' u).x (came lines p w h Down _ b (Ok j) m2' u).y)
      ∙ sym (walked (kind_of lines) p w h x y i j k l (sym m1.1) (sym m2'.1) (sym m3'.1) (sym m4'.1))

  -- each walk of them ends in the picture
  pub in_right : (n1 : Reading ℕ) (a : Point) → Place w h x y → Moves lines p w h Right (point x y) a n1 → Place w h a.x a.y
  in_right n1 a i m1 = stays lines p w h Right (point x y) a n1 m1 i

  pub in_down : (n1 n2 : Reading ℕ) (a b : Point) → Place w h x y → Moves lines p w h Right (point x y) a n1 → Moves lines p w h Down a b n2 → Place w h b.x b.y
  in_down n1 n2 a b i m1 m2 = stays lines p w h Down a b n2 m2 (in_right n1 a i m1)

  pub in_left : (n1 n2 n3 : Reading ℕ) (a b c : Point) → Place w h x y → Moves lines p w h Right (point x y) a n1 → Moves lines p w h Down a b n2 → Moves lines p w h Left b c n3 → Place w h c.x c.y
  in_left n1 n2 n3 a b c i m1 m2 m3 = stays lines p w h Left b c n3 m3 (in_down n1 n2 a b i m1 m2)

-- to the sides of the body, from one place
module _ (lines : Lines) (p : Picture) (w h x y : ℕ) where
  abbrev sides : (u d l r : Reading ℕ) → Reading Rect
  sides u d l r = ◌>>=◌ u (λ u. ◌>>=◌ d (λ d. ◌>>=◌ l (λ l. ◌>>=◌ r (λ r. Ok (record { left = x - l; top = y - u; right = x + r + 1; bottom = y + d + 1 })))))

  found : (u d l r : Reading ℕ) → ◌>>◌ (◌>>◌ u (◌>>◌ d (◌>>◌ l r))) (Ok (rect_of (place_after Left (point x y) l).x (place_after Up (point x y) u).y (place_after Right (point x y) r).x (place_after Down (point x y) d).y)) ≡ sides u d l r
  found (Err e) d l r = refl
  found (Ok u) (Err e) l r = refl
  found (Ok u) (Ok d) (Err e) r = refl
  found (Ok u) (Ok d) (Ok l) (Err e) = refl
  found (Ok u) (Ok d) (Ok l) (Ok r) = refl

  pub sides-found : lines ≡ Body → (n1 n2 n3 n4 : Reading ℕ) (a b c e : Point) → Moves lines p w h Up (point x y) a n1 → Moves lines p w h Down (point x y) b n2 → Moves lines p w h Left (point x y) c n3 → Moves lines p w h Right (point x y) e n4
      → closed_of c.x a.y e.x b.y c.x a.y n1 n2 n3 n4 ≡ body_of p w h x y
  unfolding body_of
  sides-found q n1 n2 n3 n4 a b c e m1 m2 m3 m4 =
      ap (◌>>◌ (all_of n1 n2 n3 n4)) (closed c.x a.y c.x a.y e.x b.y refl refl)
      ∙ (λ u. ◌>>◌ (all_of n1 n2 n3 n4) (Ok (rect_of (came lines p w h Left (point x y) c n3 m3 u).x (came lines p w h Up (point x y) a n1 m1 u).y (came lines p w h Right (point x y) e n4 m4 u).x (came lines p w h Down (point x y) b n2 m2 u).y)))
      ∙ found n1 n2 n3 n4
      ∙ (λ u. sides (m1.1 u) (m2.1 u) (m3.1 u) (m4.1 u))
      ∙ ap (λ (z : Lines). sides (along_of z Up p w h x y) (along_of z Down p w h x y) (along_of z Left p w h x y) (along_of z Right p w h x y)) q

-- the kinds of frames that the lines have
region-kind : kind_of Region ≡ thin
region-kind = refl

rectangle_kind : kind_of Rectangle ≡ grid
rectangle_kind = refl

name-kind : kind_of Name ≡ name
name-kind = refl
