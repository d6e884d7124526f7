-- Four walks accept exactly the frames: the theorems `walk_is_frame` and `one_frame`, for any kind whose sides are sound.
use Rattle.std.specs.Prelude.{Ok, Err}
use mathlib.Core.Path.{◌≡◌, refl, sym, ap, ◌∙◌, subst}
use mathlib.Core.Bool.{Bool, true, false, not, ◌&&◌, ◌||◌}
use mathlib.Core.List.{List, [], ◌∷◌}
use mathlib.Core.Logic.{◌↔◌}
use Prim.Native.Nat.{ℕ, ◌+◌, ◌-◌, ◌<◌}
use native.Mathlib.Omega.{arith}
use lib.Dec.{eqb}
use borrow.Author.Tests.{eq-eqb, eqb-true}
use Rattle.lists.specs.Choose.{choose}
use Rattle.lists.specs.OneOf.{one_of}
use Rattle.lists.specs.Picture.{Picture}
use Rattle.lists.proofs.AnswerLaws.{refused-ok, then_ok}
use Rattle.lists.proofs.Tests.{both, true_false}
use Rattle.model.specs.declared.Rect.{Rect}
use Rattle.model.specs.declared.Refusal.{Refusal}
use Rattle.model.specs.declared.Refusal.TheVariants.{RectangleNotClosed}
use Rattle.walks.specs.Walk.{ray, ahead, go_of}
use Rattle.walks.specs.Frame.{Kind, rect_of, close_of, frame_of, Frame, Starts}
use Rattle.walks.specs.Kinds.{thin, grid, name}
use Rattle.walks.specs.declared.Direction.TheVariants.{Right, Down, Left, Up}
use Rattle.walks.proofs.WalkLaws.{Apart, found_side, side_found}

-- no character of a side is one of the corner that ends it
pub record Sound (K : Kind) : Type 0 where
  pub top : Apart K.top_right K.top
  pub right : Apart K.bottom_right K.right
  pub bottom : Apart K.bottom_left K.bottom
  pub left : Apart K.top_left K.left

-- the walks ended where they began
pub closed : (x y cx cy bx by : ℕ) → cx ≡ x → cy ≡ y → close_of x y cx cy bx by ≡ Ok (rect_of x y bx by)
closed x y cx cy bx by e f = rw (eq-eqb cx x e, eq-eqb cy y f)

record Shut (x y cx cy bx by : ℕ) (r : Rect) : Type 0 where
  column : cx ≡ x
  row : cy ≡ y
  is : r ≡ rect_of x y bx by

shut : (x y cx cy bx by : ℕ) (r : Rect) → close_of x y cx cy bx by ≡ Ok r → Shut x y cx cy bx by r
shut x y cx cy bx by r g = go (eqb cx x && eqb cy y) refl g
  where
    go : (t : Bool) → (eqb cx x && eqb cy y) ≡ t → choose t (Ok (rect_of x y bx by)) (Err (RectangleNotClosed cx cy)) ≡ Ok r → Shut x y cx cy bx by r
    go true e q = let b = both (eqb cx x) (eqb cy y) e in record { column = eqb-true cx x b.0; row = eqb-true cy y b.1; is = cc }
    go false e q = refused-ok q

-- each walk stops the frame, or leaves what follows it
module _ (K : Kind) (p : Picture) (w h x y : ℕ) (r : Refusal) where
  pub stops_right : go_of Right p w h x y K.top_right K.top ≡ Err r → frame_of K p w h x y ≡ Err r
  unfolding frame_of
  stops_right e = rw e

  module _ (a : ℕ) (ea : go_of Right p w h x y K.top_right K.top ≡ Ok a) where
    pub stops_down : go_of Down p w h (x + a) y K.bottom_right K.right ≡ Err r → frame_of K p w h x y ≡ Err r
    unfolding frame_of
    stops_down e = rw (ea, e)

    module _ (b : ℕ) (eb : go_of Down p w h (x + a) y K.bottom_right K.right ≡ Ok b) where
      pub stops_left : go_of Left p w h (x + a) (y + b) K.bottom_left K.bottom ≡ Err r → frame_of K p w h x y ≡ Err r
      unfolding frame_of
      stops_left e = rw (ea, eb, e)

      pub stops_up : (c : ℕ) → go_of Left p w h (x + a) (y + b) K.bottom_left K.bottom ≡ Ok c → go_of Up p w h (x + a - c) (y + b) K.top_left K.left ≡ Err r → frame_of K p w h x y ≡ Err r
      unfolding frame_of
      stops_up c ec e = rw (ea, eb, ec, e)

pub walked : (K : Kind) (p : Picture) (w h x y a b c d : ℕ) → go_of Right p w h x y K.top_right K.top ≡ Ok a → go_of Down p w h (x + a) y K.bottom_right K.right ≡ Ok b
    → go_of Left p w h (x + a) (y + b) K.bottom_left K.bottom ≡ Ok c → go_of Up p w h (x + a - c) (y + b) K.top_left K.left ≡ Ok d
    → frame_of K p w h x y ≡ close_of x y (x + a - c) (y + b - d) (x + a) (y + b)
unfolding frame_of
walked K p w h x y a b c d ea eb ec ed = rw (ea, eb, ec, ed)

module _ (K : Kind) (p : Picture) (w h x y : ℕ) where
  -- a frame is accepted
  accept_at : Sound K → (a b : ℕ) → Frame K p w h x y (x + a) (y + b) → frame_of K p w h x y ≡ Ok (rect_of x y (x + a) (y + b))
  accept_at S a b F =
      let wa : 0 < a = omega (arith, F.wide) in
      let hb : 0 < b = omega (arith, F.high) in
      let ex : x + a - a ≡ x = omega arith in
      let ey : y + b - b ≡ y = omega arith in
      let e1 : go_of Right p w h x y K.top_right K.top ≡ Ok a =
      side_found (ray Right p x y) K.top_right K.top S.top 0 (ahead Right w h x y) a
      (record { past = wa; corner = F.top_right; between = λ i u v. F.top (x + i) (omega arith) (omega arith) }) (omega (arith, F.column)) in
      let e2 : go_of Down p w h (x + a) y K.bottom_right K.right ≡ Ok b =
      side_found (ray Down p (x + a) y) K.bottom_right K.right S.right 0 (ahead Down w h (x + a) y) b
      (record { past = hb; corner = F.bottom_right; between = λ i u v. F.right (y + i) (omega arith) (omega arith) }) (omega (arith, F.row)) in
      let e3 : go_of Left p w h (x + a) (y + b) K.bottom_left K.bottom ≡ Ok a =
      side_found (ray Left p (x + a) (y + b)) K.bottom_left K.bottom S.bottom 0 (ahead Left w h (x + a) (y + b)) a
      (record { past = wa; corner = rw ex F.bottom_left; between = λ i u v. F.bottom (x + a - i) (omega arith) (omega arith) }) (omega arith) in
      let e4 : go_of Up p w h (x + a - a) (y + b) K.top_left K.left ≡ Ok b =
      rw ex (side_found (ray Up p x (y + b)) K.top_left K.left S.left 0 (ahead Up w h x (y + b)) b
      (record { past = hb; corner = rw ey F.top_left; between = λ i u v. F.left (y + b - i) (omega arith) (omega arith) }) (omega arith)) in
      walked K p w h x y a b a b e1 e2 e3 e4 ∙ closed x y (x + a - a) (y + b - b) (x + a) (y + b) ex ey

  pub accept : Sound K → (bx by : ℕ) → Frame K p w h x y bx by → frame_of K p w h x y ≡ Ok (rect_of x y bx by)
  accept S bx by F =
      let ex : x + (bx - x) ≡ bx = omega (arith, F.wide) in
      let ey : y + (by - y) ≡ by = omega (arith, F.high) in
      rw (ex, ey) at (accept_at S (bx - x) (by - y) (rw (ex, ey) F))

  -- what is accepted is a frame
  pub accepted : (r : Rect) → frame_of K p w h x y ≡ Ok r → Starts K p w h x y r
  unfolding frame_of
  accepted r e =
      let g1 = then_ok (go_of Right p w h x y K.top_right K.top) _ r e in
      let a : ℕ = g1.0 in
      let f1 = found_side (ray Right p x y) K.top_right K.top 0 (ahead Right w h x y) a g1.1 in
      let g2 = then_ok (go_of Down p w h (x + a) y K.bottom_right K.right) _ r g1.2 in
      let b : ℕ = g2.0 in
      let f2 = found_side (ray Down p (x + a) y) K.bottom_right K.right 0 (ahead Down w h (x + a) y) b g2.1 in
      let g3 = then_ok (go_of Left p w h (x + a) (y + b) K.bottom_left K.bottom) _ r g2.2 in
      let c : ℕ = g3.0 in
      let f3 = found_side (ray Left p (x + a) (y + b)) K.bottom_left K.bottom 0 (ahead Left w h (x + a) (y + b)) c g3.1 in
      let g4 = then_ok (go_of Up p w h (x + a - c) (y + b) K.top_left K.left) _ r g3.2 in
      let d : ℕ = g4.0 in
      let f4 = found_side (ray Up p (x + a - c) (y + b)) K.top_left K.left 0 (ahead Up w h (x + a - c) (y + b)) d g4.1 in
      let s = shut x y (x + a - c) (y + b - d) (x + a) (y + b) r g4.2 in
      record {
        bx = x + a;
        by = y + b;
        is = s.is;
        frame = record {
          wide = omega (arith, f1.0.past);
          high = omega (arith, f2.0.past);
          column = omega (arith, f1.0.past, f1.1);
          row = omega (arith, f2.0.past, f2.1);
          top_left = subst (λ (u : ℕ). one_of (p u y) K.top_left ≡ true) s.column (subst (λ (u : ℕ). one_of (p (x + a - c) u) K.top_left ≡ true) s.row f4.0.corner);
          top_right = f1.0.corner;
          bottom_right = f2.0.corner;
          bottom_left = subst (λ (u : ℕ). one_of (p u (y + b)) K.bottom_left ≡ true) s.column f3.0.corner;
          top = λ i u v.
              let z : x + (i - x) ≡ i = omega arith in
              rw z at (f1.0.between (i - x) (omega arith) (omega arith));
          bottom = λ i u v.
              let z : x + a - (x + a - i) ≡ i = omega arith in
              rw z at (f3.0.between (x + a - i) (omega arith) (omega (arith, s.column, f3.1)));
          left = λ j u v.
              let z : y + b - (y + b - j) ≡ j = omega arith in
              subst (λ (k : ℕ). one_of (p k j) K.left ≡ true) s.column (rw z at (f4.0.between (y + b - j) (omega arith) (omega (arith, s.row, f4.1))));
          right = λ j u v.
              let z : y + (j - y) ≡ j = omega arith in
              rw z at (f2.0.between (j - y) (omega arith) (omega arith));
        };
      }

  -- "a walk accepts exactly if one does" (document 01): four walks answer a rect exactly if it is that of a frame that starts there
  pub walk_is_frame : Sound K → (r : Rect) → (frame_of K p w h x y ≡ Ok r) ↔ Starts K p w h x y r
  walk_is_frame S r = (accepted r, λ F. accept S F.bx F.by F.frame ∙ ap Ok (sym F.is))

  -- "At most one frame starts at a point" (document 01)
  pub one_frame : Sound K → (r r' : Rect) → Starts K p w h x y r → Starts K p w h x y r' → r ≡ r'
  one_frame S r r' F F' =
      let e = accept S F.bx F.by F.frame in
      let e' = accept S F'.bx F'.by F'.frame in
      let i = F.is in
      let i' = F'.is in
      cc

-- a test that two lists are apart
abbrev pub apartb : List ℕ → List ℕ → Bool
apartb s [] = true
apartb s (c ∷ a) = not (one_of c s) && apartb s a

not_in : (t : Bool) → not t ≡ true → t ≡ false
not_in true e = true_false refl (sym e)
not_in false e = refl

apart_step : (s a : List ℕ) (c d : ℕ) (t : Bool) → eqb c d ≡ t → t || one_of c a ≡ true → not (one_of d s) ≡ true → (one_of c a ≡ true → one_of c s ≡ false) → one_of c s ≡ false
apart_step s a c d true q m h rest = rw (eqb-true c d q) (not_in (one_of d s) h)
apart_step s a c d false q m h rest = rest m

pub apart : (s a : List ℕ) → apartb s a ≡ true → Apart s a
unfolding one_of
apart s [] e c m = true_false m refl
apart s (d ∷ a) e c m =
    let b = both (not (one_of d s)) (apartb s a) e in
    apart_step s a c d (eqb c d) refl m b.0 (apart s a b.1 c)

-- one computed test for a kind
pub sound : (K : Kind) → apartb K.top_right K.top ≡ true → apartb K.bottom_right K.right ≡ true → apartb K.bottom_left K.bottom ≡ true → apartb K.top_left K.left ≡ true → Sound K
sound K a b c d =
    record {
      top = apart K.top_right K.top a;
      right = apart K.bottom_right K.right b;
      bottom = apart K.bottom_left K.bottom c;
      left = apart K.top_left K.left d;
    }

pub thin-sound : Sound thin
unfolding one_of
thin-sound = sound thin refl refl refl refl

pub grid-sound : Sound grid
unfolding one_of
grid-sound = sound grid refl refl refl refl

pub name-sound : Sound name
unfolding one_of
name-sound = sound name refl refl refl refl
