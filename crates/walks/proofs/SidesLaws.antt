-- The finder by sides finds exactly the frames, so it answers what walks answer: the theorem `sides_is_frame`.
use Rattle.std.specs.Prelude.{Ok, Option, None, Some}
use mathlib.Core.Path.{◌≡◌, refl, sym, ap, ◌∙◌, subst}
use mathlib.Core.Bool.{Bool, true, ◌&&◌}
use mathlib.Core.Logic.{◌↔◌, ⊎_elim}
use Prim.Native.Nat.{ℕ, zero, suc, ◌+◌, ◌-◌, ◌≤◌, ◌<◌}
use native.Mathlib.Nat.{eq-or-lt_of_le}
use native.Mathlib.Omega.{arith}
use borrow.Author.Tests.{lt-ltb, ltb-true}
use Rattle.lists.specs.Answer.{Below}
use Rattle.lists.specs.Choose.{choose}
use Rattle.lists.specs.OneOf.{one_of}
use Rattle.lists.specs.Picture.{Picture}
use Rattle.lists.proofs.AnswerLaws.{refused-ok}
use Rattle.lists.proofs.Tests.{both, choose-some}
use Rattle.model.specs.declared.Rect.{Rect}
use Rattle.walks.specs.Frame.{Kind, rect_of, frame_of, Frame, Starts}
use Rattle.walks.specs.Sides.{all_from, between, drawn, or_else, first_of, frame_at, given, by_sides}
use Rattle.walks.proofs.FrameLaws.{Sound, accepted, walk_is_frame, one_frame}

and_true : {a b : Bool} → a ≡ true → b ≡ true → (a && b) ≡ true
and_true {a} {b} p q = rw (p, q)

none-some : {A B : Type 0} {a : A} → ◌≡◌ {A = Option A} None (Some a) → B
none-some e = let z : ◌≡◌ {A = ℕ} 0 1 = cc in absurd (omega arith)

pub all_true : (f : ℕ → Bool) (k n : ℕ) → all_from f k n ≡ true → (i : ℕ) → k ≤ i → i < k + n → f i ≡ true
unfolding all_from
all_true f k zero e i p q = absurd (omega arith)
all_true f k (suc n) e i p q =
    let b = both (f k) (all_from f (suc k) n) e in
    ⊎_elim (λ u. subst (λ (v : ℕ). f v ≡ true) u b.0) (λ u. all_true f (suc k) n b.1 i u (omega arith)) (eq-or-lt_of_le p)

true_all : (f : ℕ → Bool) (k n : ℕ) → ((i : ℕ) → k ≤ i → i < k + n → f i ≡ true) → all_from f k n ≡ true
unfolding all_from
true_all f k zero g = refl
true_all f k (suc n) g = and_true (g k (omega arith) (omega arith)) (true_all f (suc k) n (λ i p q. g i (omega arith) (omega arith)))

between_true : (f : ℕ → Bool) (a b : ℕ) → between f a b ≡ true → (i : ℕ) → a < i → i < b → f i ≡ true
between_true f a b e i p q = all_true f (suc a) (b - suc a) e i p (omega arith)

true_between : (f : ℕ → Bool) (a b : ℕ) → ((i : ℕ) → a < i → i < b → f i ≡ true) → between f a b ≡ true
true_between f a b g = true_all f (suc a) (b - suc a) (λ i p q. g i p (omega arith))

-- the test of a frame
module _ (K : Kind) (p : Picture) (w h x y bx by : ℕ) where
  drawn-frame : bx < w → by < h → drawn K p x y bx by ≡ true → Frame K p w h x y bx by
  unfolding drawn
  drawn-frame c r e =
      let a = both _ _ e in
      let b = both _ _ a.0 in
      let d = both _ _ a.1 in
      let f = both _ _ d.0 in
      let s = both _ _ d.1 in
      let f1 = both _ _ f.0 in
      let f2 = both _ _ f.1 in
      let s1 = both _ _ s.0 in
      let s2 = both _ _ s.1 in
      record {
        wide = ltb-true x bx b.0;
        high = ltb-true y by b.1;
        column = c;
        row = r;
        top_left = f1.0;
        top_right = f1.1;
        bottom_right = f2.0;
        bottom_left = f2.1;
        top = between_true (λ i. one_of (p i y) K.top) x bx s1.0;
        bottom = between_true (λ i. one_of (p i by) K.bottom) x bx s1.1;
        left = between_true (λ j. one_of (p x j) K.left) y by s2.0;
        right = between_true (λ j. one_of (p bx j) K.right) y by s2.1;
      }

  frame-drawn : Frame K p w h x y bx by → drawn K p x y bx by ≡ true
  unfolding drawn
  frame-drawn F =
      and_true (and_true (lt-ltb x bx F.wide) (lt-ltb y by F.high))
      (and_true (and_true (and_true F.top_left F.top_right) (and_true F.bottom_right F.bottom_left))
      (and_true
      (and_true (true_between (λ i. one_of (p i y) K.top) x bx F.top) (true_between (λ i. one_of (p i by) K.bottom) x bx F.bottom))
      (and_true (true_between (λ j. one_of (p x j) K.left) y by F.left) (true_between (λ j. one_of (p bx j) K.right) y by F.right))))

-- what is found stands at one of the places, and where one stands, one is found
module _ {A : Type 0} (f : ℕ → Option A) where
  hit-at : (k n : ℕ) (a : A) (o rest : Option A) → f k ≡ o → (rest ≡ Some a → (i : ℕ) × (i < suc k + n) × (f i ≡ Some a)) → or_else o rest ≡ Some a
      → (i : ℕ) × (i < k + suc n) × (f i ≡ Some a)
  hit-at k n a (Some b) rest p g e = (k, omega arith, p ∙ e)
  hit-at k n a None rest p g e = let r = g e in (r.0, omega (arith, r.1), r.2)

  hit : (k n : ℕ) (a : A) → first_of f k n ≡ Some a → (i : ℕ) × (i < k + n) × (f i ≡ Some a)
  unfolding first_of
  hit k zero a e = none-some e
  hit k (suc n) a e = hit-at k n a (f k) (first_of f (suc k) n) refl (hit (suc k) n a) e

  or_else_lem : (o rest : Option A) → (a : A) × (rest ≡ Some a) → (a : A) × (or_else o rest ≡ Some a)
  or_else_lem (Some b) rest s = (b, refl)
  or_else_lem None rest s = s

  found : (k n i : ℕ) (a : A) → k ≤ i → i < k + n → f i ≡ Some a → (b : A) × (first_of f k n ≡ Some b)
  unfolding first_of
  found k zero i a p q e = absurd (omega arith)
  found k (suc n) i a p q e =
      ⊎_elim
      (λ u. let z : f k ≡ Some a = ap f u ∙ e in (a, rw z))
      (λ u. or_else_lem (f k) (first_of f (suc k) n) (found (suc k) n i a u (omega arith) e))
      (eq-or-lt_of_le p)

module _ (K : Kind) (p : Picture) (w h x y : ℕ) where
  abbrev here : ℕ → ℕ → Option Rect
  here bx by = choose (drawn K p x y bx by) (Some (rect_of x y bx by)) None

  at-frame : (r : Rect) → frame_at K p w h x y ≡ Some r → Starts K p w h x y r
  unfolding frame_at
  at-frame r e =
      let a = hit (λ bx. first_of (here bx) 0 h) 0 w r e in
      let b = hit (here a.0) 0 h r a.2 in
      let t = choose-some (drawn K p x y a.0 b.0) (rect_of x y a.0 b.0) r b.2 in
      record { bx = a.0; by = b.0; is = sym t.1; frame = drawn-frame K p w h x y a.0 b.0 (omega (arith, a.1)) (omega (arith, b.1)) t.0 }

  frame-at : Sound K → (r : Rect) → Starts K p w h x y r → frame_at K p w h x y ≡ Some r
  unfolding frame_at
  frame-at S r F =
      let d = frame-drawn K p w h x y F.bx F.by F.frame in
      let e : here F.bx F.by ≡ Some (rect_of x y F.bx F.by) = rw d in
      let b = found (here F.bx) 0 h F.by _ (omega arith) (omega (arith, F.frame.row)) e in
      let a = found (λ bx. first_of (here bx) 0 h) 0 w F.bx b.0 (omega arith) (omega (arith, F.frame.column)) b.1 in
      a.1 ∙ ap Some (one_frame K p w h x y S a.0 r (at-frame a.0 a.1) F)

  -- the finder answers a rect exactly if it is that of a frame that starts there
  pub sides_is_frame : Sound K → (r : Rect) → (frame_at K p w h x y ≡ Some r) ↔ Starts K p w h x y r
  sides_is_frame S r = (at-frame r, frame-at S r)

  given-some : (o : Option Rect) (r : Rect) → given x y o ≡ Ok r → o ≡ Some r
  given-some (Some q) r e = cc
  given-some None r e = refused-ok e

  -- what walks find, the sides show, and the other way round
  pub walks_sides : Sound K → Below (frame_of K p w h x y) (by_sides K p w h x y)
  walks_sides S r e = ap (given x y) (frame-at S r (accepted K p w h x y r e))

  pub sides_walks : Sound K → Below (by_sides K p w h x y) (frame_of K p w h x y)
  sides_walks S r e = (walk_is_frame K p w h x y S r).1 (at-frame r (given-some (frame_at K p w h x y) r e))
