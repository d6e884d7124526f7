-- The name's box, which is found on TEXT, is the first region of THIN. So the name's text is that region's text.
use Rattle.std.specs.Prelude.{Ok}
use mathlib.Core.Path.{◌≡◌, refl, sym, ap, ◌∙◌}
use mathlib.Core.Bool.{Bool, true, false, ◌&&◌, ◌||◌}
use mathlib.Core.List.{List, [], ◌∷◌, ◌++◌, append_assoc, append-nil}
use Prim.Native.Nat.{ℕ, zero, suc, ◌*◌, ◌/◌, ◌%◌, ◌≤◌, ◌<◌}
use native.Mathlib.Nat.{zero-mod, zero-div, mul-le-mul}
use native.Mathlib.Omega.{arith}
use lib.Dec.{eqb, ltb}
use lib.ListN.{length}
use borrow.Author.Tests.{eqb-true}
use Rattle.lists.specs.Answer.{each, those}
use Rattle.lists.specs.OneOf.{one_of}
use Rattle.lists.specs.Picture.{Picture, at}
use Rattle.lists.proofs.AnswerLaws.{refused-ok, then_ok}
use Rattle.lists.proofs.PictureLaws.{within_in}
use Rattle.lists.proofs.Tests.{by_flag, both, true_false}
use Rattle.model.specs.Limits.{region_count}
use Rattle.model.specs.declared.Rect.{Rect}
use Rattle.canvas.specs.thin_layer.Thin.{thin_of, thin_picture}
use Rattle.frames.specs.regions.Regions.{is_corner, corners_of, add_region, regions_by, regions_of}
use Rattle.walks.specs.Frame.{Frame, Starts, frame_of}
use Rattle.walks.specs.Kinds.{thin, name}
use Rattle.walks.proofs.FrameLaws.{accept, accepted, thin-sound}

-- f takes each of ks to one of ls
abbrev carries : (ℕ → ℕ) → List ℕ → List ℕ → Bool
carries f [] ls = true
carries f (k ∷ ks) ls = one_of (f k) ls && carries f ks ls

carried_step : (f : ℕ → ℕ) (k c : ℕ) (ks ls : List ℕ) (t : Bool) → eqb c k ≡ t → t || one_of c ks ≡ true → one_of (f k) ls ≡ true
    → (one_of c ks ≡ true → one_of (f c) ls ≡ true) → one_of (f c) ls ≡ true
carried_step f k c ks ls true q m h rest = rw (eqb-true c k q) h
carried_step f k c ks ls false q m h rest = rest m

carried : (f : ℕ → ℕ) (ks ls : List ℕ) → carries f ks ls ≡ true → (c : ℕ) → one_of c ks ≡ true → one_of (f c) ls ≡ true
unfolding one_of
carried f [] ls e c m = true_false m refl
carried f (k ∷ ks) ls e c m =
    let b = both (one_of (f k) ls) (carries f ks ls) e in
    carried_step f k c ks ls (eqb c k) refl m b.0 (carried f ks ls b.1 c)

-- the regions behind those so far
more : (p : Picture) (w h : ℕ) (l : List ℕ) (rs out : List Rect) → each (add_region (frame_of thin p w h) w) l rs ≡ Ok out → (s : List Rect) × (out ≡ rs ++ s)
unfolding each
more p w h [] rs out e = ([], let z : rs ≡ out = cc in sym z ∙ sym (append-nil rs))
more p w h (i ∷ l) rs out e =
    let s = then_ok (add_region (frame_of thin p w h) w i rs) (each (add_region (frame_of thin p w h) w) l) out e in
    let f = then_ok (frame_of thin p w h (i % w) (i / w)) (λ r. Ok (rs ++ (r ∷ []))) s.0 s.1 in
    let z : rs ++ (f.0 ∷ []) ≡ s.0 = let q = f.2 in cc in
    let m = more p w h l s.0 out s.2 in
    (f.0 ∷ m.0, m.1 ∙ ap (λ (x : List Rect). x ++ m.0) (sym z) ∙ append_assoc rs (f.0 ∷ []) m.0)

module _ (p : Picture) (w h : ℕ) where
  -- a character of TEXT that is one of ks becomes one of ls
  becomes : (ks ls : List ℕ) → carries thin_of ks ls ≡ true → (x y : ℕ) → x < w → y < h → one_of (p x y) ks ≡ true → one_of (thin_picture w h p x y) ls ≡ true
  becomes ks ls t x y a b e = rw (within_in w h (λ i j. thin_of (p i j)) x y a b) (carried thin_of ks ls t (p x y) e)

  frame_thins : (bx by : ℕ) → Frame name p w h 0 0 bx by → Frame thin (thin_picture w h p) w h 0 0 bx by
  unfolding thin_of one_of
  frame_thins bx by F =
      let c = F.column in
      let r = F.row in
      let a = F.wide in
      let b = F.high in
      record {
        wide = a;
        high = b;
        column = c;
        row = r;
        top_left = becomes name.top_left thin.top_left refl 0 0 (omega arith) (omega arith) F.top_left;
        top_right = becomes name.top_right thin.top_right refl bx 0 c (omega arith) F.top_right;
        bottom_right = becomes name.bottom_right thin.bottom_right refl bx by c r F.bottom_right;
        bottom_left = becomes name.bottom_left thin.bottom_left refl 0 by (omega arith) r F.bottom_left;
        top = λ i u v. becomes name.top thin.top refl i 0 (omega arith) (omega arith) (F.top i u v);
        bottom = λ i u v. becomes name.bottom thin.bottom refl i by (omega arith) r (F.bottom i u v);
        left = λ j u v. becomes name.left thin.left refl 0 j (omega arith) (omega arith) (F.left j u v);
        right = λ j u v. becomes name.right thin.right refl bx j c (omega arith) (F.right j u v);
      }

  module _ (r : Rect) (e : frame_of name p w h 0 0 ≡ Ok r) where
    named : Starts name p w h 0 0 r
    named = accepted name p w h 0 0 r e

    places : 0 < h * w
    places =
        let f = named.frame in
        let a : 1 ≤ h = omega (arith, f.row) in
        let b : 1 ≤ w = omega (arith, f.column) in
        mul-le-mul a b

    pub thin-frame : frame_of thin (thin_picture w h p) w h 0 0 ≡ Ok r
    thin-frame =
        accept thin (thin_picture w h p) w h 0 0 thin-sound named.bx named.by (frame_thins named.bx named.by named.frame)
        ∙ ap Ok (sym named.is)

    -- place 0 is the first corner
    first : (n : ℕ) → n ≡ h * w → (q : Picture) (out : List Rect) → frame_of thin q w h 0 0 ≡ Ok r → is_corner (q 0 0) ≡ true
        → each (add_region (frame_of thin q w h) w) (those (λ i. is_corner (at q w i)) 0 n) [] ≡ Ok out → (rest : List Rect) × (out ≡ r ∷ rest)
    unfolding those each
    first zero z q out f t g = absurd (omega (arith, places))
    first (suc n) z q out f t g =
        let k : is_corner (at q w 0) ≡ true = rw (zero-mod w, zero-div w) t in
        let a : add_region (frame_of thin q w h) w 0 [] ≡ Ok (r ∷ []) = rw (zero-mod w, zero-div w, f) in
        more q w h (those (λ i. is_corner (at q w i)) 1 n) (r ∷ []) out (rw (k, a) at g)

    -- the theorem
    pub name_is_first_region : (out : List Rect) → regions_of (thin_picture w h p) w h ≡ Ok out → (rest : List Rect) × (out ≡ r ∷ rest)
    unfolding regions_by
    name_is_first_region out g =
        let q = thin_picture w h p in
        let F = (accepted thin q w h 0 0 r thin-frame).frame in
        by_flag (ltb region_count (length (corners_of q w h)))
        (λ y. refused-ok (rw y at g))
        (λ z. first (h * w) refl q out thin-frame F.top_left (rw z at g))
