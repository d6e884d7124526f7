-- Every region lies in the canvas.
use Rattle.std.specs.Prelude.{Ok}
use mathlib.Core.Path.{◌≡◌, sym, ap, subst}
use mathlib.Core.List.{List, [], ◌∷◌, ◌++◌}
use Prim.Native.Nat.{ℕ, zero, suc, ◌+◌, ◌/◌, ◌%◌, ◌≤◌, ◌<◌}
use native.Mathlib.Nat.{add-zero}
use native.Mathlib.Omega.{arith}
use lib.Dec.{ltb}
use lib.ListN.{length, length-append}
use borrow.Author.Tests.{ltb-false}
use Rattle.lists.specs.Answer.{each}
use Rattle.lists.specs.Picture.{Picture}
use Rattle.lists.specs.Run.{run}
use Rattle.lists.proofs.AnswerLaws.{refused-ok, then_ok}
use Rattle.lists.proofs.RunLaws.{length_run}
use Rattle.lists.proofs.Tests.{by_flag}
use Rattle.model.specs.Limits.{region_count}
use Rattle.model.specs.declared.Rect.{Rect}
use Rattle.walks.specs.Frame.{Kind, rect_of, frame_of}
use Rattle.walks.specs.Kinds.{thin}
use Rattle.walks.proofs.FrameLaws.{accepted}
use Rattle.cells.specs.rects.Rects.{rect_at, rects_of, RectIn}
use Rattle.frames.specs.regions.Slices.{regions_in}
use Rattle.frames.specs.regions.Regions.{corners_of, add_region, regions_by, regions_of}

-- a frame that walks found lies in the canvas
pub frame_in : (K : Kind) (p : Picture) (w h x y : ℕ) (r : Rect) → frame_of K p w h x y ≡ Ok r → RectIn w h r
frame_in K p w h x y r e =
    let F = accepted K p w h x y r e in
    let f = F.frame in
    let i : RectIn w h (rect_of x y F.bx F.by) =
    record { wide = omega (arith, f.wide); columns = omega (arith, f.column); tall = omega (arith, f.high); rows = omega (arith, f.row) } in
    subst (RectIn w h) (sym F.is) i

abbrev AllIn : ℕ → ℕ → List Rect → Type 0
AllIn w h [] = Unit {0}
AllIn w h (r ∷ rs) = RectIn w h r × AllIn w h rs

one_more : (w h : ℕ) (rs : List Rect) (r : Rect) → AllIn w h rs → RectIn w h r → AllIn w h (rs ++ (r ∷ []))
one_more w h [] r a i = (i, tt)
one_more w h (s ∷ rs) r a i = (a.0, one_more w h rs r a.1 i)

all_added : (p : Picture) (w h : ℕ) (l : List ℕ) (rs out : List Rect) → AllIn w h rs → each (add_region (frame_of thin p w h) w) l rs ≡ Ok out → AllIn w h out
unfolding each
all_added p w h [] rs out a e = let z : rs ≡ out = cc in subst (AllIn w h) z a
all_added p w h (i ∷ l) rs out a e =
    let s = then_ok (add_region (frame_of thin p w h) w i rs) (each (add_region (frame_of thin p w h) w) l) out e in
    let f = then_ok (frame_of thin p w h (i % w) (i / w)) (λ r. Ok (rs ++ (r ∷ []))) s.0 s.1 in
    let z : rs ++ (f.0 ∷ []) ≡ s.0 = let q = f.2 in cc in
    all_added p w h l s.0 out (subst (AllIn w h) z (one_more w h rs f.0 a (frame_in thin p w h (i % w) (i / w) f.0 f.1))) s.2

at_place : (w h : ℕ) (f : ℕ → Rect) (k n : ℕ) → AllIn w h (run f k n) → (i : ℕ) → i < n → RectIn w h (f (k + i))
unfolding run
at_place w h f k zero a i l = absurd (omega arith)
at_place w h f k (suc n) a zero l = rw (add-zero k) a.0
at_place w h f k (suc n) a (suc i) l =
    let z : k + suc i ≡ suc k + i = omega arith in
    rw z (at_place w h f (suc k) n a.1 i (omega arith))

-- a region for each corner
all-counted : (p : Picture) (w h : ℕ) (l : List ℕ) (rs out : List Rect) → each (add_region (frame_of thin p w h) w) l rs ≡ Ok out → length out ≡ length rs + length l
unfolding each
all-counted p w h [] rs out e = let z : rs ≡ out = cc in omega (arith, ap length z)
all-counted p w h (i ∷ l) rs out e =
    let s = then_ok (add_region (frame_of thin p w h) w i rs) (each (add_region (frame_of thin p w h) w) l) out e in
    let f = then_ok (frame_of thin p w h (i % w) (i / w)) (λ r. Ok (rs ++ (r ∷ []))) s.0 s.1 in
    let z : rs ++ (f.0 ∷ []) ≡ s.0 = let q = f.2 in cc in
    omega (arith, all-counted p w h l s.0 out s.2, ap length z, length-append rs (f.0 ∷ []))

-- the rects that an answer's slice holds
module _ (p : Picture) (w h n : ℕ) (d : List ℕ) (e : regions_in (Ok n) d ≡ regions_of p w h) where
  read : (length (corners_of p w h) ≤ region_count) × (each (add_region (frame_of thin p w h) w) (corners_of p w h) [] ≡ Ok (rects_of d n))
  unfolding regions_by
  read =
      by_flag (ltb region_count (length (corners_of p w h)))
      (λ y. refused-ok (rw y at (sym e)))
      (λ z. (ltb-false region_count (length (corners_of p w h)) z, rw z at (sym e)))

  pub regions-inside : (k : ℕ) → k < n → RectIn w h (rect_at d k)
  regions-inside k l =
      let z : 0 + k ≡ k = omega arith in
      rw z at (at_place w h (rect_at d) 0 n (all_added p w h (corners_of p w h) [] (rects_of d n) tt read.1) k l)

  pub regions-few : n ≤ region_count
  regions-few = omega (arith, read.0, all-counted p w h (corners_of p w h) [] (rects_of d n) read.1, length_run (rect_at d) 0 n)
