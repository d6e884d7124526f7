-- Laws of where a walk leaves the cursor.
use Rattle.std.specs.Prelude.{Ok, Err, ℕ}
use mathlib.Core.Path.{◌≡◌, refl, sym, ap, ◌∙◌, subst}
use Prim.Native.Nat.{ℕ, ◌<◌, ◌^◌}
use native.Mathlib.Omega.{arith}
use Rattle.lists.specs.Picture.{Picture}
use Rattle.model.specs.Refusals.{Reading}
use Rattle.model.specs.declared.Point.{Point}
use Rattle.walks.specs.Frame.{Place}
use Rattle.walks.specs.declared.Direction.{Direction}
use Rattle.walks.specs.declared.Direction.TheVariants.{Right, Down, Left, Up}
use Rattle.walks.proofs.WalkLaws.{found_bound}
use Rattle.walks.specs.cursors.Cursor.{place_after, Onward}
use Rattle.walks.specs.along.Characters.{along_of}
use Rattle.walks.specs.declared.along.Lines.{Lines}

-- a walk keeps to the picture
pub kept : (lines : Lines) (d : Direction) (p : Picture) (w h : ℕ) (at : Point) → Place w h at.x at.y → (m : Reading ℕ) → along_of lines d p w h at.x at.y ≡ m → Place w h (place_after d at m).x (place_after d at m).y
kept lines Right p w h at i (Ok k) e = record { column = omega (arith, found_bound _ _ _ _ _ e, i.column); row = i.row }
kept lines Down p w h at i (Ok k) e = record { column = i.column; row = omega (arith, found_bound _ _ _ _ _ e, i.row) }
kept lines Left p w h at i (Ok k) e = record { column = omega (arith, i.column); row = i.row }
kept lines Up p w h at i (Ok k) e = record { column = i.column; row = omega (arith, i.row) }
kept lines d p w h at i (Err r) e = i

-- the place that it comes to is of numbers of 64 bits
pub fits : (lines : Lines) (d : Direction) (p : Picture) (w h x y : ℕ) → Place w h x y → w < 2 ^ 64 → h < 2 ^ 64 → (k : ℕ) → Ok k ≡ along_of lines d p w h x y → Onward d x y k
fits lines Right p w h x y i a b k e = omega (arith, found_bound _ _ _ _ _ (sym e), i.column)
fits lines Down p w h x y i a b k e = omega (arith, found_bound _ _ _ _ _ (sym e), i.row)
fits lines Left p w h x y i a b k e = (found_bound _ _ _ _ _ (sym e)).1
fits lines Up p w h x y i a b k e = (found_bound _ _ _ _ _ (sym e)).1

-- the walks of one cursor over a picture
module _ (lines : Lines) (p : Picture) (w h : ℕ) where
  abbrev go : Direction → Point → Reading ℕ
  go d at = along_of lines d p w h at.x at.y

  -- a walk from a place moved the cursor to b, and ended so
  abbrev pub Moves : Direction → Point → Point → Reading ℕ → Type 0
  Moves d at b n = (b ≡ place_after d at (go d at)) × (n ≡ go d at)

  pub came : (d : Direction) (at b : Point) (n : Reading ℕ) → Moves d at b n → b ≡ place_after d at n
  came d at b n m = m.0 ∙ ap (place_after d at) (sym m.1)

  pub stays : (d : Direction) (at b : Point) (n : Reading ℕ) → Moves d at b n → Place w h at.x at.y → Place w h b.x b.y
  stays d at b n m i = subst (λ (z : Point). Place w h z.x z.y) (sym m.0) (kept lines d p w h at i (go d at) refl)
