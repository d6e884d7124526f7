-- The ways of a pivot, and all rows but the last.
use Rattle.std.specs.Prelude.{Ok, Err}
use mathlib.Core.Path.{◌≡◌, refl, sym, ap, ◌∙◌}
use mathlib.Core.Bool.{true, false}
use mathlib.Core.List.{List, ◌∷◌, map}
use Prim.Native.Nat.{ℕ, zero, suc, ◌-◌, ◌<◌}
use native.Mathlib.Omega.{arith}
use borrow.Author.Tests.{lt-ltb}
use lib.ListN.{length, get_or, drop}
use Rattle.lists.specs.Run.{run, build}
use Rattle.lists.specs.Transpose.{width}
use Rattle.model.specs.Cells.{turned_cell}
use Rattle.model.specs.Refusals.{Reading}
use Rattle.model.specs.declared.Orientation.{Orientation}
use Rattle.model.specs.declared.Orientation.TheVariants.{RulesAsRows, RulesAsColumns}
use Rattle.model.specs.declared.Refusal.TheVariants.{PlaneMalformed}
use Rattle.cells.specs.Plane.{Plane, cell_at, row_in, plane_in}
use Rattle.cells.proofs.PlaneLaws.{length-plane}
use Rattle.cells.specs.turning.Upright.{but_last, wide, pivot_of, upright_of}
use Rattle.cells.proofs.turning.UprightLaws.{plane-width, columns-turned}

but_run : {A : Type 0} (f : ℕ → A) (k n : ℕ) → but_last (run f k (suc n)) ≡ run f k n
unfolding but_last run
but_run f k zero = refl
but_run f k (suc n) = ap (λ l. f k ∷ l) (but_run f (suc k) n)

pub but_plane : (d : List ℕ) (n : ℕ) → 0 < n → but_last (plane_in d n) ≡ plane_in d (n - 1)
unfolding plane_in
but_plane d zero h = absurd (omega arith)
but_plane d (suc n) h = let e : suc n - 1 ≡ n = omega arith in but_run (row_in d) 0 n ∙ ap (λ (k : ℕ). build k (row_in d)) (sym e)

pub pivot_none : (d : List ℕ) (n : ℕ) → n ≡ 0 → Err PlaneMalformed ≡ pivot_of (plane_in d n)
unfolding pivot_of
pivot_none d n e = let z : length (plane_in d n) ≡ 0 = length-plane d n ∙ e in rw z

-- its first row has w cells
module _ (d : List ℕ) (n w : ℕ) (h : 0 < n) (e : w ≡ get_or d 0 0) where
  first-wide : width (plane_in d n) ≡ w
  first-wide = plane-width d n h ∙ sym e

  pub pivot_narrow : wide w (plane_in d n) ≡ false → Err PlaneMalformed ≡ pivot_of (plane_in d n)
  unfolding pivot_of
  pivot_narrow f = rw (length-plane d n, lt-ltb 0 n h, first-wide, f)

  pub pivot_wide : (P : Plane) → wide w (plane_in d n) ≡ true → P ≡ build w (λ j. build n (λ i. turned_cell (cell_at d i j))) → Ok P ≡ pivot_of (plane_in d n)
  unfolding pivot_of
  pivot_wide P t q =
      let z = q ∙ columns-turned d n w t first-wide in
      rw (z, length-plane d n, lt-ltb 0 n h, first-wide, t)

module _ (o : Orientation) (d : List ℕ) (n : ℕ) where
  pub row-sheet : (P : Plane) → o ≡ RulesAsRows → P ≡ map (drop 1) (plane_in d n) → Ok P ≡ upright_of o (plane_in d n)
  unfolding upright_of
  row-sheet P e q = rw (e, q)

  pub column-sheet : (m : Reading Plane) → o ≡ RulesAsColumns → 0 < n → m ≡ pivot_of (plane_in d (n - 1)) → m ≡ upright_of o (plane_in d n)
  unfolding upright_of
  column-sheet m e h q = q ∙ rw (e, but_plane d n h)
