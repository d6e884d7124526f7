-- A row filled cell by cell, and a plane row by row.
use mathlib.Core.Path.{◌≡◌, refl, sym, ◌∙◌, subst}
use mathlib.Core.List.{List, [], ◌∷◌, ◌++◌}
use Prim.Native.Nat.{ℕ, ◌+◌, ◌≤◌}
use native.Mathlib.Omega.{arith}
use lib.ListN.{length}
use Rattle.lists.specs.Run.{run, build}
use Rattle.lists.proofs.RunLaws.{build-next}
use Rattle.model.specs.Limits.{plane_size}
use Rattle.model.specs.declared.Cell.{Cell}
use Rattle.cells.specs.Plane.{cells_in, plane_in, PlaneFits, KeptBefore}
use Rattle.cells.proofs.PlaneLaws.{kept_refl, kept_then, kept-plane}

-- the slice d', which was d, has g 0, .., g (n - 1) as the first cells of a row
pub record RowFilled (g : ℕ → Cell) (d d' : List ℕ) (row n : ℕ) : Type 0 where
  pub same : length d' ≡ length d
  pub cells : cells_in d' row n ≡ build n g
  pub before : KeptBefore d d' row

module _ (g : ℕ → Cell) (d : List ℕ) (row : ℕ) where
  pub row-start : RowFilled g d d row 0
  unfolding cells_in run
  row-start = record { same = refl; cells = refl; before = kept_refl d row }

  pub row_next : (d' d'' : List ℕ) (i : ℕ) (c : Cell) → RowFilled g d d' row i → c ≡ g i → length d'' ≡ length d'
      → cells_in d'' row (i + 1) ≡ cells_in d' row i ++ (c ∷ []) → KeptBefore d' d'' row → RowFilled g d d'' row (i + 1)
  row_next d' d'' i c f e l q k =
      record {
        same = l ∙ f.same;
        cells = q ∙ rw (f.cells, e) (sym (build-next i g));
        before = kept_then d d' d'' row f.before k;
      }

  pub row_end : (d' : List ℕ) (n i : ℕ) → RowFilled g d d' row i → i ≤ n → n ≤ i → RowFilled g d d' row n
  row_end d' n i f h k = let e : i ≡ n = omega arith in subst (λ (m : ℕ). RowFilled g d d' row m) e f

-- the slice d', which was d, has g 0, .., g (n - 1) as its rows
pub record PlaneFilled (g : ℕ → List Cell) (d d' : List ℕ) (n : ℕ) : Type 0 where
  pub same : length d' ≡ length d
  pub plane : plane_in d' n ≡ build n g
  pub fits : PlaneFits d' n

module _ (g : ℕ → List Cell) (d : List ℕ) where
  pub plane-start : plane_size ≤ length d → PlaneFilled g d d 0
  unfolding plane_in run
  plane-start h = record { same = refl; plane = refl; fits = record { room = h; rows = omega arith; cells = λ row l. absurd (omega arith) } }

  -- row n is filled in b, which was a, and ended in c
  pub plane-next : (a b c : List ℕ) (n m : ℕ) → PlaneFilled g d a n → length b ≡ length a → KeptBefore a b n → cells_in b n m ≡ g n
      → length c ≡ length b → plane_in c (n + 1) ≡ plane_in b n ++ (cells_in b n m ∷ []) → PlaneFits c (n + 1) → PlaneFilled g d c (n + 1)
  plane-next a b c n m f u k e v q h =
      record {
        same = v ∙ u ∙ f.same;
        plane = q ∙ rw (kept-plane a b n k f.fits.rows f.fits.cells, f.plane, e) (sym (build-next n g));
        fits = h;
      }

  pub plane_end : (c : List ℕ) (n i : ℕ) → PlaneFilled g d c i → i ≤ n → n ≤ i → PlaneFilled g d c n
  plane_end c n i f h k = let e : i ≡ n = omega arith in subst (λ (m : ℕ). PlaneFilled g d c m) e f
