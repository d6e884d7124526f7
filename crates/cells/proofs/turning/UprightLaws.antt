-- A row without its first cell, rows that are wide, and a plane turned, by places.
use mathlib.Core.Path.{◌≡◌, refl, sym, ap, ◌∙◌, subst}
use mathlib.Core.Bool.{Bool, true, false, ◌&&◌}
use mathlib.Core.List.{List, map}
use Prim.Native.Nat.{ℕ, zero, suc, ◌+◌, ◌-◌, ◌≤◌, ◌<◌}
use native.Mathlib.Numerals.{add-one}
use native.Mathlib.Omega.{arith}
use borrow.Author.Tests.{le-leb, lt-leb, leb-true}
use lib.Dec.{leb}
use lib.ListN.{get_or, drop}
use Rattle.lists.specs.Run.{run, build}
use Rattle.lists.specs.Transpose.{width, column, transpose}
use Rattle.lists.proofs.RunLaws.{run_shift, build-same, get_or-build, map-run}
use Rattle.lists.proofs.Tests.{both}
use Rattle.lists.proofs.TransposeLaws.{width-build}
use Rattle.model.specs.Cells.{turned_cell}
use Rattle.model.specs.declared.Cell.TheVariants.{MainDoubleCrossing}
use Rattle.cells.specs.Plane.{cell_at, cells_in, row_in, plane_in}
use Rattle.cells.proofs.PlaneLaws.{length-cells}
use Rattle.cells.specs.turning.Upright.{wide, turned}

-- a built list without its first element
pub rest-build : {A : Type 0} (n : ℕ) (f : ℕ → A) → drop 1 (build n f) ≡ build (n - 1) (λ i. f (i + 1))
unfolding run
rest-build zero f = refl
rest-build (suc n) f = let e : suc n - 1 ≡ n = omega arith in rw e (run_shift f 0 n ∙ build-same n (λ i. f (suc i)) (λ i. f (i + 1)) (λ i h. let z : suc i ≡ i + 1 = omega arith in ap f z))

pub drop-row : (d : List ℕ) (row : ℕ) → drop 1 (row_in d row) ≡ build (get_or d row 0 - 1) (λ i. cell_at d row (i + 1))
unfolding cells_in
drop-row d row = rest-build (get_or d row 0) (cell_at d row)

pub dropped : (d : List ℕ) (n : ℕ) → map (drop 1) (plane_in d n) ≡ build n (λ row. drop 1 (row_in d row))
unfolding plane_in
dropped d n = map-run (drop 1) (row_in d) 0 n

-- rows from the k-th on are wide
module _ (w : ℕ) (d : List ℕ) where
  abbrev pub wide_from : ℕ → ℕ → Bool
  wide_from k n = wide w (run (row_in d) k n)

  pub wide-start : (n : ℕ) → wide_from 0 (n - 0) ≡ wide w (plane_in d n)
  unfolding plane_in
  wide-start n = let e : n - 0 ≡ n = omega arith in rw e

  wide_suc : (k m : ℕ) → wide_from k (suc m) ≡ (leb w (get_or d k 0) && wide_from (suc k) m)
  unfolding wide run
  wide_suc k m = rw (length-cells d k (get_or d k 0))

  wide_at : (k n : ℕ) → k < n → wide_from k (n - k) ≡ (leb w (get_or d k 0) && wide_from (k + 1) (n - (k + 1)))
  wide_at k n h =
      let e : n - k ≡ suc (n - (k + 1)) = omega arith in
      rw e (wide_suc k (n - (k + 1)) ∙ ap (λ (i : ℕ). leb w (get_or d k 0) && wide_from i (n - (k + 1))) (sym (add-one k)))

  pub narrow : (k n : ℕ) → k < n → get_or d k 0 < w → false ≡ wide_from k (n - k)
  narrow k n h l = sym (wide_at k n h ∙ rw (lt-leb w (get_or d k 0) l))

  pub wide-next : (k n : ℕ) → k < n → w ≤ get_or d k 0 → wide_from (k + 1) (n - (k + 1)) ≡ wide_from k (n - k)
  wide-next k n h l = sym (wide_at k n h ∙ rw (le-leb w (get_or d k 0) l))

  pub wide_end : (k n : ℕ) → n ≤ k → true ≡ wide_from k (n - k)
  unfolding wide run
  wide_end k n h = let e : n - k ≡ 0 = omega arith in rw e

  -- a row of a wide plane
  wide_row : (k n i : ℕ) → wide_from k n ≡ true → i < n → w ≤ get_or d (k + i) 0
  wide_row k zero i e h = absurd (omega arith)
  wide_row k (suc n) zero e h =
      let z : k + 0 ≡ k = omega arith in
      rw z (leb-true w (get_or d k 0) (both (leb w (get_or d k 0)) (wide_from (suc k) n) (sym (wide_suc k n) ∙ e)).0)
  wide_row k (suc n) (suc i) e h =
      let z : k + suc i ≡ suc k + i = omega arith in
      rw z (wide_row (suc k) n i (both (leb w (get_or d k 0)) (wide_from (suc k) n) (sym (wide_suc k n) ∙ e)).1 (omega arith))

  pub wide_at_row : (n i : ℕ) → wide w (plane_in d n) ≡ true → i < n → w ≤ get_or d i 0
  unfolding plane_in
  wide_at_row n i e h = let z : 0 + i ≡ i = omega arith in subst (λ (k : ℕ). w ≤ get_or d k 0) z (wide_row 0 n i e h)

pub plane-width : (d : List ℕ) (n : ℕ) → 0 < n → width (plane_in d n) ≡ get_or d 0 0
unfolding plane_in
plane-width d n h = width-build n (row_in d) h ∙ length-cells d 0 (get_or d 0 0)

-- the columns of a wide plane
module _ (d : List ℕ) (n w : ℕ) (e : wide w (plane_in d n) ≡ true) where
  turned-at : (i j : ℕ) → i < n → j < w → turned_cell (cell_at d i j) ≡ turned_cell (get_or (row_in d i) j MainDoubleCrossing)
  unfolding cells_in
  turned-at i j h k = ap turned_cell (sym (get_or-build (get_or d i 0) (cell_at d i) j MainDoubleCrossing (omega (arith, wide_at_row w d n i e h))))

  column_built : (j : ℕ) → j < w → build n (λ i. turned_cell (cell_at d i j)) ≡ column turned_cell MainDoubleCrossing (plane_in d n) j
  unfolding plane_in column
  column_built j k =
      build-same n (λ i. turned_cell (cell_at d i j)) (λ i. turned_cell (get_or (row_in d i) j MainDoubleCrossing)) (λ i h. turned-at i j h k)
      ∙ sym (map-run (λ r. turned_cell (get_or r j MainDoubleCrossing)) (row_in d) 0 n)

  pub columns-turned : width (plane_in d n) ≡ w → build w (λ j. build n (λ i. turned_cell (cell_at d i j))) ≡ turned (plane_in d n)
  unfolding transpose
  columns-turned q =
      build-same w (λ j. build n (λ i. turned_cell (cell_at d i j))) (column turned_cell MainDoubleCrossing (plane_in d n)) (λ j k. column_built j k)
      ∙ ap (λ (m : ℕ). build m (column turned_cell MainDoubleCrossing (plane_in d n))) (sym q)
