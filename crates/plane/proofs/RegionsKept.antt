-- The regions of an upright sheet are among those of its plane.
use mathlib.Core.Path.{◌≡◌, refl, sym, ap, ◌∙◌}
use mathlib.Core.List.{List, [], ◌∷◌, map}
use Prim.Native.Nat.{ℕ, zero, suc, ◌+◌, ◌≤◌, ◌<◌}
use native.Mathlib.Omega.{arith}
use borrow.Author.Tests.{ltb-true, ltb-false}
use lib.Dec.{ltb}
use lib.ListN.{length, get_or, drop, length-map}
use lib.Seq.{get_or-drop}
use Rattle.lists.specs.Transpose.{width, column, transpose}
use Rattle.lists.proofs.RunLaws.{get_or-build, get_or_run_out, get_d_map}
use Rattle.lists.proofs.Tests.{by_flag}
use Rattle.lists.proofs.TransposeLaws.{transpose-at}
use Rattle.model.specs.Cells.{turned_cell}
use Rattle.model.specs.declared.Cell.{Cell}
use Rattle.model.specs.declared.Cell.TheVariants.{Region, VerticalOutputDoubleLine, VerticalAnnotationDoubleLine, HorizontalOutputDoubleLine, HorizontalAnnotationsDoubleLine, MainDoubleCrossing, HorizontalDoubleCrossing, VerticalDoubleCrossing}
use Rattle.cells.specs.Plane.{Plane, cell_at, cells_in, row_in, plane_in}
use Rattle.cells.specs.turning.Upright.{but_last, turned}

-- the cell in a row and a column; a crossing where there is none
abbrev pub cell_on : Plane → ℕ → ℕ → Cell
cell_on P row i = get_or (get_or P row []) i MainDoubleCrossing

-- every region's number is below `count`
abbrev pub RegionsBelow : ℕ → Plane → Type 0
RegionsBelow count P = (row i r : ℕ) → cell_on P row i ≡ Region r → r < count

-- below a number, or not
by_place : {A : Type 0} (i n : ℕ) → (i < n → A) → (n ≤ i → A) → A
by_place i n f g = by_flag (ltb i n) (λ y. f (ltb-true i n y)) (λ z. g (ltb-false i n z))

no_region_lem : {A : Type 0} {r : ℕ} → MainDoubleCrossing ≡ Region r → A
no_region_lem e = let z : ◌≡◌ {A = ℕ} 0 1 = cc in absurd (omega arith)

past : {A : Type 0} (l : List A) (i : ℕ) (d : A) → length l ≤ i → get_or l i d ≡ d
past [] i d h = refl
past (a ∷ l) zero d h = absurd (omega arith)
past (a ∷ l) (suc i) d h = past l i d (omega arith)

-- a plane in a slice
module _ (d : List ℕ) (n : ℕ) where
  on_row : (row i : ℕ) → row < n → cell_on (plane_in d n) row i ≡ get_or (row_in d row) i MainDoubleCrossing
  unfolding plane_in
  on_row row i h = ap (λ (l : List Cell). get_or l i MainDoubleCrossing) (get_or-build n (row_in d) row [] h)

  on_cell : (row i : ℕ) → row < n → i < get_or d row 0 → cell_on (plane_in d n) row i ≡ cell_at d row i
  unfolding cells_in
  on_cell row i h k = on_row row i h ∙ get_or-build (get_or d row 0) (cell_at d row) i MainDoubleCrossing k

  off_row : (row i : ℕ) → n ≤ row → cell_on (plane_in d n) row i ≡ MainDoubleCrossing
  unfolding plane_in
  off_row row i h = ap (λ (l : List Cell). get_or l i MainDoubleCrossing) (get_or_run_out (row_in d) 0 n row [] h)

  off_cell : (row i : ℕ) → row < n → get_or d row 0 ≤ i → cell_on (plane_in d n) row i ≡ MainDoubleCrossing
  unfolding cells_in
  off_cell row i h k = on_row row i h ∙ get_or_run_out (cell_at d row) 0 (get_or d row 0) i MainDoubleCrossing k

  pub slice_below : (count : ℕ) → ((row i r : ℕ) → row < n → i < get_or d row 0 → cell_at d row i ≡ Region r → r < count) → RegionsBelow count (plane_in d n)
  slice_below count f row i r e =
      by_place row n
      (λ h. by_place i (get_or d row 0) (λ k. f row i r h k (sym (on_cell row i h k) ∙ e)) (λ k. no_region_lem (sym (off_cell row i h k) ∙ e)))
      (λ h. no_region_lem (sym (off_row row i h) ∙ e))

  pub below_slice : (count : ℕ) → RegionsBelow count (plane_in d n) → (row i r : ℕ) → row < n → i < get_or d row 0 → cell_at d row i ≡ Region r → r < count
  below_slice count f row i r h k e = f row i r (on_cell row i h k ∙ e)

turned-region : (c : Cell) (r : ℕ) → turned_cell c ≡ Region r → c ≡ Region r
turned-region (Region q) r e = e
turned-region VerticalOutputDoubleLine r e = let z : ◌≡◌ {A = ℕ} 0 1 = cc in absurd (omega arith)
turned-region VerticalAnnotationDoubleLine r e = let z : ◌≡◌ {A = ℕ} 0 1 = cc in absurd (omega arith)
turned-region HorizontalOutputDoubleLine r e = let z : ◌≡◌ {A = ℕ} 0 1 = cc in absurd (omega arith)
turned-region HorizontalAnnotationsDoubleLine r e = let z : ◌≡◌ {A = ℕ} 0 1 = cc in absurd (omega arith)
turned-region MainDoubleCrossing r e = no_region_lem e
turned-region HorizontalDoubleCrossing r e = let z : ◌≡◌ {A = ℕ} 0 1 = cc in absurd (omega arith)
turned-region VerticalDoubleCrossing r e = let z : ◌≡◌ {A = ℕ} 0 1 = cc in absurd (omega arith)

module _ (count : ℕ) (P : Plane) (f : RegionsBelow count P) where
  -- without the first column
  pub rest_below : RegionsBelow count (map (drop 1) P)
  rest_below row i r e =
      by_place row (length P)
      (λ h. f row (1 + i) r (sym (ap (λ (l : List Cell). get_or l i MainDoubleCrossing) (get_d_map (drop 1) P row [] [] h) ∙ get_or-drop 1 (get_or P row []) i MainDoubleCrossing) ∙ e))
      (λ h. no_region_lem (sym (ap (λ (l : List Cell). get_or l i MainDoubleCrossing) (past (map (drop 1) P) row [] (omega (arith, length-map P (drop 1))))) ∙ e))

  -- turned
  pub turned_below : RegionsBelow count (turned P)
  unfolding transpose column
  turned_below row i r e =
      by_place row (width P)
      (λ h. by_place i (length P)
      (λ k. f i row r (turned-region (cell_on P i row) r (sym (transpose-at turned_cell MainDoubleCrossing P i row MainDoubleCrossing k h) ∙ e)))
      (λ k. no_region_lem (sym (short h k) ∙ e)))
      (λ h. no_region_lem (sym (ap (λ (l : List Cell). get_or l i MainDoubleCrossing) (get_or_run_out (column turned_cell MainDoubleCrossing P) 0 (width P) row [] h)) ∙ e))
    where
      short : row < width P → length P ≤ i → cell_on (turned P) row i ≡ MainDoubleCrossing
      short h k =
          ap (λ (l : List Cell). get_or l i MainDoubleCrossing) (get_or-build (width P) (column turned_cell MainDoubleCrossing P) row [] h)
          ∙ past (map (λ l. turned_cell (get_or l row MainDoubleCrossing)) P) i MainDoubleCrossing (omega (arith, length-map P (λ l. turned_cell (get_or l row MainDoubleCrossing))))

-- all rows but the last
but_at : (P : Plane) (row i : ℕ) (r : ℕ) → cell_on (but_last P) row i ≡ Region r → cell_on P row i ≡ Region r
unfolding but_last
but_at [] row i r e = e
but_at (l ∷ []) row i r e = no_region_lem e
but_at (l ∷ m ∷ P) zero i r e = e
but_at (l ∷ m ∷ P) (suc row) i r e = but_at (m ∷ P) row i r e

pub but_below : (count : ℕ) (P : Plane) → RegionsBelow count P → RegionsBelow count (but_last P)
but_below count P f row i r e = f row i r (but_at P row i r e)
