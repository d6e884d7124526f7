-- A cell more in a row, a row more in a plane, and what a slice keeps.
use mathlib.Core.Path.{◌≡◌, refl, sym, ap, ◌∙◌}
use mathlib.Core.List.{List, [], ◌∷◌, ◌++◌}
use mathlib.Core.Logic.{⊎_elim}
use Prim.Native.Nat.{ℕ, ◌+◌, ◌≤◌, ◌<◌}
use native.Mathlib.Nat.{eq-or-lt_of_le}
use native.Mathlib.Omega.{arith}
use lib.ListN.{length, get_or, set, length-set}
use lib.Seq.{get_or-set_same, get_or-set_other}
use Rattle.lists.specs.Run.{build}
use Rattle.lists.proofs.RunLaws.{build-next, build-same, get_or-build, length_run}
use Rattle.model.specs.Cells.{cell_of, cell_number}
use Rattle.model.specs.Limits.{plane_rows, plane_cells, plane_size}
use Rattle.model.specs.declared.Cell.{Cell}
use Rattle.model.specs.declared.Cell.TheVariants.{MainDoubleCrossing}
use Rattle.model.proofs.CellLaws.{cell_number_lem}
use Rattle.cells.specs.Plane.{place_at, cell_at, cells_in, row_in, plane_in, PlaneFits, KeptBefore}

pub length-cells : (d : List ℕ) (row n : ℕ) → length (cells_in d row n) ≡ n
unfolding cells_in
length-cells d row n = length_run (cell_at d row) 0 n

pub length-plane : (d : List ℕ) (n : ℕ) → length (plane_in d n) ≡ n
unfolding plane_in
length-plane d n = length_run (row_in d) 0 n

-- one cell more at a row's end
pub cells-next : (d : List ℕ) (row n : ℕ) → cells_in d row (n + 1) ≡ cells_in d row n ++ (cell_at d row n ∷ [])
unfolding cells_in
cells-next d row n = build-next n (cell_at d row)

-- one row more at a plane's end
pub plane-next : (d : List ℕ) (n : ℕ) → plane_in d (n + 1) ≡ plane_in d n ++ (row_in d n ∷ [])
unfolding plane_in
plane-next d n = build-next n (row_in d)

-- what reads the same cells and lengths is the same
pub cells_same : (d d' : List ℕ) (row n : ℕ) → ((i : ℕ) → i < n → get_or d' (place_at row i) 0 ≡ get_or d (place_at row i) 0) → cells_in d' row n ≡ cells_in d row n
unfolding cells_in
cells_same d d' row n h = build-same n (cell_at d' row) (cell_at d row) (λ i l. ap cell_of (h i l))

pub plane-same : (d d' : List ℕ) (n : ℕ) → ((row : ℕ) → row < n → row_in d' row ≡ row_in d row) → plane_in d' n ≡ plane_in d n
unfolding plane_in
plane-same d d' n h = build-same n (row_in d') (row_in d) h

-- a row, and a cell, of a plane that is known by places
pub plane-row : (d : List ℕ) (n : ℕ) (g : ℕ → List Cell) → plane_in d n ≡ build n g → (row : ℕ) → row < n → row_in d row ≡ g row
unfolding plane_in
plane-row d n g e row h = sym (get_or-build n (row_in d) row [] h) ∙ ap (λ (l : List (List Cell)). get_or l row []) e ∙ get_or-build n g row [] h

pub row-length : (d : List ℕ) (row m : ℕ) (f : ℕ → Cell) → row_in d row ≡ build m f → get_or d row 0 ≡ m
row-length d row m f e = sym (length-cells d row (get_or d row 0)) ∙ ap length e ∙ length_run f 0 m

pub row_cell : (d : List ℕ) (row m : ℕ) (f : ℕ → Cell) → row_in d row ≡ build m f → (i : ℕ) → i < m → cell_at d row i ≡ f i
unfolding cells_in
row_cell d row m f e i h =
    let l : get_or d row 0 ≡ m = row-length d row m f e in
    sym (get_or-build (get_or d row 0) (cell_at d row) i MainDoubleCrossing (omega arith)) ∙ ap (λ (l : List Cell). get_or l i MainDoubleCrossing) e
    ∙ get_or-build m f i MainDoubleCrossing h

module _ (d : List ℕ) (row i v : ℕ) where
  abbrev stored : List ℕ
  stored = set d (place_at row i) v

  pub stored_cell : (c : Cell) → v ≡ cell_number c → row < plane_rows → i < plane_cells → plane_size ≤ length d
      → cells_in stored row (i + 1) ≡ cells_in d row i ++ (c ∷ [])
  stored_cell c q r l h =
      let n : get_or stored (place_at row i) 0 ≡ v = get_or-set_same d (place_at row i) v 0 (omega arith) in
      let e : cell_at stored row i ≡ c = ap cell_of (n ∙ q) ∙ cell_number_lem c in
      let s : cells_in stored row i ≡ cells_in d row i = cells_same d stored row i (λ j k. get_or-set_other d (place_at row i) (place_at row j) v 0 (λ z. absurd (omega arith))) in
      cells-next stored row i ∙ rw (e, s)

  pub stored_before : KeptBefore d stored row
  stored_before = record { same = λ j l. get_or-set_other d (place_at row i) j v 0 (λ z. absurd (omega arith)) }

-- what is kept before a row is kept of the rows above it
module _ (d d' : List ℕ) (row : ℕ) (k : KeptBefore d d' row) where
  pub kept-plane : row ≤ plane_rows → ((j : ℕ) → j < row → get_or d j 0 ≤ plane_cells) → plane_in d' row ≡ plane_in d row
  kept-plane h f =
      plane-same d d' row (λ j l.
      let e : get_or d' j 0 ≡ get_or d j 0 = k.same j (omega arith) in
      rw e (cells_same d d' j (get_or d j 0) (λ i m. k.same (place_at j i) (omega (arith, f j l)))))

  pub kept-fits : length d' ≡ length d → PlaneFits d row → PlaneFits d' row
  kept-fits e p =
      record {
        room = rw e p.room;
        rows = p.rows;
        cells = λ j l. let z : get_or d' j 0 ≡ get_or d j 0 = k.same j (omega (arith, p.rows)) in rw z (p.cells j l);
      }

-- the first rows of a plane are a plane
pub fewer_rows : (d : List ℕ) (m n : ℕ) → m ≤ n → PlaneFits d n → PlaneFits d m
fewer_rows d m n h p = record { room = p.room; rows = omega (arith, p.rows); cells = λ row l. p.cells row (omega arith) }

pub kept_refl : (d : List ℕ) (row : ℕ) → KeptBefore d d row
kept_refl d row = record { same = λ j l. refl }

pub kept_then : (d d' d'' : List ℕ) (row : ℕ) → KeptBefore d d' row → KeptBefore d' d'' row → KeptBefore d d'' row
kept_then d d' d'' row a b = record { same = λ j l. b.same j l ∙ a.same j l }

-- row `row` gets its length
module _ (d : List ℕ) (row n : ℕ) (p : PlaneFits d row) (r : row < plane_rows) (h : n ≤ plane_cells) where
  abbrev ended : List ℕ
  ended = set d row n

  beside : (j : ℕ) → (j ≡ row → ⊥) → get_or ended j 0 ≡ get_or d j 0
  beside j f = get_or-set_other d row j n 0 f

  pub ended-rows : plane_in ended (row + 1) ≡ plane_in d row ++ (cells_in d row n ∷ [])
  ended-rows =
      let e : get_or ended row 0 ≡ n = get_or-set_same d row n 0 (omega (arith, p.room)) in
      let a : row_in ended row ≡ cells_in d row n = rw e (cells_same d ended row n (λ i l. beside (place_at row i) (λ z. absurd (omega arith)))) in
      let b : plane_in ended row ≡ plane_in d row =
      plane-same d ended row (λ j l.
      let z : get_or ended j 0 ≡ get_or d j 0 = beside j (λ y. absurd (omega arith)) in
      rw z (cells_same d ended j (get_or d j 0) (λ i m. beside (place_at j i) (λ y. absurd (omega arith))))) in
      plane-next ended row ∙ rw (a, b)

  ended-length : (j : ℕ) → j ≤ row → get_or ended j 0 ≤ plane_cells
  ended-length j l =
      ⊎_elim
      (λ e. let z : get_or ended j 0 ≡ n = rw e (get_or-set_same d row n 0 (omega (arith, p.room))) in rw z h)
      (λ k. let z : get_or ended j 0 ≡ get_or d j 0 = beside j (λ y. absurd (omega arith)) in rw z (p.cells j k))
      (eq-or-lt_of_le l)

  pub ended-fits : PlaneFits ended (row + 1)
  ended-fits = record { room = rw (length-set d row n) p.room; rows = omega arith; cells = λ j l. ended-length j (omega arith) }
