-- Looking for the first cell of a kind: in a row, and row by row.
use Rattle.std.specs.Prelude.{Option, None, Some}
use Rattle.std.specs.Option.{is_some}
use mathlib.Core.Path.{◌≡◌, refl, sym, ◌∙◌}
use mathlib.Core.Bool.{true, false}
use mathlib.Core.List.{List}
use Prim.Native.Nat.{ℕ, ◌+◌, ◌≤◌, ◌<◌}
use native.Mathlib.Numerals.{add-one}
use native.Mathlib.Omega.{arith}
use lib.ListN.{get_or, drop}
use Rattle.lists.proofs.RunLaws.{drop-build, drop_build_end}
use Rattle.model.specs.Cells.{same_kind}
use Rattle.model.specs.declared.Cell.{Cell}
use Rattle.cells.specs.Plane.{cell_at, cells_in, row_in, plane_in}
use Rattle.cells.specs.declared.place.Place.{Place}
use Rattle.cells.specs.Places.{place_in_row, place_from, place_of}

-- none of the first x cells of row y is of the kind
pub record SoughtInRow (kind : Cell) (d : List ℕ) (y x : ℕ) : Type 0 where
  pub within : x ≤ get_or d y 0
  pub rest : place_in_row kind y 0 (row_in d y) ≡ place_in_row kind y x (drop x (row_in d y))

pub row-start : (kind : Cell) (d : List ℕ) (y : ℕ) → SoughtInRow kind d y 0
row-start kind d y = record { within = omega arith; rest = refl }

module _ {kind : Cell} {d : List ℕ} {y x : ℕ} (p : SoughtInRow kind d y x) where
  pub row_end : get_or d y 0 ≤ x → None ≡ place_in_row kind y 0 (row_in d y)
  unfolding place_in_row cells_in
  row_end h = sym (p.rest ∙ rw (drop_build_end (get_or d y 0) (cell_at d y) x h))

  module _ (h : x < get_or d y 0) where
    pub row-found : same_kind kind (cell_at d y x) ≡ true → Some (record { row = y; col = x }) ≡ place_in_row kind y 0 (row_in d y)
    unfolding place_in_row cells_in
    row-found e = sym (p.rest ∙ rw (drop-build (get_or d y 0) (cell_at d y) x h, e))

    pub row_next : same_kind kind (cell_at d y x) ≡ false → SoughtInRow kind d y (x + 1)
    unfolding place_in_row cells_in
    row_next e = record { within = omega arith; rest = p.rest ∙ rw (drop-build (get_or d y 0) (cell_at d y) x h, e, add-one x) }

-- none of the first y rows has a cell of the kind
pub record SoughtInRows (kind : Cell) (d : List ℕ) (rows y : ℕ) : Type 0 where
  pub within : y ≤ rows
  pub rest : place_of kind (plane_in d rows) ≡ place_from kind y (drop y (plane_in d rows))

pub rows_start : (kind : Cell) (d : List ℕ) (rows : ℕ) → SoughtInRows kind d rows 0
rows_start kind d rows = record { within = omega arith; rest = refl }

module _ {kind : Cell} {d : List ℕ} {rows y : ℕ} (p : SoughtInRows kind d rows y) where
  pub rows_end : rows ≤ y → None ≡ place_of kind (plane_in d rows)
  unfolding place_from plane_in
  rows_end h = sym (p.rest ∙ rw (drop_build_end rows (row_in d) y h))

  module _ (h : y < rows) where
    pub rows-found : {q : Place} → Some q ≡ place_in_row kind y 0 (row_in d y) → Some q ≡ place_of kind (plane_in d rows)
    unfolding place_from plane_in
    rows-found e = sym (p.rest ∙ rw (drop-build rows (row_in d) y h, sym e))

    pub rows_next : None ≡ place_in_row kind y 0 (row_in d y) → SoughtInRows kind d rows (y + 1)
    unfolding place_from plane_in
    rows_next e = record { within = omega arith; rest = p.rest ∙ rw (drop-build rows (row_in d) y h, sym e, add-one y) }

-- whether there is one
pub spot_is : (s : Option Place) → is_some s ≡ true → (p : Place) × (s ≡ Some p)
spot_is (Some p) e = (p, refl)
spot_is None e = cc

pub spot_not : (s : Option Place) → is_some s ≡ false → s ≡ None
spot_not (Some p) e = cc
spot_not None e = refl
