-- A table as a list of rows, and its transpose. In document 01 the transpose is "turned".
use Rattle.std.specs.Prelude.{List, [], ◌∷◌, map, ◌≡◌, ℕ, length, get_or}
use Rattle.lists.specs.Run.{build}

module _ {A : Type 0} where
  -- the cells of the first row
  unfoldable pub width : List (List A) → ℕ
  width [] = 0
  width (r ∷ P) = length r

  -- every row has w cells
  unfoldable pub Rows : ℕ → List (List A) → Type 0
  Rows w [] = Unit {0}
  Rows w (r ∷ P) = (length r ≡ w) × Rows w P

  -- equally many cells in all rows: "even" in document 01
  abbrev pub Even : List (List A) → Type 0
  Even P = Rows (width P) P

-- column j, each cell changed by g; d stands for a cell that is not there
unfoldable pub column : {A B : Type 0} → (A → B) → A → List (List A) → ℕ → List B
column g d P j = map (λ r. g (get_or r j d)) P

-- the cell of row i, column j in row j, column i, changed by g
unfoldable pub transpose : {A B : Type 0} → (A → B) → A → List (List A) → List (List B)
transpose g d P = build (width P) (column g d P)
