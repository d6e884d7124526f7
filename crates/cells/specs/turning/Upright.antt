-- The upright sheet of a plane: `remove_first_column`, `remove_last_row` and `pivot` of the Rust.
use Rattle.std.specs.Prelude.{Bool, true, ◌&&◌, List, [], ◌∷◌, map, ℕ, leb, ltb, length, drop, Ok, Err}
use Rattle.lists.specs.Choose.{choose}
use Rattle.lists.specs.Transpose.{width, transpose}
use Rattle.model.specs.Cells.{turned_cell}
use Rattle.model.specs.Refusals.{Reading}
use Rattle.model.specs.declared.Cell.TheVariants.{MainDoubleCrossing}
use Rattle.model.specs.declared.Orientation.{Orientation}
use Rattle.model.specs.declared.Orientation.TheVariants.{RulesAsRows, RulesAsColumns}
use Rattle.model.specs.declared.Refusal.TheVariants.{PlaneMalformed}
use Rattle.cells.specs.Plane.{Plane}

-- all rows but the last
unfoldable pub but_last : {A : Type 0} → List A → List A
but_last [] = []
but_last (a ∷ []) = []
but_last (a ∷ b ∷ s) = a ∷ but_last (b ∷ s)

-- every row has at least w cells
unfoldable pub wide : {A : Type 0} → ℕ → List (List A) → Bool
wide w [] = true
wide w (r ∷ P) = leb w (length r) && wide w P

-- a plane turned, double lines changing direction. (The third word stands for a cell that is not there; a wide plane has none such.)
abbrev pub turned : Plane → Plane
turned P = transpose turned_cell MainDoubleCrossing P

-- the columns of a plane as rows: as many as the first row has cells. A shorter row is 10, as is a plane without rows; a longer row is cut
unfoldable pub pivot_of : Plane → Reading Plane
pivot_of P = choose (ltb 0 (length P) && wide (width P) P) (Ok (turned P)) (Err PlaneMalformed)

-- a row sheet loses its numbers' column; a column sheet its numbers' row, and is turned
unfoldable pub upright_of : Orientation → Plane → Reading Plane
upright_of RulesAsRows P = Ok (map (drop 1) P)
upright_of RulesAsColumns P = pivot_of (but_last P)
