-- Cells of an upright sheet of which no two are of one region: `unique_regions` in plane.rs of the Rust.
use Rattle.std.specs.Prelude.{Bool, true, false, List, [], ◌∷◌, ℕ, zero, suc, Ok}
use Rattle.lists.specs.Answer.{◌>>=◌}
use Rattle.lists.specs.Choose.{choose}
use Rattle.lists.specs.OneOf.{one_of}
use Rattle.model.specs.Refusals.{Reading}
use Rattle.cells.specs.Plane.{Plane}
use Rattle.clauses.specs.cell_tests.SheetCells.{region_at}

-- the regions met so far; or a region was met twice
pub data Met : Type 0 where
  twice : Met
  once : List ℕ → Met

-- the n cells of row y from column x on, behind the regions s, up to the first region that was met before
unfoldable pub meet_row : Plane → ℕ → ℕ → ℕ → List ℕ → Reading Met
meet_row P y x zero s = Ok (once s)
meet_row P y x (suc n) s = do
  a ← region_at P y x
  choose (one_of a s) (Ok twice) (meet_row P y (suc x) n (a ∷ s))

abbrev pub on_met : Met → (List ℕ → Reading Bool) → Reading Bool
on_met twice k = Ok false
on_met (once s) k = k s

unfoldable pub apart_from : Plane → ℕ → ℕ → ℕ → ℕ → List ℕ → Reading Bool
apart_from P y zero x n s = Ok true
apart_from P y (suc rows) x n s = do
  m ← meet_row P y x n s
  on_met m (apart_from P (suc y) rows x n)

-- no region stands twice in so many rows from row 0 on, in the n columns from x on; row by row
abbrev pub all_apart : Plane → ℕ → ℕ → ℕ → Reading Bool
all_apart P rows x n = apart_from P 0 rows x n []
