-- The regions of a row's cells in a slice, the last one first.
use Rattle.std.specs.Prelude.{Bool, true, false, List, [], ◌∷◌, ℕ, zero, suc, ◌+◌, ◌/◌, get_or, Ok, Err}
use Rattle.model.specs.Refusals.{Reading}
use Rattle.cells.specs.Plane.{place_at}
use Rattle.clauses.specs.allowed.Apart.{Met, twice, once}

-- those of the n cells of row y from column x on, in front of s
unfoldable pub met : List ℕ → ℕ → ℕ → ℕ → List ℕ → List ℕ
met d y x zero s = s
met d y x (suc n) s = (get_or d (place_at y (x + n)) 0 / 8) ∷ met d y x n s

-- those of the row above, if there is one
abbrev pub met_above : List ℕ → ℕ → ℕ → ℕ → List ℕ
met_above d zero x n = []
met_above d (suc y) x n = met d y x n []

-- what a test says, with the regions met
abbrev pub met_in : Reading Bool → List ℕ → Reading Met
met_in (Ok true) s = Ok (once s)
met_in (Ok false) s = Ok twice
met_in (Err r) s = Err r
