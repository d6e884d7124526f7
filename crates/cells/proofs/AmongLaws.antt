-- The numbers of a plane's regions.
use mathlib.Core.Path.{◌≡◌, ◌∙◌, subst}
use mathlib.Core.List.{List, []}
use Prim.Native.Nat.{ℕ, ◌<◌}
use native.Mathlib.Omega.{arith}
use lib.ListN.{get_or}
use Rattle.lists.proofs.AllLaws.{All, all-at}
use Rattle.lists.proofs.RunLaws.{get_or-build}
use Rattle.model.specs.declared.Cell.TheVariants.{Region, MainDoubleCrossing}
use Rattle.cells.specs.Held.{Numbered}
use Rattle.cells.specs.Plane.{Plane, cell_at, cells_in, row_in, plane_in}
use Rattle.cells.proofs.PlaneLaws.{length-cells, length-plane}

-- all cells of a plane that are regions have numbers below n
abbrev pub Among : ℕ → Plane → Type 0
Among n P = All (All (Numbered n)) P

-- a plane in a slice
pub among-regions : (d : List ℕ) (n count : ℕ) → Among count (plane_in d n) → (row i r : ℕ) → row < n → i < get_or d row 0 → cell_at d row i ≡ Region r → r < count
unfolding plane_in cells_in
among-regions d n count q row i r h k e =
    let a = all-at (All (Numbered count)) (plane_in d n) q row [] (omega (arith, length-plane d n)) in
    let b = subst (All (Numbered count)) (get_or-build n (row_in d) row [] h) a in
    all-at (Numbered count) (row_in d row) b i MainDoubleCrossing (omega (arith, length-cells d row (get_or d row 0))) r
    (get_or-build (get_or d row 0) (cell_at d row) i MainDoubleCrossing k ∙ e)
