-- The cells of a sheet in a slice, and their regions.
use Rattle.std.specs.Prelude.{Ok, Err, Option}
use mathlib.Core.Path.{◌≡◌, ap, ◌∙◌}
use mathlib.Core.List.{List, []}
use Prim.Native.Nat.{ℕ, ◌≤◌, ◌<◌}
use native.Mathlib.Omega.{arith}
use lib.ListN.{length, get_or}
use borrow.Author.Tests.{lt-ltb, le-ltb}
use Rattle.lists.specs.Choose.{on_some}
use Rattle.lists.proofs.RunLaws.{get_or-build, get_or_run_out}
use Rattle.model.specs.Cells.{region_of}
use Rattle.model.specs.declared.Cell.{Cell}
use Rattle.model.specs.declared.Cell.TheVariants.{Region}
use Rattle.model.specs.declared.Refusal.TheVariants.{CellOutOfRange, CellNotRegion}
use Rattle.cells.specs.Plane.{cell_at, cells_in, row_in, plane_in}
use Rattle.cells.proofs.PlaneLaws.{length-cells}
use Rattle.clauses.specs.cell_tests.SheetCells.{width_of, cell_in, region_at}

module _ (d : List ℕ) (rows y x : ℕ) where
  pub row_in_lem : y < rows → get_or (plane_in d rows) y [] ≡ row_in d y
  unfolding plane_in
  row_in_lem h = get_or-build rows (row_in d) y [] h

  pub width_in : y < rows → width_of (plane_in d rows) y ≡ get_or d y 0
  width_in h = ap length (row_in_lem h) ∙ length-cells d y (get_or d y 0)

  pub width-out : rows ≤ y → width_of (plane_in d rows) y ≡ 0
  unfolding plane_in
  width-out h = ap length (get_or_run_out (row_in d) 0 rows y [] h)

  pub cell_in_lem : y < rows → x < get_or d y 0 → cell_in (plane_in d rows) y x ≡ cell_at d y x
  unfolding cells_in
  cell_in_lem h k = ap (λ (r : List Cell). get_or r x (Region 0)) (row_in_lem h) ∙ get_or-build (get_or d y 0) (cell_at d y) x (Region 0) k

  pub region_below : rows ≤ y → Err (CellOutOfRange y x) ≡ region_at (plane_in d rows) y x
  unfolding region_at
  region_below h = rw (width-out h, le-ltb x 0 (omega arith))

  pub region-right : y < rows → get_or d y 0 ≤ x → Err (CellOutOfRange y x) ≡ region_at (plane_in d rows) y x
  unfolding region_at
  region-right h k = rw (width_in h, le-ltb x (get_or d y 0) k)

  pub region-by : (o : Option ℕ) → y < rows → x < get_or d y 0 → region_of (cell_at d y x) ≡ o
      → on_some o Ok (Err (CellNotRegion y x)) ≡ region_at (plane_in d rows) y x
  unfolding region_at
  region-by o h k e = rw (width_in h, lt-ltb x (get_or d y 0) k, cell_in_lem h k, e)
