-- What loading answers, and that the slices then hold a plane.
use Rattle.std.specs.Prelude.{Ok, Err}
use mathlib.Core.Path.{◌≡◌, sym, ◌∙◌}
use mathlib.Core.Bool.{true, false}
use mathlib.Core.List.{List}
use Prim.Native.Nat.{ℕ, ◌+◌, ◌*◌, ◌≤◌, ◌<◌}
use native.Mathlib.Omega.{arith}
use lib.ListN.{length, get_or}
use Rattle.lists.specs.Run.{build}
use Rattle.model.specs.Limits.{region_count}
use Rattle.model.specs.declared.Cell.{Cell}
use Rattle.model.specs.declared.Cell.TheVariants.{Region}
use Rattle.model.specs.declared.Refusal.TheVariants.{LentPlaneMalformed}
use Rattle.cells.specs.Held.{Held}
use Rattle.cells.specs.Plane.{cell_at, row_in, plane_in, PlaneFits}
use Rattle.cells.specs.Spans.{texts_in}
use Rattle.cells.proofs.PlaneLaws.{plane-row, row-length, row_cell}
use Rattle.plane.specs.lent.LentPlane.{LentPlane, sum, cut, well_formed, lent_of}
use Rattle.plane.specs.lent.Held.{SpansIn}
use Rattle.plane.proofs.lent.SumLaws.{start_of, row_within}
use Rattle.plane.proofs.lent.CutLaws.{row_cells, cut-rows}
use Rattle.plane.proofs.lent.KindLaws.{lent_cell, kind-region}
use Rattle.plane.proofs.lent.TextLaws.{text_on}
use Rattle.plane.proofs.lent.FormLaws.{rows_good, regions-few, region-known}

module _ (l : LentPlane) where
  pub lent-refused : well_formed l ≡ false → Err LentPlaneMalformed ≡ lent_of l
  unfolding lent_of
  lent-refused e = rw e

  abbrev cells : ℕ → Cell
  cells = lent_cell l.kinds l.regions

  module _ (e : well_formed l ≡ true) (d spans : List ℕ) (p : plane_in d (length l.rows) ≡ cut l.rows (build (length l.kinds) cells)) where
    pub lent_loaded : texts_in l.bytes spans (length l.offsets) ≡ build (length l.offsets) (text_on l.offsets l.sizes l.bytes)
        → Ok (record { plane = plane_in d (length l.rows); texts = texts_in l.bytes spans (length l.offsets) }) ≡ lent_of l
    unfolding lent_of
    lent_loaded t = rw (e, p, t)

    total : sum l.rows ≡ length l.kinds
    total = (rows_good l e).total

    row_loaded : (row : ℕ) → row < length l.rows → row_in d row ≡ row_cells l.rows cells row
    row_loaded row h = plane-row d (length l.rows) (row_cells l.rows cells) (p ∙ sym (cut-rows l.rows (length l.kinds) cells total)) row h

    region-held : (row i r : ℕ) → row < length l.rows → i < get_or d row 0 → cell_at d row i ≡ Region r → r < length l.offsets
    region-held row i r h b x =
        let n = get_or l.rows row 0 in
        let k = start_of l.rows row + i in
        let g : ℕ → Cell = λ j. cells (start_of l.rows row + j) in
        let m : get_or d row 0 ≡ n = row-length d row n g (row_loaded row h) in
        let c : cell_at d row i ≡ cells k = row_cell d row n g (row_loaded row h) i (omega arith) in
        let z = kind-region (get_or l.kinds k 0) (get_or l.regions k 0) r (sym c ∙ x) in
        let w : k < length l.kinds = omega (arith, row_within l.rows row h, total) in
        omega (arith, z.1, region-known l e k w z.0)

    pub lent-held : PlaneFits d (length l.rows) → region_count * 2 ≤ length spans → SpansIn l.bytes spans (length l.offsets)
        → Held d (length l.rows) l.bytes spans (length l.offsets)
    lent-held f t s = record { fits = f; regions = region-held; two_each = omega (arith, regions-few l e); inside = s.inside }
