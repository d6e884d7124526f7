-- `clauses::cell_tests::region_at` meets its contract.
use mathlib.Core.Path.{sym, ap, ◌∙◌}
use native.Mathlib.Omega.{arith}
use Rattle.model.specs.Cells.{region_of}
use Rattle.lists.proofs.OptionLaws.{chosen}
use Rattle.clauses.proofs.cell_tests.CellLaws.{region_below, region-right, region-by}
use Rattle.clauses.proofs.cell_tests.region_at.Goals as goal
use Rattle.clauses.proofs.cell_tests.region_at.Goals.{then-plane-y-via-then-plane-y, then-plane-y-via-else-plane-y+then-width-x}

pub width-requires : goal.width-requires
width-requires c = let f = c.args.plane.fits in omega (arith, f.rows, c.if-plane-y.false)

pub returns-then-plane-y : goal.returns-then-plane-y
returns-then-plane-y c =
    elim c.then-plane-y.branch [
      | then-plane-y-via-then-plane-y w ↦ region_below _ _ _ _ w.if-plane-y.true
      | then-plane-y-via-else-plane-y+then-width-x w ↦ region-right _ _ _ _ w.if-plane-y.false (omega (arith, w.if-width-x.true, w.width.ensures))
    ]

pub cell-requires : goal.cell-requires
cell-requires c =
    let f = c.args.plane.fits in
    (omega (arith, c.if-plane-y.false, f.rows), omega (arith, c.width.ensures, c.if-width-x.false, f.cells c.args.y (omega (arith, c.if-plane-y.false))))

pub returns : goal.returns
returns c =
    c.ok_or.ensures.value ∙ chosen _ _ ∙ region-by _ _ _ _ _ (omega (arith, c.if-plane-y.false)) (omega (arith, c.width.ensures, c.if-width-x.false)) (ap region_of (sym c.cell.ensures.cell) ∙ sym c.region.ensures)
