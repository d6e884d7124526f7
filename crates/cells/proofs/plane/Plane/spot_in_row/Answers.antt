-- `cells::plane::Plane::spot_in_row` meets its contract.
use mathlib.Core.Path.{sym, ap, ◌∙◌}
use native.Mathlib.Omega.{arith}
use Rattle.model.specs.Cells.{same_kind}
use Rattle.cells.proofs.SpotLaws.{row-start, row_end, row-found, row_next}
use Rattle.cells.proofs.plane.Plane.spot_in_row.Goals as goal

pub width-x-end-requires : goal.width-x-end-requires
width-x-end-requires c = let f = c.args.self.fits in omega (arith, f.rows, c.requires)

pub loop-x-init : goal.loop-x-init
loop-x-init c = row-start _ _ _

pub cell-requires : goal.cell-requires
cell-requires c =
    let f = c.args.self.fits in
    (omega (arith, f.rows, c.requires), omega (arith, c.loop-x-test.true, c.width-x-end.ensures, f.cells c.args.y c.requires))

pub returns-then-is_same_kind : goal.returns-then-is_same_kind
returns-then-is_same_kind c =
    let f = c.args.self.fits in
    let e = ap (same_kind c.args.kind) (sym c.cell.ensures.cell) ∙ sym c.is_same_kind.ensures ∙ c.if-is_same_kind.true in
    record {
      spot = row-found c.loop-x.invariant (omega (arith, c.loop-x-test.true, c.width-x-end.ensures)) e;
      within = (omega arith, omega (arith, c.loop-x-test.true, c.width-x-end.ensures, f.cells c.args.y c.requires));
    }

pub loop-x-preserved : goal.loop-x-preserved
loop-x-preserved c =
    row_next c.loop-x.invariant (omega (arith, c.loop-x-test.true, c.width-x-end.ensures))
    (ap (same_kind c.args.kind) (sym c.cell.ensures.cell) ∙ sym c.is_same_kind.ensures ∙ c.if-is_same_kind.false)

pub returns : goal.returns
returns c = record { spot = row_end c.loop-x.invariant (omega (arith, c.loop-x-test.false, c.width-x-end.ensures)); within = tt }
