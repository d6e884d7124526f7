-- `plane::lent::load_row` meets its contract.
use mathlib.Core.Path.{sym, subst}
use Prim.Native.Nat.{◌+◌}
use Rattle.model.specs.Cells.{Small}
use Rattle.cells.proofs.WriterLaws.{row-begun, row-more, row-full}
use Rattle.plane.proofs.lent.KindLaws.{kind-small}
use native.Mathlib.Omega.{arith}
use Rattle.plane.proofs.lent.load_row.Goals as goal

pub loop-i-init : goal.loop-i-init
loop-i-init c = (omega arith, row-begun _ _)

pub put_cell-requires : goal.put_cell-requires
put_cell-requires c =
    let p = c.requires in
    let i = c.args.at + c.loop-i.i in
    let h = c.loop-i-test.true in (
      omega (arith, c.loop-i.invariant.1.kept.rows, p.3),
      omega (arith, h, p.2),
      subst Small (sym c.cell_of_kind-c.ensures) (kind-small _ _ (p.0.known i (omega (arith, h, p.1)))),
    )

pub loop-i-preserved : goal.loop-i-preserved
loop-i-preserved c =
    (omega (arith, c.loop-i-test.true), row-more c.loop-i.invariant.1 c.cell_of_kind-c.ensures c.put_cell.ensures.cells c.put_cell.ensures.kept)

pub returns : goal.returns
returns c =
    let f = row-full c.loop-i.invariant.1 c.args.n c.loop-i.invariant.0 c.loop-i-test.false in
    record { cells = f.cells; kept = f.kept }
