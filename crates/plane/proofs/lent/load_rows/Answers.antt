-- `plane::lent::load_rows` meets its contract.
use mathlib.Core.Path.{◌∙◌}
use lib.ListN.{length}
use Rattle.cells.proofs.WriterLaws.{plane-begun, plane-more, plane-full}
use Rattle.plane.proofs.lent.SumLaws.{start_zero, start-next, row_within}
use Rattle.plane.proofs.lent.CutLaws.{row_at, cut-rows}
use Rattle.plane.proofs.lent.KindLaws.{lent_cell}
use native.Mathlib.Omega.{arith}
use Rattle.plane.proofs.lent.load_rows.Goals as goal

pub loop-row-init : goal.loop-row-init
loop-row-init c = (omega arith, start_zero c.args.l.rows.now, plane-begun _ _ c.requires.1)

pub load_row-requires : goal.load_row-requires
load_row-requires c =
    let h = c.loop-row-test.true in
    let p = c.requires in (
      p.0.cells,
      omega (arith, c.loop-row.invariant.1, row_within c.args.l.rows.now c.loop-row.row h, p.0.total),
      p.0.short _ h,
      omega (arith, c.loop-row.invariant.2.rows, h, p.0.few),
    )

pub end_row-requires : goal.end_row-requires
end_row-requires c =
    let h = c.loop-row-test.true in
    let p = c.requires in
    (omega (arith, c.load_row.ensures.kept.rows, c.loop-row.invariant.2.rows, h, p.0.few), p.0.short _ h)

pub overflow_add-at : goal.overflow_add-at
overflow_add-at c =
    omega (arith, c.loop-row.invariant.1, row_within c.args.l.rows.now c.loop-row.row c.loop-row-test.true, c.requires.0.total, c.well_formed)

pub loop-row-preserved : goal.loop-row-preserved
loop-row-preserved c =
    let h = c.loop-row-test.true in
    let a = c.args in
    let i = c.loop-row.invariant in (
      omega (arith, h),
      rw i.1 (start-next a.l.rows.now c.loop-row.row h),
      plane-more i.2 c.load_row.ensures.kept
          (c.load_row.ensures.cells ∙ row_at a.l.rows.now (lent_cell a.l.kinds.now a.l.regions.now) c.loop-row.row c.loop-row.at i.1)
          c.end_row.ensures,
    )

pub returns : goal.returns
returns c =
    let a = c.args in
    let i = c.loop-row.invariant in
    let f = plane-full i.2 (length a.l.rows.now) i.0 c.loop-row-test.false in
    record {
      rows = omega (arith, i.2.rows, i.0, c.loop-row-test.false);
      plane = record { same = f.same; plane = f.plane ∙ cut-rows a.l.rows.now (length a.l.kinds.now) (lent_cell a.l.kinds.now a.l.regions.now) c.requires.0.total };
    }
