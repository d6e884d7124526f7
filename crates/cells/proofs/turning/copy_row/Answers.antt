-- `cells::turning::copy_row` meets its contract.
use mathlib.Core.Path.{◌≡◌, sym, ◌∙◌}
use Prim.Native.Nat.{◌-◌}
use lib.ListN.{get_or}
use Rattle.cells.proofs.WriterLaws.{row-begun, row-more}
use Rattle.cells.proofs.turning.UprightLaws.{drop-row}
use native.Mathlib.Omega.{arith}
use Rattle.cells.proofs.turning.copy_row.Goals as goal

pub width-requires : goal.width-requires
width-requires c = let f = c.args.plane.fits in omega (arith, f.rows, c.requires.1)

pub loop-i-init : goal.loop-i-init
loop-i-init c = (omega arith, row-begun _ _)

pub overflow_add-i : goal.overflow_add-i
overflow_add-i c = let f = c.args.plane.fits in record { fits = omega (arith, c.loop-i-test.true, c.width.ensures, f.cells _ c.requires.1) }

pub cell-requires : goal.cell-requires
cell-requires c = let f = c.args.plane.fits in (omega (arith, c.requires.1, f.rows), omega (arith, c.loop-i-test.true, c.width.ensures, f.cells _ c.requires.1))

pub put_cell-requires : goal.put_cell-requires
put_cell-requires c =
    let f = c.args.plane.fits in
    (omega (arith, c.loop-i.invariant.1.kept.rows, c.requires.0), omega (arith, c.loop-i-test.true, c.width.ensures, f.cells _ c.requires.1), c.cell.ensures.small)

pub loop-i-preserved : goal.loop-i-preserved
loop-i-preserved c =
    (omega (arith, c.loop-i-test.true), row-more c.loop-i.invariant.1 c.cell.ensures.cell c.put_cell.ensures.cells c.put_cell.ensures.kept)

pub returns : goal.returns
returns c =
    let d = c.args.plane.cells.now in
    let i = c.loop-i.invariant in
    let n : c.saturating_sub-n.result ≡ get_or d c.args.row 0 - 1 = omega (arith, c.saturating_sub-n.ensures, c.width.ensures) in
    let e : c.loop-i.i ≡ get_or d c.args.row 0 - 1 = omega (arith, i.0, c.loop-i-test.false, n) in
    record { count = n; cells = rw n (rw e at i.1.cells ∙ sym (drop-row d c.args.row)); kept = i.1.kept }
