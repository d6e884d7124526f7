-- `plane::lent::rows_fit` meets its contract.
use Prim.Native.Nat.{◌≤◌, ◌<◌}
use borrow.Author.Tests.{le-leb, lt-leb}
use lib.ListN.{get_or}
use Rattle.model.specs.Limits.{plane_cells}
use Rattle.plane.proofs.lent.LimitLaws.{short}
use Rattle.plane.proofs.lent.AllAtLaws.{all_start, all_more, all-out, all_end}
use native.Mathlib.Omega.{arith}
use Rattle.plane.proofs.lent.rows_fit.Goals as goal

pub loop-i-init : goal.loop-i-init
loop-i-init c = (omega arith, all_start (short c.args.rows.now))

pub returns-then-rows-i-gt-PLANE_CELLS : goal.returns-then-rows-i-gt-PLANE_CELLS
returns-then-rows-i-gt-PLANE_CELLS c =
    let r = c.args.rows.now in
    let h : plane_cells < get_or r c.loop-i.i 0 = omega (arith, c.if-rows-i-gt-PLANE_CELLS.true) in
    all-out (short r) _ c.loop-i.i c.loop-i-test.true (lt-leb _ _ h)

pub loop-i-preserved : goal.loop-i-preserved
loop-i-preserved c =
    let r = c.args.rows.now in
    let h : get_or r c.loop-i.i 0 ≤ plane_cells = omega (arith, c.if-rows-i-gt-PLANE_CELLS.false) in
    (omega arith, all_more (short r) c.loop-i.i c.loop-i.invariant.1 (le-leb _ _ h))

pub returns : goal.returns
returns c = all_end (short c.args.rows.now) _ c.loop-i.i c.loop-i.invariant.1 c.loop-i.invariant.0 c.loop-i-test.false
