-- `cells::plane::Plane::spot_of` meets its contract.
use mathlib.Core.Path.{sym}
use native.Mathlib.Omega.{arith}
use Rattle.cells.proofs.SpotLaws.{rows_start, rows_end, rows-found, rows_next, spot_is, spot_not}
use Rattle.cells.proofs.plane.Plane.spot_of.Goals as goal

pub loop-y-init : goal.loop-y-init
loop-y-init c = rows_start _ _ _

pub returns-then-is_some : goal.returns-then-is_some
returns-then-is_some c =
    let s = spot_is c.spot_in_row-spot.result (sym c.if-is_some.ensures) in
    let w = rw s.1 at c.spot_in_row-spot.ensures.within in
    rw s.1 (record { spot = rows-found c.loop-y.invariant c.loop-y-test.true (rw s.1 at c.spot_in_row-spot.ensures.spot); within = (omega (arith, w.0, c.loop-y-test.true), w.1) })

pub loop-y-preserved : goal.loop-y-preserved
loop-y-preserved c =
    let e = spot_not c.spot_in_row-spot.result (sym c.if-is_some.ensures) in
    rows_next c.loop-y.invariant c.loop-y-test.true (rw e at c.spot_in_row-spot.ensures.spot)

pub returns : goal.returns
returns c = record { spot = rows_end c.loop-y.invariant c.loop-y-test.false; within = tt }
