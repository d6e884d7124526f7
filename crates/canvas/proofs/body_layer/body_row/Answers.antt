-- `canvas::body_layer::body_row` meets its contract. The invariant: the first k characters of the row are made, in BODY and in GRID.
use Rattle.canvas.proofs.thin_layer.Turning.{turning_start, turning_more, turning_end}
use Rattle.canvas.proofs.body_layer.body_row.Goals as goal

pub loop-k-init : goal.loop-k-init
loop-k-init c = (turning_start _ _ _, turning_start _ _ _)

pub loop-k-preserved : goal.loop-k-preserved
loop-k-preserved c =
    let l = c.loop-k in
    let t = c.loop-k-test.true in
    (turning_more l.invariant.0 _ t c.body_at.auto.bodies c.body_at.ensures.bodies_after, turning_more l.invariant.1 _ t c.body_at.auto.grid c.body_at.ensures.grid_after)

pub returns : goal.returns
returns c =
    let l = c.loop-k in
    record { bodies_after = turning_end l.invariant.0 c.loop-k-test.false; grid_after = turning_end l.invariant.1 c.loop-k-test.false }
