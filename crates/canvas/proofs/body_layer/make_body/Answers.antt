-- `canvas::body_layer::make_body` meets its contract. The invariant: the first y rows are made, in BODY and in GRID.
use Prim.Native.Nat.{ℕ, ◌+◌, ◌-◌, ◌*◌, ◌≤◌}
use native.Mathlib.Omega.{arith}
use Rattle.canvas.proofs.body_layer.SizeLaws.{row_fits, sides_fit}
use Rattle.canvas.proofs.body_layer.BodyLaws.{body-canvas, shaded_canvas}
use Rattle.canvas.proofs.thin_layer.Turning.{turning_start, turning_more, turning_end}
use Rattle.canvas.proofs.body_layer.make_body.Goals as goal
use Rattle.canvas.proofs.body_layer.make_body.Goals.{In-loop-y}

pub loop-y-init : goal.loop-y-init
loop-y-init c = (turning_start _ _ _, turning_start _ _ _)

row : (c : In-loop-y) (n : ℕ) → c.args.thins.height * c.args.thins.width ≤ n
    → c.loop-y.y * c.args.thins.width + c.args.r.left + (c.args.r.right - c.args.r.left) ≤ n
row c n f = row_fits c.requires.body c.loop-y.y n c.loop-y-test.true f

pub overflow_mul-y : goal.overflow_mul-y
overflow_mul-y c = omega (arith, row (goal.at.overflow_mul-y c).In-loop-y _ c.args.thins.sized, c.well_formed)

pub overflow_add-y : goal.overflow_add-y
overflow_add-y c = omega (arith, row (goal.at.overflow_add-y c).In-loop-y _ c.args.thins.sized, c.well_formed)

pub body_row-requires : goal.body_row-requires
body_row-requires c =
    let z = c.requires.sizes in
    let row_in = row (goal.at.body_row-requires c).In-loop-y in
    let sides = sides_fit c.requires.body _ c.args.thins.sized in
    omega (arith, row_in _ c.args.thins.sized, row_in _ z.0, row_in _ z.1, sides.1, c.requires.body.inside, c.loop-y.invariant)

pub loop-y-preserved : goal.loop-y-preserved
loop-y-preserved c =
    let l = c.loop-y in
    let t = c.loop-y-test.true in
    (turning_more l.invariant.0 _ t c.body_row.auto.bodies c.body_row.ensures.bodies_after, turning_more l.invariant.1 _ t c.body_row.auto.grid c.body_row.ensures.grid_after)

pub returns : goal.returns
returns c =
    let a = c.args in
    let z = c.requires.sizes in
    let t = a.thins in
    let l = c.loop-y in
    record {
      bodies_after = body-canvas t.width t.height a.r c.requires.body t.codes.now a.bodies.now _ z.0 (turning_end l.invariant.0 c.loop-y-test.false);
      grid_after = shaded_canvas t.width t.height a.r c.requires.body a.grid.now _ z.1 (turning_end l.invariant.1 c.loop-y-test.false);
    }
