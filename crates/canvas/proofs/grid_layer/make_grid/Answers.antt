-- `canvas::grid_layer::make_grid` meets its contract.
use Prim.Native.Nat.{◌+◌, ◌*◌, ◌<◌, ◌≤◌}
use native.Mathlib.Omega.{arith}
use lib.ListN.{length}
use Rattle.canvas.proofs.body_layer.SizeLaws.{corner_in_lem, rows_in_lem, columns_in}
use Rattle.canvas.proofs.grid_layer.CarryLaws.{across_stays, down_stays}
use Rattle.canvas.proofs.grid_layer.GridLaws.{grid-canvas}
use Rattle.canvas.proofs.grid_layer.make_grid.Goals as goal
use Rattle.canvas.proofs.grid_layer.make_grid.Goals.{After-carry_lines, After-copy_layer}

-- what stands in GRID is as long
copied : (c : After-copy_layer) → c.args.bodies.height * c.args.bodies.width ≤ length c.copy_layer.new.dst
copied c = omega (arith, c.copy_layer.auto.dst, c.requires.sizes)

carried : (c : After-carry_lines) → c.args.bodies.height * c.args.bodies.width ≤ length c.copy_layer.new.dst → c.args.bodies.height * c.args.bodies.width ≤ length c.carry_lines.new.grid
carried c l = omega (arith, l, c.carry_lines.auto.grid)

corner : (c : After-copy_layer) → c.args.r.top * c.args.bodies.width + c.args.r.left < length c.args.grid.now
corner c = corner_in_lem c.requires.body c.args.grid.now c.requires.sizes

pub overflow_mul-base : goal.overflow_mul-base
overflow_mul-base c = omega (arith, corner (goal.at.overflow_mul-base c).After-copy_layer)

pub overflow_add-base : goal.overflow_add-base
overflow_add-base c = omega (arith, corner (goal.at.overflow_add-base c).After-copy_layer)

pub carry_lines-requires : goal.carry_lines-requires
carry_lines-requires c =
    record { by_index = rows_in_lem c.requires.body _ (copied (goal.at.carry_lines-requires c).After-copy_layer); n_nonzero = omega arith; line_stays = across_stays }

pub carry_lines-requires-2 : goal.carry_lines-requires-2
carry_lines-requires-2 c =
    record { by_index = columns_in c.requires.body _ (carried (goal.at.carry_lines-requires-2 c).After-carry_lines (copied (goal.at.carry_lines-requires-2 c).After-copy_layer)); n_nonzero = omega arith; line_stays = down_stays }

pub returns : goal.returns
returns c =
    let b = c.args.bodies in
    let k = copied (goal.at.returns c).After-copy_layer in
    grid-canvas b.width b.height c.args.r c.requires.body b.codes.now c.args.grid.now _ _ _ b.sized k (carried (goal.at.returns c).After-carry_lines k)
    c.copy_layer.ensures c.carry_lines.ensures c.carry_lines-2.ensures
