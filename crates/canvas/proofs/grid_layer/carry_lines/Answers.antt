-- `canvas::grid_layer::carry_lines` meets its contract. The invariant: the first j lines are carried.
use Prim.Native.Nat.{ℕ, ◌<◌}
use native.Mathlib.Omega.{arith}
use Rattle.lists.specs.Line.{placed}
use lib.ListN.{length}
use Rattle.canvas.proofs.thin_layer.Turning.{turning_start, turning_more, turning_end}
use Rattle.canvas.proofs.grid_layer.carry_lines.Goals as goal
use Rattle.canvas.proofs.grid_layer.carry_lines.Goals.{In-loop-j}

pub loop-j-init : goal.loop-j-init
loop-j-init c = turning_start _ _ _

-- the line's places lie in the layer
inside : (c : In-loop-j) (k : ℕ) → k < c.args.l.count → placed c.args.l.base c.args.across c.args.l.stride c.loop-j.j k < length c.args.grid.now
inside c k h = c.requires.by_index c.loop-j.j k c.loop-j-test.true h

pub overflow_mul-line : goal.overflow_mul-line
overflow_mul-line c = omega (arith, inside (goal.at.overflow_mul-line c).In-loop-j 0 (omega arith))

pub overflow_add-line : goal.overflow_add-line
overflow_add-line c = omega (arith, inside (goal.at.overflow_add-line c).In-loop-j 0 (omega arith))

pub carry_line-requires : goal.carry_line-requires
carry_line-requires c = record { by_index = (λ k h. omega (arith, inside (goal.at.carry_line-requires c).In-loop-j k h, c.loop-j.invariant.long)); line_stays = c.requires.line_stays }

pub loop-j-preserved : goal.loop-j-preserved
loop-j-preserved c =
    turning_more c.loop-j.invariant _ c.loop-j-test.true c.carry_line.auto.grid c.carry_line.ensures

pub returns : goal.returns
returns c = turning_end c.loop-j.invariant c.loop-j-test.false
