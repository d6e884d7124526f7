-- `plane::lent::total` meets its contract.
use mathlib.Core.Path.{◌∙◌}
use Rattle.plane.proofs.lent.SumLaws.{start_zero, start-next, start_end}
use native.Mathlib.Omega.{arith}
use Rattle.plane.proofs.lent.total.Goals as goal

pub loop-m-init : goal.loop-m-init
loop-m-init c = (omega arith, start_zero c.args.rows.now, omega arith)

pub loop-m-preserved : goal.loop-m-preserved
loop-m-preserved c =
    let r = c.args.rows.now in
    (omega arith, rw c.loop-m.invariant.1 (start-next r c.loop-m.m-index c.loop-m-test.true), omega (arith, c.type_inv.rows c.loop-m.m-index))

pub returns : goal.returns
returns c = c.loop-m.invariant.1 ∙ start_end _ _ c.loop-m.invariant.0 c.loop-m-test.false
