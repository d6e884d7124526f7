-- `cells::turning::is_wide` meets its contract.
use mathlib.Core.Path.{◌∙◌}
use Rattle.cells.proofs.turning.UprightLaws.{wide-start, narrow, wide-next, wide_end}
use native.Mathlib.Omega.{arith}
use Rattle.cells.proofs.turning.is_wide.Goals as goal

pub loop-row-init : goal.loop-row-init
loop-row-init c = wide-start _ _ _

pub width-requires : goal.width-requires
width-requires c = let f = c.args.plane.fits in omega (arith, f.rows, c.loop-row-test.true)

pub returns-then-width-w : goal.returns-then-width-w
returns-then-width-w c = narrow _ _ _ _ c.loop-row-test.true (omega (arith, c.width.ensures, c.if-width-w.true)) ∙ c.loop-row.invariant

pub loop-row-preserved : goal.loop-row-preserved
loop-row-preserved c = wide-next _ _ _ _ c.loop-row-test.true (omega (arith, c.width.ensures, c.if-width-w.false)) ∙ c.loop-row.invariant

pub returns : goal.returns
returns c = wide_end _ _ _ _ c.loop-row-test.false ∙ c.loop-row.invariant
