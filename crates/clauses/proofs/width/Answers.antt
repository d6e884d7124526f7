-- `clauses::width` meets its contract.
use mathlib.Core.Path.{sym, ◌∙◌}
use native.Mathlib.Omega.{arith}
use Rattle.clauses.proofs.cell_tests.CellLaws.{width_in, width-out}
use Rattle.clauses.proofs.width.Goals as goal

pub returns-then-plane-eq0 : goal.returns-then-plane-eq0
returns-then-plane-eq0 c = (sym (width-out _ _ 0 0 (omega arith)), omega arith)

pub returns : goal.returns
returns c =
    let f = c.args.plane.fits in
    (c.width.ensures ∙ sym (width_in _ _ 0 0 (omega arith)), omega (arith, c.width.ensures, f.cells 0 (omega arith)))
