-- `scan::line_checks::validate_lines` meets its contract.
use mathlib.Core.Path.{sym, ◌∙◌}
use Rattle.scan.proofs.line_checks.validate_lines.Goals as goal

pub loop-at-preserved : goal.loop-at-preserved
loop-at-preserved c =
    let i = c.loop-at.invariant in
    let v = c.line_end-e.ensures.valid in
    (i.0 ∙ rw (i.1 c.loop-at-test.true) v.same, v.level)

pub returns : goal.returns
returns c = c.validate_from.ensures ∙ sym c.loop-at.invariant.0
