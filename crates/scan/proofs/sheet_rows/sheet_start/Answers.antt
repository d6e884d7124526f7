-- `scan::sheet_rows::sheet_start` meets its contract.
use Rattle.scan.proofs.sheet_rows.Measuring.{seeking_more, seeking_found, seeking_end, valid_more}
use Rattle.scan.proofs.sheet_rows.sheet_start.Goals as goal

pub returns-then-l-eq-LIGHT_DOWN_AND_RIGHT : goal.returns-then-l-eq-LIGHT_DOWN_AND_RIGHT
returns-then-l-eq-LIGHT_DOWN_AND_RIGHT c =
    let i = c.loop-start.invariant in
    record { start = seeking_found i.0 c.line_head-l.ensures.head c.if-l-eq-LIGHT_DOWN_AND_RIGHT.true; valid = i.1 }

pub loop-start-preserved : goal.loop-start-preserved
loop-start-preserved c =
    let i = c.loop-start.invariant in
    let l = c.line_head-l.ensures in
    (seeking_more i.0 l.head c.if-l-eq-LIGHT_DOWN_AND_RIGHT.false, valid_more i.1 c.loop-start-test.true l.valid)

pub returns : goal.returns
returns c = let i = c.loop-start.invariant in record { start = seeking_end i.0 c.loop-start-test.false; valid = i.1 }
