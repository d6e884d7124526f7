-- `clauses::allowed::is_met` meets its contract.
use Rattle.clauses.proofs.allowed.MetLaws.{met-here, met_else, above_row, no_row}
use Rattle.clauses.proofs.allowed.is_met.Goals as goal

pub returns-then-is_among : goal.returns-then-is_among
returns-then-is_among c = met-here _ _ _ _ _ _ c.is_among.ensures c.if-is_among.true

pub returns-then-y-gt0 : goal.returns-then-y-gt0
returns-then-y-gt0 c =
    met_else _ _ _ _ _ _ c.is_among.ensures c.if-is_among.false (above_row _ _ _ _ _ c.if-y-gt0.true c.is_among-then-y-gt0.ensures)

pub returns : goal.returns
returns c = met_else _ _ _ _ _ _ c.is_among.ensures c.if-is_among.false (no_row _ _ _ _ _ c.if-y-gt0.false)
