-- `clauses::allowed::allowed` meets its contract.
use Rattle.clauses.proofs.allowed.AllowedLaws.{one_row, two_rows, three_rows, more_rows}
use Rattle.clauses.proofs.allowed.allowed.Goals as goal

pub returns-then-h-eq1 : goal.returns-then-h-eq1
returns-then-h-eq1 c = one_row _ _ _ c.if-h-eq1.true

pub returns-then-h-eq2 : goal.returns-then-h-eq2
returns-then-h-eq2 c = two_rows _ _ _ c.if-h-eq1.false c.if-h-eq2.true c.allowed_two.ensures

pub returns-then-h-eq3 : goal.returns-then-h-eq3
returns-then-h-eq3 c = three_rows _ _ _ c.if-h-eq1.false c.if-h-eq2.false c.if-h-eq3.true c.allowed_three.ensures

pub returns : goal.returns
returns c = more_rows _ _ _ c.if-h-eq1.false c.if-h-eq2.false c.if-h-eq3.false
