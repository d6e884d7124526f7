-- `plane::placement::as_columns` meets its contract.
use Rattle.plane.proofs.placement.as_columns.Goals as goal

pub returns-in-LeftBelow : goal.returns-in-LeftBelow
returns-in-LeftBelow c = rw c.in-LeftBelow.is

pub returns-in-RightAfter : goal.returns-in-RightAfter
returns-in-RightAfter c = rw c.in-RightAfter.is

pub returns-in-NotPresent : goal.returns-in-NotPresent
returns-in-NotPresent c = rw c.in-NotPresent.is
